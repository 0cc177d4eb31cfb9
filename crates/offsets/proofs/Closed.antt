-- Rounds until one changes nothing: the table follows the definition's rounds, and each round that changes something leaves a 0 less.
use mathlib.Core.Path.{◌≡◌, sym, ap, ◌∙◌}
use mathlib.Core.Bool.{Bool, true, false, cond, true≢false}
use mathlib.Core.List.{List}
use Prim.Native.Nat.{ℕ, ◌+◌, ◌<◌}
use native.Mathlib.Omega.{arith}
use Rattle.definition.specs.Edition.{Edition, blocks}
use Rattle.definition.specs.Contents.{size}
use Rattle.definition.specs.Read.{read}
use Rattle.definition.specs.Offsets.{Known, look, Def, round, rounds, closure, offsets}
use Rattle.values.specs.Tables.{table}
use Rattle.rounds.specs.Defs.{turn_of, mine, defs_below}
use Rattle.rounds.specs.Ran.{zeros, Ran}
use Rattle.rounds.proofs.Closing.{rounds_last, stopped}
use Rattle.offsets.proofs.Beginning.{entered}

-- what the table is after some rounds over ds from k on
pub record Closes (f : List ℕ) (n : ℕ) (ds : List Def) (k : List Known) (tab : List ℕ) (changed : Bool) : Type 0 where
  pub number : ℕ
  pub follows : tab ≡ table f n (look (rounds ds number k))
  pub ended : changed ≡ false → round ds (rounds ds number k) ≡ rounds ds number k

module _ (f : List ℕ) (n : ℕ) (ds : List Def) where
  pub close_start : (k : List Known) (tab : List ℕ) → tab ≡ table f n (look k) → Closes f n ds k tab true
  unfolding rounds
  close_start k tab e = record { number = 0; follows = e; ended = λ q. absurd (true≢false q) }

  pub close_turn : (k : List Known) (tab after : List ℕ) (c d : Bool) → Closes f n ds k tab c → Ran f n ds tab after d → Closes f n ds k after d
  close_turn k tab after c d s r =
      let j = rounds ds s.number k in
      let last = rounds_last ds s.number k in
      record {
        number = s.number + 1;
        follows = r.learns j s.follows ∙ ap (λ (l : List Known). table f n (look l)) (sym last);
        ended = λ q. let e = r.still q j s.follows in ap (round ds) (last ∙ e) ∙ sym last;
      }

  pub close_end : (k : List Known) (tab : List ℕ) (c : Bool) → c ≡ false → Closes f n ds k tab c → tab ≡ table f n (look (closure ds k))
  close_end k tab c e s = s.follows ∙ ap (λ (l : List Known). table f n (look l)) (stopped ds s.number k (s.ended e))

  pub close_less : (tab after : List ℕ) (c d : Bool) → c ≡ true → Ran f n ds tab after d → zeros after + cond d 1 0 < zeros tab + cond c 1 0
  close_less tab after c d e r = rw e (omega (arith, r.falls))

-- RSP first, then the others
pub offsets_are : (E : Edition) (f : List ℕ) (n : ℕ) (a b c : List ℕ) → a ≡ table f n (look entered)
    → ((k : List Known) → a ≡ table f n (look k) → b ≡ table f n (look (closure (mine true (defs_below E f (size f blocks))) k)))
    → ((k : List Known) → b ≡ table f n (look k) → c ≡ table f n (look (closure (mine false (defs_below E f (size f blocks))) k)))
    → c ≡ table f n (look (offsets (read E f)))
unfolding offsets read mine turn_of defs_below
offsets_are E f n a b c p q r = r (closure (mine true (defs_below E f (size f blocks))) entered) (q entered p)
