-- The roots of a statement, and the statements of the file, are gone through in order: what is put so far, or is left to put, is a run of them.
use mathlib.Core.Path.{◌≡◌, refl, sym, ap, ◌∙◌}
use mathlib.Core.List.{List, [], ◌∷◌, map, map-append}
use Prim.Native.Nat.{ℕ, suc, ◌+◌, ◌-◌, ◌≤◌, ◌<◌}
use native.Mathlib.Omega.{arith}
use lib.ListN.{length, set, replicate}
use Rattle.definition.specs.Edition.{statements, expressions}
use Rattle.definition.specs.Lists.{gather, range}
use Rattle.definition.specs.Contents.{size}
use Rattle.definition.specs.Owners.{first_item}
use Rattle.definition.specs.Listing.{padded}
use Rattle.definition.proofs.Runs.{each_turn, each_end}
use Rattle.records.proofs.Below.{sum_le}
use Rattle.records.proofs.Ranges.{range_last, gather_last}
use Rattle.mentions.specs.Named.{root_count, root_at}
use Rattle.mentions.proofs.Naming.{names_start, roots_are}
use Rattle.values.proofs.Ranges.{map_length, gather_length}
use Rattle.uses.specs.Uses.{uses_in, stmt_uses, use_order, use_start, use_starts}
use Rattle.uses.specs.Filling.{Filling, filling, put_all, uses_under}
use Rattle.uses.proofs.Filling.{put_append, put_more, padded_next, filled}

-- ---- the roots of statement i, of which m are left from the j-th on
unfoldable pub root_uses : List ℕ → ℕ → ℕ → ℕ → ℕ → List ℕ
root_uses f i first j m = gather (uses_in f) (map (root_at f i first) (range j m))

pub stmt_start : (f : List ℕ) (i first n : ℕ) (p : Filling) → first ≡ first_item f i → n ≡ root_count f i → put_all p (stmt_uses f i) ≡ put_all p (root_uses f i first 0 (n - 0))
unfolding stmt_uses root_uses
stmt_start f i first n p a e = names_start (λ (l : List ℕ). put_all p (gather (uses_in f) l)) (root_at f i first) (roots_are f i first a) e

pub stmt_turn : (f : List ℕ) (i first b n j x : ℕ) (p q : Filling) → j < n → b ≡ size f expressions → x ≡ root_at f i first j → q ≡ put_all p (uses_under f b x)
    → put_all p (root_uses f i first j (n - j)) ≡ put_all q (root_uses f i first (j + 1) (n - (j + 1)))
unfolding root_uses uses_in uses_under gather put_all
stmt_turn f i first b n j x p q h e a g =
    each_turn (λ (r : Filling) (l : List ℕ). put_all r (gather (uses_in f) l)) (λ (r : Filling) (y : ℕ). put_all r (uses_in f y)) (λ r. refl)
    (λ r y l. put_append r (uses_in f y) (gather (uses_in f) l)) (root_at f i first) p q j n h (rw (g, e, a))

pub stmt_end : (f : List ℕ) (i first n j : ℕ) (p r : Filling) → n ≤ j → r ≡ put_all p (root_uses f i first j (n - j)) → p ≡ r
unfolding root_uses range gather put_all
stmt_end f i first n j p r h e =
    each_end (λ (r : Filling) (l : List ℕ). put_all r (gather (uses_in f) l)) (λ (r : Filling) (y : ℕ). put_all r (uses_in f y)) (λ r. refl)
    (λ r y l. put_append r (uses_in f y) (gather (uses_in f) l)) (root_at f i first) p r j n h e

-- ---- the statements before i: their nodes, and where those of each begin
unfoldable pub uses_before : List ℕ → ℕ → List ℕ
uses_before f i = gather (stmt_uses f) (range 0 i)

unfoldable pub starts_before : List ℕ → ℕ → ℕ → List ℕ
starts_before f n i = padded n (map (use_start f) (range 0 i))

starts_are : (f : List ℕ) (n i : ℕ) → starts_before f n i ≡ padded n (map (use_start f) (range 0 i))
unfolding starts_before
starts_are f n i = refl

pub before_start : (f l : List ℕ) → filling l 0 ≡ put_all (filling l 0) (uses_before f 0)
unfolding uses_before range gather put_all
before_start f l = refl

pub before_turn : (f : List ℕ) (i : ℕ) (p q r : Filling) → q ≡ put_all p (uses_before f i) → r ≡ put_all q (stmt_uses f i) → r ≡ put_all p (uses_before f (i + 1))
unfolding uses_before
before_turn f i p q r a b =
    let s : i + 1 ≡ suc i = omega arith in
    put_more p q r (gather (stmt_uses f) (range 0 i)) (stmt_uses f i) a b ∙ ap (put_all p) (rw s (sym (gather_last (stmt_uses f) i)))

pub starts_turn : (f : List ℕ) (m n i x : ℕ) (l : List ℕ) → n ≡ size f statements → i ≤ n → suc (size f statements) ≤ m → x ≡ use_start f i → l ≡ starts_before f m i
    → set l i x ≡ starts_before f m (i + 1)
unfolding starts_before
starts_turn f m n i x l c h room e a =
    let s : i + 1 ≡ suc i = omega arith in
    rw (a, e, s, range_last i)
    (padded_next m (map (use_start f) (range 0 i)) i (use_start f i) (map_length (use_start f) 0 i) (omega arith)
    ∙ ap (padded m) (sym (map-append (use_start f) (range 0 i) (i ∷ []))))

pub start_length : (f : List ℕ) (i : ℕ) → length (uses_before f i) ≡ use_start f i
unfolding uses_before use_start
start_length f i = gather_length (stmt_uses f) i

-- where the statements before i end, with room for all
module _ (f l order : List ℕ) (at i n : ℕ) (zeros : l ≡ replicate (length l) 0) (room : length (use_order f) ≤ length l)
    (so_far : filling order at ≡ put_all (filling l 0) (uses_before f i)) (count : n ≡ size f statements) (here : i ≤ n) where
  start_le : use_start f i ≤ length (use_order f)
  unfolding use_order use_start
  start_le =
      let h : i ≤ size f statements = omega arith in
      omega (arith, sum_le (λ (j : ℕ). length (stmt_uses f j)) i (size f statements) h, gather_length (stmt_uses f) (size f statements))

  filled_so : filling order at ≡ filling (padded (length l) (uses_before f i)) (length (uses_before f i))
  filled_so =
      let fits : length (uses_before f i) ≤ length l = omega (arith, start_length f i, start_le) in
      so_far ∙ ap (λ (z : List ℕ). put_all (filling z 0) (uses_before f i)) zeros ∙ filled (length l) (uses_before f i) fits

  pub start_here : at ≡ use_start f i
  start_here = ap (λ (r : Filling). r.next) filled_so ∙ start_length f i

  pub start_fits : at ≤ length l
  start_fits = omega (arith, start_here, start_le)

  -- at the end
  module _ (last : n ≤ i) where
    i_is : i ≡ size f statements
    i_is = omega arith

    pub all_nodes : order ≡ padded (length l) (use_order f)
    unfolding uses_before use_order
    all_nodes = ap (λ (r : Filling). r.list) filled_so ∙ rw i_is

    pub all_starts : (m : ℕ) (starts : List ℕ) → suc (size f statements) ≤ m → starts ≡ starts_before f m i → set starts n at ≡ padded m (use_starts f)
    unfolding use_starts
    all_starts m starts k e =
        let p : n ≡ i = omega arith in
        let s : i + 1 ≡ suc (size f statements) = omega arith in
        rw p (starts_turn f m n i at starts count here k start_here e ∙ shut s)
      where
        shut : i + 1 ≡ suc (size f statements) → starts_before f m (i + 1) ≡ padded m (map (use_start f) (range 0 (suc (size f statements))))
        shut s = starts_are f m (i + 1) ∙ rw s
