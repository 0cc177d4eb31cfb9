-- What each return of the functions that name one value comes to, over plain lists and numbers.
use mathlib.Core.Path.{◌≡◌, sym, ◌∙◌}
use mathlib.Core.Bool.{Bool, true, false, ◌&&◌}
use mathlib.Core.List.{List}
use Prim.Native.Nat.{ℕ, ◌+◌, ◌*◌, ◌≤◌, ◌<◌}
use lib.Dec.{eqb}
use lib.ListN.{set}
use borrow.Author.Tests.{eq-eqb, ne_eqb, lt-ltb, le-ltb}
use Rattle.definition.specs.Values.{value}
use Rattle.definition.specs.Lists.{at}
use Rattle.names.specs.Spots.{State, spot, known, state, noted, met, named}

-- ---- a class is met; c is the code that it has
module _ (names seen : List ℕ) (n r ver next c : ℕ) (has : c ≡ at seen r) where
  -- which leaves S
  abbrev Meets : State → Type 0
  Meets S = S ≡ met (state names seen next) n r ver

  pub met_again : (names' : List ℕ) → (c ≡ 0 → ⊥) → names' ≡ set names n c → Meets (state names' seen next)
  unfolding met
  met_again names' h m = rw (← has, ne_eqb c 0 h, m)

  module _ (none : c ≡ 0) (own : Bool) (test : own ≡ (eqb ver 0 && eqb r n)) (names' seen' : List ℕ) where
    pub met_own : own ≡ true → (names' ≡ set names n 1) × (seen' ≡ set seen r 1) → Meets (state names' seen' next)
    unfolding met noted
    met_own h m = rw (sym has ∙ none, sym test ∙ h, m.0, m.1)

    pub met_new : own ≡ false → next < 2147483648 → (names' ≡ set names n (2 * next + 1)) × (seen' ≡ set seen r (2 * next + 1))
        → Meets (state names' seen' (next + 1))
    unfolding met noted
    met_new h b m = rw (sym has ∙ none, sym test ∙ h, lt-ltb next 2147483648 b, m.0, m.1)

  pub met_full : c ≡ 0 → (own : Bool) → own ≡ (eqb ver 0 && eqb r n) → own ≡ false → 2147483648 ≤ next → Meets (state names seen next)
  unfolding met
  met_full none own test h b = rw (sym has ∙ none, sym test ∙ h, le-ltb next 2147483648 b)

-- ---- a spot
module _ (numbers roots places names seen : List ℕ) (p reg ver next : ℕ) where
  -- it is named, which leaves S
  abbrev Leaves : State → Type 0
  Leaves S = S ≡ named (known numbers roots places) (state names seen next) (spot p (value reg ver))

  pub key_rsp : reg ≡ 4 → Leaves (state names seen next)
  unfolding named
  key_rsp h = rw (eq-eqb reg 4 h)

  module _ (other : reg ≡ 4 → ⊥) (n x : ℕ) (number : n ≡ at numbers p) (has : x ≡ at names n) where
    pub key_named : (x ≡ 0 → ⊥) → Leaves (state names seen next)
    unfolding named
    key_named h = rw (ne_eqb reg 4 other, ← number, ← has, ne_eqb x 0 h)

    module _ (new : x ≡ 0) (y : ℕ) (there : y ≡ at places n) where
      pub key_placed : (y ≡ 0 → ⊥) → Leaves (state names seen next)
      unfolding named
      key_placed h = rw (ne_eqb reg 4 other, ← number, sym has ∙ new, ← there, ne_eqb y 0 h)

      pub key_met : (r : ℕ) (S : State) → y ≡ 0 → r ≡ at roots n → S ≡ met (state names seen next) n r ver → Leaves S
      unfolding named
      key_met r S h e m = rw (ne_eqb reg 4 other, ← number, sym has ∙ new, sym there ∙ h, ← e) m
