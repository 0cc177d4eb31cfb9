-- Sums of offsets: what each return comes to, that nothing is derived of what is not known, and that an operator may be told by its only byte.
use mathlib.Core.Path.{◌≡◌, refl, sym, ap, ◌∙◌}
use mathlib.Core.Bool.{Bool, true, false, not, ◌||◌, and-true, and-false}
use mathlib.Core.List.{List, [], ◌∷◌}
use Prim.Native.Nat.{ℕ, ◌+◌, ◌-◌, ◌≤◌, ◌<◌}
use native.Mathlib.Omega.{arith}
use lib.Dec.{eqb, ltb}
use borrow.Author.Tests.{lt-ltb, le-ltb, eq-eqb, ne_eqb}
use Rattle.definition.specs.Texts.{txt, same}
use Rattle.definition.specs.Offsets.{half, whole, forth, back, plus, minus, signed}
use Rattle.definition.proofs.Bools.{by_cond}
use Rattle.sums.specs.Address.{single, moved, shifted, is_sign, signed_by}

-- ---- the code's returns
module _ (more : Bool) (s m : ℕ) where
  pub more_none : more ≡ true → s ≡ 0 → 0 ≡ moved more s m
  unfolding moved forth
  more_none p e = rw (p, eq-eqb s 0 e)

  pub more_in : more ≡ true → (s ≡ 0 → ⊥) → s + m < 18446744073709551616 → s + m ≡ moved more s m
  unfolding moved forth
  more_in p e h = rw (p, ne_eqb s 0 e, lt-ltb (s + m) whole h)

  pub more_out : more ≡ true → (s ≡ 0 → ⊥) → 18446744073709551616 ≤ s + m → 0 ≡ moved more s m
  unfolding moved forth
  more_out p e h = rw (p, ne_eqb s 0 e, le-ltb (s + m) whole h)

  pub less_in : more ≡ false → s - m ≡ moved more s m
  unfolding moved back
  less_in p = rw p

  pub less_out : more ≡ false → s ≤ m → 0 ≡ moved more s m
  unfolding moved back
  less_out p h = let z : 0 ≡ s - m = omega arith in rw p z

module _ (s c : ℕ) where
  pub low : (more : Bool) (r : ℕ) → c < 9223372036854775808 → r ≡ moved more s c → r ≡ shifted more s c
  unfolding shifted
  low more r h e = rw (lt-ltb c half h) e

  pub high : (more : Bool) (r m : ℕ) → 9223372036854775808 ≤ c → m ≡ 18446744073709551616 - c → r ≡ moved (not more) s m → r ≡ shifted more s c
  unfolding shifted
  high more r m h q e = rw (le-ltb c half h) (e ∙ ap (moved (not more) s) q)

  module _ (o : ℕ) where
    pub by_sign : (m r : ℕ) → o ≡ m → r ≡ signed_by s m c → r ≡ signed_by s o c
    by_sign m r e h = rw e h

    pub by_none : (o ≡ 43 → ⊥) → (o ≡ 45 → ⊥) → 0 ≡ signed_by s o c
    unfolding signed_by
    by_none p q = rw (ne_eqb o 43 p, ne_eqb o 45 q)

-- ---- of nothing known, nothing
moved_0 : (more : Bool) (m : ℕ) → moved more 0 m ≡ 0
unfolding moved forth back
moved_0 true m = refl
moved_0 false m = omega arith

shifted_0 : (more : Bool) (c : ℕ) → shifted more 0 c ≡ 0
unfolding shifted
shifted_0 more c = by_cond (λ x. x ≡ 0) (ltb c half) (λ e. moved_0 more c) (λ e. moved_0 (not more) (whole - c))

pub signed_0 : (o : List ℕ) (c : ℕ) → signed 0 o c ≡ 0
unfolding signed plus minus shifted moved
signed_0 o c = by_cond (λ x. x ≡ 0) (same o (txt "+")) (λ e. shifted_0 true c) (λ e. by_cond (λ x. x ≡ 0) (same o (txt "-")) (λ d. shifted_0 false c) (λ d. refl))

-- ---- an operator of one byte
same_single : (o : List ℕ) (b : ℕ) → (b ≡ 0 → ⊥) → same o (b ∷ []) ≡ eqb (single o) b
unfolding same single
same_single [] b h = sym (ne_eqb 0 b (λ e. h (sym e)))
same_single (a ∷ []) b h = and-true (eqb a b)
same_single (a ∷ c ∷ s) b h = and-false (eqb a b) ∙ sym (ne_eqb 0 b (λ e. h (sym e)))

is_plus : (o : List ℕ) → same o (txt "+") ≡ eqb (single o) 43
is_plus o = same_single o 43 (λ e. omega arith)

is_minus : (o : List ℕ) → same o (txt "-") ≡ eqb (single o) 45
is_minus o = same_single o 45 (λ e. omega arith)

pub signed_single : (s : ℕ) (o : List ℕ) (c : ℕ) → signed s o c ≡ signed_by s (single o) c
unfolding signed signed_by
signed_single s o c = rw (is_plus o, is_minus o)

pub sign_single : (o : List ℕ) → (same o (txt "+") || same o (txt "-")) ≡ is_sign (single o)
unfolding is_sign
sign_single o = rw (is_plus o, is_minus o)
