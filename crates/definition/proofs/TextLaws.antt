-- Texts: `same` decides equality, and what a text that begins, or ends, with another is.
use mathlib.Core.Path.{◌≡◌, refl, ap, ap₂, ◌∙◌}
use mathlib.Core.Bool.{Bool, true, false, cond, ◌&&◌, false≢true}
use mathlib.Core.List.{List, [], ◌∷◌, ◌++◌}
use Prim.Native.Nat.{ℕ, ◌≤◌}
use native.Mathlib.Omega.{arith}
use borrow.Author.Tests.{eqb-true, eq-eqb}
use lib.Dec.{eqb}
use lib.ListN.{length, length-append}
use Rattle.definition.specs.Texts.{same, begins, cut_end}
use Rattle.definition.proofs.Bools.{both_true, is_false}

pub same_refl : (s : List ℕ) → same s s ≡ true
unfolding same
same_refl [] = refl
same_refl (a ∷ s) = ap₂ ◌&&◌ (eq-eqb a a refl) (same_refl s)

pub same_eq : (s t : List ℕ) → same s t ≡ true → s ≡ t
unfolding same
same_eq [] [] e = refl
same_eq [] (b ∷ t) e = absurd (false≢true e)
same_eq (a ∷ s) [] e = absurd (false≢true e)
same_eq (a ∷ s) (b ∷ t) e = let h = both_true (eqb a b) (same s t) e in ap₂ ◌∷◌ (eqb-true a b h.0) (same_eq s t h.1)

-- ---- a beginning
pub begins_self : (w v : List ℕ) → begins w (w ++ v) ≡ true
unfolding begins
begins_self [] v = refl
begins_self (b ∷ w) v = rw (eq-eqb b b refl, begins_self w v)

pub begins_length : (w s : List ℕ) → begins w s ≡ true → length w ≤ length s
unfolding begins
begins_length [] s e = omega arith
begins_length (a ∷ w) [] e = absurd (false≢true e)
begins_length (a ∷ w) (b ∷ s) e = omega (arith, begins_length w s (both_true (eqb a b) (begins w s) e).1)

pub begins_longer : (w x y : List ℕ) → begins w x ≡ true → begins w (x ++ y) ≡ true
unfolding begins
begins_longer [] x y h = refl
begins_longer (a ∷ w) [] y h = absurd (false≢true h)
begins_longer (a ∷ w) (b ∷ x) y h = let q = both_true (eqb a b) (begins w x) h in rw q.0 (begins_longer w x y q.1)

-- ---- an end, cut off
pub cut_end_lem : (c : ℕ) (w r : List ℕ) → cut_end (c ∷ w) (r ++ c ∷ w) ≡ r
unfolding cut_end
cut_end_lem c w [] = ap (λ (b : Bool). cond b [] (c ∷ cut_end (c ∷ w) w)) (same_refl (c ∷ w))
cut_end_lem c w (a ∷ r) =
    let no : same (a ∷ (r ++ c ∷ w)) (c ∷ w) ≡ false =
    is_false _ (λ e. omega (arith, ap length (same_eq (a ∷ (r ++ c ∷ w)) (c ∷ w) e), length-append r (c ∷ w))) in
    ap (λ (b : Bool). cond b [] (a ∷ cut_end (c ∷ w) (r ++ c ∷ w))) no ∙ ap (λ (l : List ℕ). a ∷ l) (cut_end_lem c w r)
