-- What the trims take off a text: a leading word, as long as the text begins with it, and a trailing one, where it ends with it.
use mathlib.Core.Path.{◌≡◌, refl, sym, ap, ◌∙◌}
use mathlib.Core.Bool.{Bool, true, false, cond}
use mathlib.Core.List.{List, [], ◌∷◌, ◌++◌}
use Prim.Native.Nat.{ℕ, zero, suc, ◌-◌, ◌≤◌, ◌<◌}
use native.Mathlib.Omega.{arith}
use lib.ListN.{length, take, drop, length-drop, length-append}
use lib.Seq.{take-nil}
use Rattle.definition.specs.Texts.{same, begins, shed, trim_start, cut_end}
use Rattle.definition.proofs.TextLaws.{begins_length}
use Rattle.words.proofs.Laws.{same_length}

pub drop_take : (n m : ℕ) (l : List ℕ) → drop n (take m l) ≡ take (m - n) (drop n l)
drop_take zero m l = let p : m - 0 ≡ m = omega arith in rw p
drop_take (suc n) zero l = let p : 0 - suc n ≡ 0 = omega arith in rw p
drop_take (suc n) (suc m) [] = sym (take-nil (suc m - suc n))
drop_take (suc n) (suc m) (b ∷ l) = let p : suc m - suc n ≡ m - n = omega arith in rw p (drop_take n m l)

-- ---- a leading word
module _ (a : ℕ) (v : List ℕ) where
  shed_enough : (n m : ℕ) (s : List ℕ) → length s ≤ n → length s ≤ m → shed n (a ∷ v) s ≡ shed m (a ∷ v) s
  unfolding shed begins
  shed_enough zero zero s h k = refl
  shed_enough zero (suc m) [] h k = refl
  shed_enough zero (suc m) (b ∷ s) h k = absurd (omega arith)
  shed_enough (suc n) zero [] h k = refl
  shed_enough (suc n) zero (b ∷ s) h k = absurd (omega arith)
  shed_enough (suc n) (suc m) [] h k = refl
  shed_enough (suc n) (suc m) (b ∷ s) h k =
      let d = length-drop (length v) s in
      ap (λ (z : List ℕ). cond (begins (a ∷ v) (b ∷ s)) z (b ∷ s)) (shed_enough n m (drop (length v) s) (omega arith) (omega arith))

  pub trim_step : (s : List ℕ) → begins (a ∷ v) s ≡ true → trim_start (a ∷ v) s ≡ trim_start (a ∷ v) (drop (length (a ∷ v)) s)
  unfolding trim_start shed
  trim_step [] e = absurd (omega (arith, begins_length (a ∷ v) [] e))
  trim_step (b ∷ s) e =
      let d = length-drop (length v) s in
      ap (λ (z : Bool). cond z (shed (length s) (a ∷ v) (drop (length v) s)) (b ∷ s)) e
      ∙ shed_enough (length s) (length (drop (length v) s)) (drop (length v) s) (omega arith) (omega arith)

  pub trim_stop : (s : List ℕ) → begins (a ∷ v) s ≡ false → trim_start (a ∷ v) s ≡ s
  unfolding trim_start shed
  trim_stop [] e = refl
  trim_stop (b ∷ s) e = ap (λ (z : Bool). cond z (shed (length s) (a ∷ v) (drop (length v) s)) (b ∷ s)) e

-- ---- a trailing word
module _ (w : List ℕ) where
  pub cut_short : (s : List ℕ) → length s < length w → cut_end w s ≡ s
  unfolding cut_end
  cut_short [] h = refl
  cut_short (b ∷ s) h =
      ap (λ (z : Bool). cond z [] (b ∷ cut_end w s)) (sym (same_length (b ∷ s) w (λ e. omega arith)))
      ∙ ap (λ (l : List ℕ). b ∷ l) (cut_short s (omega arith))

  pub cut_not : (y z : List ℕ) → length z ≡ length w → same z w ≡ false → cut_end w (y ++ z) ≡ y ++ z
  unfolding cut_end
  cut_not [] [] h e = refl
  cut_not [] (b ∷ z) h e =
      ap (λ (q : Bool). cond q [] (b ∷ cut_end w z)) e ∙ ap (λ (l : List ℕ). b ∷ l) (cut_short z (omega arith))
  cut_not (a ∷ y) z h e =
      ap (λ (q : Bool). cond q [] (a ∷ cut_end w (y ++ z))) (sym (same_length (a ∷ (y ++ z)) w (λ p. omega (arith, length-append y z))))
      ∙ ap (λ (l : List ℕ). a ∷ l) (cut_not y z h e)
