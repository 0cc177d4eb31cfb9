-- A text's last byte is trimmed if it is the letter, and else ends the trimming; of bytes that the file has not, none is read.
use mathlib.Core.Path.{◌≡◌, refl, sym, ap, ◌∙◌}
use mathlib.Core.Bool.{Bool, true, false, cond, ◌&&◌}
use mathlib.Core.List.{List, [], ◌∷◌, ◌++◌}
use Prim.Native.Nat.{ℕ, zero, suc, ◌+◌, ◌-◌, ◌≤◌, ◌<◌}
use native.Mathlib.Omega.{arith}
use lib.Dec.{eqb}
use lib.ListN.{length, get_or, take, drop, length-drop}
use lib.Seq.{get_or-drop}
use borrow.Author.Tests.{eq-eqb, ne_eqb}
use Rattle.definition.specs.Texts.{is_empty, trim_end}
use Rattle.definition.specs.Words.{part}
use Rattle.words.proofs.Parts.{size_most, part_cut}

-- ---- the last byte
module _ (c : ℕ) where
  trim_last : (s : List ℕ) (b : ℕ) → b ≡ c → trim_end c (s ++ (b ∷ [])) ≡ trim_end c s
  unfolding trim_end is_empty
  trim_last [] b e = rw (eq-eqb b c e)
  trim_last (a ∷ s) b e = rw (trim_last s b e)

  -- what ends with another byte is not empty, and stays
  trim_ends : (s : List ℕ) (b : ℕ) → (b ≡ c → ⊥) → trim_end c (s ++ (b ∷ [])) ≡ s ++ (b ∷ [])
  unfolding trim_end is_empty
  trim_ends [] b n = rw (ne_eqb b c n)
  trim_ends (a ∷ s) b n = rw (trim_ends s b n) (not_empty (eqb a c) s)
    where
      not_empty : (q : Bool) (s : List ℕ) → cond (q && is_empty (s ++ (b ∷ []))) [] (a ∷ (s ++ (b ∷ []))) ≡ a ∷ (s ++ (b ∷ []))
      not_empty true [] = refl
      not_empty true (x ∷ s) = refl
      not_empty false s = refl

-- ---- a part of the file
module _ (f : List ℕ) (i : ℕ) where
  take_last : (l : List ℕ) (k : ℕ) → k < length l → take (suc k) l ≡ take k l ++ (get_or l k 0 ∷ [])
  take_last [] k h = absurd (omega arith)
  take_last (x ∷ l) zero h = refl
  take_last (x ∷ l) (suc k) h = ap (λ (s : List ℕ). x ∷ s) (take_last l k (omega arith))

  part_last : (k j : ℕ) → 0 < k → k ≤ length f - i → j ≡ k - 1 → part f i k ≡ part f i j ++ (get_or f (i + j) 0 ∷ [])
  unfolding part
  part_last k j h l e =
      let p : k ≡ suc j = omega arith in
      rw (p, take_last (drop i f) j (omega (arith, length-drop i f)), get_or-drop i f j 0)

  -- ---- the loop: k bytes have the same trimmed text, and the file has them
  pub record Left (n k : ℕ) : Type 0 where
    pub text : trim_end 115 (part f i k) ≡ trim_end 115 (part f i n)
    pub inside : k ≤ length f - i

  module _ (n k : ℕ) where
    pub trim_start_lem : k ≡ length (part f i n) → Left n k
    trim_start_lem e = record { text = ap (trim_end 115) (part_cut f i n k e); inside = omega (arith, size_most f i n) }

    module _ (t : Left n k) where
      -- the byte read is in the file
      pub trim_inside : 0 < k → i + (k - 1) < length f
      trim_inside h = omega (arith, t.inside)

      pub trim_turn : 0 < k → get_or f (i + (k - 1)) 0 ≡ 115 → Left n (k - 1)
      trim_turn h e =
          record {
            text = sym (ap (trim_end 115) (part_last k (k - 1) h t.inside refl) ∙ trim_last 115 (part f i (k - 1)) _ e) ∙ t.text;
            inside = omega (arith, t.inside);
          }

      pub trim_found : 0 < k → (get_or f (i + (k - 1)) 0 ≡ 115 → ⊥) → part f i (k - 1 + 1) ≡ trim_end 115 (part f i n)
      trim_found h e =
          let q : k - 1 + 1 ≡ k = omega arith in
          let p = part_last k (k - 1) h t.inside refl in
          ap (part f i) q ∙ p ∙ sym (trim_ends 115 (part f i (k - 1)) _ e) ∙ ap (trim_end 115) (sym p) ∙ t.text

      pub trim_done : k ≡ 0 → part f i 0 ≡ trim_end 115 (part f i n)
      unfolding part trim_end
      trim_done e = let z : part f i 0 ≡ trim_end 115 (part f i k) = rw e in z ∙ t.text
