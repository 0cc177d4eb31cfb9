-- The bits of the function, and a text that begins with a bracket.
use mathlib.Core.Path.{◌≡◌, refl, ap, ◌∙◌}
use mathlib.Core.Bool.{Bool, false}
use mathlib.Core.List.{List, [], ◌∷◌}
use Prim.Native.Nat.{ℕ, zero, suc, ◌+◌}
use lib.ListN.{take, drop}
use Rattle.definition.specs.Edition.{Edition}
use Rattle.definition.specs.Words.{word, part}
use Rattle.definition.specs.Texts.{txt, begins}
use Rattle.definition.specs.Contents.{offset, text, text_at}
use Rattle.definition.specs.Meaning.{bits}

pub bits_are : (f : List ℕ) (n : ℕ) → n ≡ word f 4 → n ≡ bits f
unfolding bits
bits_are f n e = e

-- a text of at least a byte begins with `[` where the file does
first : (n : ℕ) (s : List ℕ) → (n ≡ 0 → ⊥) → begins (91 ∷ []) s ≡ begins (91 ∷ []) (take n s)
unfolding begins
first zero s h = absurd (h refl)
first (suc n) [] h = refl
first (suc n) (b ∷ s) h = refl

module _ (E : Edition) (f : List ℕ) (start n : ℕ) where
  pub opens_not : n ≡ 0 → false ≡ begins (txt "[") (text_at E f start n)
  unfolding begins text_at part
  opens_not h = rw h

  pub opens_at : (t : Bool) (s o : ℕ) → (n ≡ 0 → ⊥) → s ≡ text E → o ≡ offset f s → t ≡ begins (91 ∷ []) (drop (o + start) f)
      → t ≡ begins (txt "[") (text_at E f start n)
  unfolding text_at part
  opens_at t s o h p q e =
      let k : o ≡ offset f (text E) = q ∙ ap (offset f) p in
      e ∙ ap (λ (m : ℕ). begins (91 ∷ []) (drop (m + start) f)) k ∙ first n (drop (offset f (text E) + start) f) h
