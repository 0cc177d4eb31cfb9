-- No text of another length than one or two is a code.
use mathlib.Core.Path.{◌≡◌, refl, sym}
use mathlib.Core.Bool.{and-false}
use mathlib.Core.List.{List, [], ◌∷◌}
use Prim.Native.Nat.{ℕ}
use Rattle.std.specs.Prelude.{None}
use lib.Dec.{eqb}
use lib.ListN.{length}
use Rattle.definition.specs.Texts.{same}
use Rattle.definition.specs.Condition.{code_of}
use Rattle.flags.specs.Views.{code_enum}

module _ (a : ℕ) where
  longer : (b c : ℕ) (l : List ℕ) → None ≡ code_enum (code_of (a ∷ b ∷ c ∷ l))
  unfolding code_enum code_of same
  longer b c l =
      rw (
        and-false (eqb b 101),
        and-false (eqb b 115),
        and-false (eqb a 101),
        and-false (eqb a 110),
        and-false (eqb a 108),
        and-false (eqb a 103),
        and-false (eqb a 98),
        and-false (eqb a 97),
        and-false (eqb a 115),
      )

pub other_length : (x : List ℕ) (m : ℕ) → length x ≡ m → (m ≡ 1 → ⊥) → (m ≡ 2 → ⊥) → None ≡ code_enum (code_of x)
unfolding code_enum code_of same
other_length [] m e p q = refl
other_length (a ∷ []) m e p q = absurd (p (sym e))
other_length (a ∷ b ∷ []) m e p q = absurd (q (sym e))
other_length (a ∷ b ∷ c ∷ l) m e p q = longer a b c l
