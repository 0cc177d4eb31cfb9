-- A writer's answer for a piece: it is known which piece it is, and the writer of that piece has written what it spells.
use mathlib.Core.Path.{◌≡◌, ap, sym, ◌∙◌}
use mathlib.Core.List.{List, ◌++◌}
use Prim.Native.Nat.{ℕ}
use Rattle.definition.specs.Numbers.{decimal}
use Rattle.digits.specs.declared.Radix.TheVariants.{Decimal}
use Rattle.digits.specs.Numeral.{numeral}
use Rattle.digits.proofs.Texts.{numeral_is}
use Rattle.leaf.specs.Leaf.{Wrote, Leaf}
use Rattle.leaf.proofs.Leaves.{leaf_as}

pub spells : {A : Type 0} (g : A → List ℕ) (p q : A) (x d : List ℕ) (r : Wrote) (e : List ℕ) → p ≡ q → Leaf x d r e → x ≡ g q → Leaf (g p) d r e
spells g p q x d r e is wrote says = leaf_as wrote (says ∙ ap g (sym is))

-- a front and a number, as the definition has it
pub counted_is : (front : List ℕ) (k : ℕ) → front ++ numeral Decimal k ≡ front ++ decimal k
counted_is front k = ap (λ (l : List ℕ). front ++ l) (numeral_is Decimal k)
