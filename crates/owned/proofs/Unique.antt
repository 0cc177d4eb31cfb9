-- The contract is an equation for the answer and the table that is left, so no second one meets it.
use mathlib.Core.Path.{◌≡◌, sym, ◌∙◌}
use mathlib.Core.Bool.{Bool}
use mathlib.Core.List.{List}
use Prim.Native.Nat.{ℕ}
use Rattle.owned.specs.Tally.{Answered}

pub answered : (x r s : Bool) (t u v : List ℕ) → Answered x r t u → Answered x s t v → (r ≡ s) × (u ≡ v)
answered x r s t u v p q = (p.says ∙ sym q.says, p.left ∙ sym q.left)
