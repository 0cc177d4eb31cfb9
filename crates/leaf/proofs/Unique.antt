-- The one contract of the writers determines answer and buffer, so no second result meets it.
use mathlib.Core.Path.{◌≡◌, sym, ◌∙◌}
use mathlib.Core.List.{List}
use Prim.Native.Nat.{ℕ}
use Rattle.leaf.specs.Leaf.{Wrote, Leaf}

pub leaf : (t d : List ℕ) (r s : Wrote) (e e' : List ℕ) → Leaf t d r e → Leaf t d s e' → (r ≡ s) × (e ≡ e')
leaf t d r s e e' l k = (l.says ∙ sym k.says, l.left ∙ sym k.left)
