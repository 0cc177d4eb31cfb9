-- The contract is an equation for the answer and the table at exit, so no second one meets it.
use mathlib.Core.Path.{◌≡◌, sym, ◌∙◌}
use mathlib.Core.Bool.{Bool}
use mathlib.Core.List.{List}
use Prim.Native.Nat.{ℕ}
use lib.ListN.{replicate}
use Rattle.definition.specs.Meaning.{defined_once}

-- with the table at exit, u or v
pub defined_once_lem : (n : ℕ) (f u v : List ℕ) (r s : Bool) → (r ≡ defined_once f) × (u ≡ replicate n 0) → (s ≡ defined_once f) × (v ≡ replicate n 0) → (r ≡ s) × (u ≡ v)
defined_once_lem n f u v r s p q = (p.0 ∙ sym q.0, p.1 ∙ sym q.1)
