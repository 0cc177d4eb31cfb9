-- Each contract of this crate gives the answer and the scratch as an equation, so no second result meets it.
use mathlib.Core.Path.{◌≡◌, sym, ◌∙◌}
use mathlib.Core.List.{List}
use Prim.Native.Nat.{ℕ}
use Rattle.file.specs.Verdicts.{Checked}

pub checked_once : (f : List ℕ) (t u v : List ℕ) (r s : ℕ) → Checked f r t u → Checked f s t v → (r ≡ s) × (u ≡ v)
checked_once f t u v r s p q = (p.says ∙ sym q.says, p.left ∙ sym q.left)
