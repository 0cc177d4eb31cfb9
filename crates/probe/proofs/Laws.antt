-- A writer's contract, with its answer counted.
use mathlib.Core.Path.{◌≡◌, ap, subst, ◌∙◌}
use mathlib.Core.List.{List}
use Prim.Native.Nat.{ℕ}
use Rattle.leaf.specs.Leaf.{Wrote, Leaf}
use Rattle.pieces.specs.declared.piece.Piece.{Piece}
use Rattle.pieces.specs.Spelled.{spelled}
use Rattle.probe.specs.Counted.{count_of, Counted}

counted : {t d d' : List ℕ} {w : Wrote} {r : ℕ} → Leaf t d w d' → r ≡ count_of w → Counted t d r d'
counted l e = record { says = e ∙ ap count_of l.says; left = l.left }

-- of a piece that is another's equal
pub counted_piece : (f : List ℕ) (p q : Piece) {d d' : List ℕ} {w : Wrote} {r : ℕ} → Leaf (spelled f p) d w d' → p ≡ q → r ≡ count_of w → Counted (spelled f q) d r d'
counted_piece f p q {d} {d'} {w} {r} l e h = subst (λ (x : Piece). Counted (spelled f x) d r d') e (counted l h)
