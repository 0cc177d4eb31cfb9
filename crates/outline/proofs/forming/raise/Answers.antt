-- The row at the index is raised, as it stood; the part with those rows up to the index raised is the next invariant.
use Rattle.outline.proofs.Moves.{changed_turn}
use Rattle.outline.specs.Forming.{raised}
use mathlib.Core.List.{List}
use mathlib.Core.Path.{ap, ◌∙◌}
use Prim.Native.Nat.{ℕ}
use lib.ListN.{get_or, set}
use Rattle.outline.proofs.forming.raise.Goals as goal

pub loop-row-preserved : goal.loop-row-preserved
loop-row-preserved c = let l = c.loop-row in
    ap (λ (r : List ℕ). set r l.row-index c.up.result) l.invariant
    ∙ changed_turn raised _ l.row-index c.up.result c.loop-row-test.true (c.up.ensures ∙ ap (λ (r : List ℕ). raised (get_or r l.row-index 0)) l.invariant)
