-- The sum counts the statements before the next, at most their items and two for each, so it fits; in the end all are counted.
use Prim.Native.Nat.{◌*◌, ◌≤◌, ◌+◌}
use mathlib.Core.Path.{◌≡◌}
use Rattle.definition.specs.Edition.{statements}
use Rattle.definition.specs.Contents.{size}
use Rattle.definition.specs.Owners.{first_item}
use Rattle.definition.specs.Lists.{sum_below}
use Rattle.defined.specs.Defined.{value_of, stmt_hits}
use Rattle.defined.specs.Statements.{left}
use Rattle.once.proofs.stmts_hits.Given as goal

abbrev pub invariant-loop-s : goal.invariant-loop-s
invariant-loop-s l =
    let t = l.s-iterator in
    (t.f.now ≡ l.f) × (l.sum ≡ sum_below t.i (stmt_hits l.f (value_of l.v))) × (l.sum ≤ first_item l.f t.i + 2 * t.i) × (t.i + left t ≡ size l.f statements)
