-- The tally of the children of expressions from i on, in the table so far, is that of them all; at the end none are left.
use mathlib.Core.Path.{◌≡◌}
use Prim.Native.Nat.{◌-◌}
use lib.ListN.{length}
use Rattle.definition.specs.Lists.{gather, range}
use Rattle.definition.specs.Edition.{expressions}
use Rattle.definition.specs.Contents.{size}
use Rattle.definition.specs.References.{children}
use Rattle.owned.specs.Tally.{tally}
use Rattle.owned.proofs.tally_expressions.Given as goal

abbrev pub invariant-loop-i : goal.invariant-loop-i
invariant-loop-i l = (tally l.initial.table (gather (children l.f) (range 0 (size l.f expressions))) ≡ tally l.table (gather (children l.f) (range l.i (l.i-end - l.i)))) × (length l.table ≡ length l.initial.table)
