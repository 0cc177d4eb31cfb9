-- The statements before i are named and `item` is where the items of statement i begin; at b no statement is left and the walk stands there.
use mathlib.Core.Path.{◌≡◌}
use Prim.Native.Nat.{◌-◌, ◌≤◌}
use lib.ListN.{length}
use Rattle.definition.specs.Lists.{gather, range}
use Rattle.definition.specs.Owners.{first_item}
use Rattle.naming.specs.Walk.{walked, stmt_spots}
use Rattle.names.specs.Spots.{known, state}
use Rattle.naming.proofs.statements.name_stmts.Given as goal

abbrev pub invariant-loop-i : goal.invariant-loop-i
invariant-loop-i l = (walked (known l.of.numbers.now l.of.roots.now l.of.away.now) (state l.initial.names l.initial.seen l.w.next) (gather (stmt_spots l.of.f.now) (range l.w.stmt (l.b - l.w.stmt))) ≡ walked (known l.of.numbers.now l.of.roots.now l.of.away.now) (state l.names l.seen l.next) (gather (stmt_spots l.of.f.now) (range l.i (l.b - l.i)))) × (l.item ≡ first_item l.of.f.now l.i) × (l.i ≤ l.b) × (length l.names ≡ length l.initial.names) × (length l.seen ≡ length l.initial.seen)
