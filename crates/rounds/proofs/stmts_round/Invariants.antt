-- The definitions of the first i statements have run; a step runs the next one's behind them, and a change in either is a change.
use Rattle.rounds.specs.Ran.{Ran}
use Rattle.rounds.specs.Defs.{mine, stmt_defs}
use Rattle.definition.specs.Contents.{text}
use Rattle.definition.specs.Edition.{Edition}
use lib.ListN.{length}
use Prim.Native.Nat.{◌≤◌}
use mathlib.Core.Path.{◌≡◌}
use Rattle.rounds.proofs.stmts_round.Given as goal

abbrev pub invariant-loop-i : goal.invariant-loop-i
invariant-loop-i l = (l.i ≤ l.n) × (length l.tab ≡ length l.initial.tab) × ((E : Edition) → text E ≡ l.of.t → Ran l.of.f.now (length l.of.numbers.now) (mine l.own (stmt_defs E l.of.f.now l.from l.i)) l.initial.tab l.tab l.changed)
