-- The first i phis have run, and the input carried along is the next one's first; a step runs that phi behind them.
use Rattle.rounds.specs.Ran.{Ran}
use Rattle.rounds.specs.Defs.{mine, phi_defs}
use Rattle.definition.specs.Owners.{first_input}
use lib.ListN.{length}
use Prim.Native.Nat.{◌+◌, ◌≤◌}
use mathlib.Core.Path.{◌≡◌}
use Rattle.rounds.proofs.phis_round.Given as goal

abbrev pub invariant-loop-i : goal.invariant-loop-i
invariant-loop-i l = (l.i ≤ l.n) × (length l.tab ≡ length l.initial.tab) × (l.first ≡ first_input l.of.f.now (l.from + l.i)) × Ran l.of.f.now (length l.of.numbers.now) (mine l.own (phi_defs l.of.f.now l.from l.i)) l.initial.tab l.tab l.changed
