-- The phis before i are named and `input` is where the inputs of phi i begin; at b no phi is left and the walk stands there.
use mathlib.Core.Path.{◌≡◌}
use Prim.Native.Nat.{◌-◌, ◌≤◌}
use lib.ListN.{length}
use Rattle.definition.specs.Lists.{gather, range}
use Rattle.definition.specs.Owners.{first_input}
use Rattle.naming.specs.Walk.{walked, phi_spots}
use Rattle.names.specs.Spots.{known, state}
use Rattle.naming.proofs.phis.name_phis.Given as goal

abbrev pub invariant-loop-i : goal.invariant-loop-i
invariant-loop-i l = (walked (known l.of.numbers.now l.of.roots.now l.of.away.now) (state l.initial.names l.initial.seen l.w.next) (gather (phi_spots l.of.f.now) (range l.w.phi (l.b - l.w.phi))) ≡ walked (known l.of.numbers.now l.of.roots.now l.of.away.now) (state l.names l.seen l.next) (gather (phi_spots l.of.f.now) (range l.i (l.b - l.i)))) × (l.input ≡ first_input l.of.f.now l.i) × (l.i ≤ l.b) × (length l.names ≡ length l.initial.names) × (length l.seen ≡ length l.initial.seen)
