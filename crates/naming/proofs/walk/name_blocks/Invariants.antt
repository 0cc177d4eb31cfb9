-- The blocks before b are named and the walk stands where the phis and statements of b begin; behind the last block no spot is left.
use Rattle.naming.specs.Given.{standing}
use Rattle.names.specs.Spots.{known, state}
use Rattle.naming.specs.Walk.{walked, block_spots, spots}
use Rattle.definition.specs.Owners.{first_phi, first_stmt}
use Rattle.definition.specs.Lists.{gather, range}
use Rattle.definition.specs.Contents.{size}
use Rattle.definition.specs.Edition.{blocks}
use lib.ListN.{length}
use Prim.Native.Nat.{◌-◌}
use mathlib.Core.Path.{◌≡◌}
use Rattle.naming.proofs.walk.name_blocks.Given as goal

abbrev pub invariant-loop-b : goal.invariant-loop-b
invariant-loop-b l = (walked (known l.of.numbers.now l.of.roots.now l.of.away.now) (state l.initial.names l.initial.seen 1) (spots l.of.f.now) ≡ walked (known l.of.numbers.now l.of.roots.now l.of.away.now) (state l.names l.seen l.w.next) (gather (block_spots l.of.f.now) (range l.b (l.n - l.b)))) × (l.w ≡ standing l.of.f.now (first_phi l.of.f.now l.b) (first_stmt l.of.f.now l.b) l.w.next) × (l.n ≡ size l.of.f.now blocks) × (length l.names ≡ length l.initial.names) × (length l.seen ≡ length l.initial.seen)
