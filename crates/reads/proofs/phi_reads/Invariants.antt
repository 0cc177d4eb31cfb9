-- The inputs from k on are left to mark; the places of all of them name just the values that flow into phis.
use Rattle.reads.specs.Counts.{placed, visit, slots}
use Rattle.definition.specs.Lists.{range}
use Rattle.definition.specs.Edition.{inputs}
use mathlib.Core.Path.{◌≡◌}
use Rattle.places.specs.Keys.{places_of}
use Rattle.definition.specs.Contents.{size}
use lib.ListN.{length}
use Prim.Native.Nat.{◌-◌}
use Rattle.reads.proofs.phi_reads.Given as goal

abbrev pub invariant-loop-k : goal.invariant-loop-k
invariant-loop-k l = (visit (placed 1) l.initial.tab (slots l.numbers l.base (range 0 (l.n - 0))) ≡ visit (placed 1) l.tab (slots l.numbers l.base (range l.k (l.n - l.k)))) × (l.n ≡ size l.f inputs) × (l.base ≡ (places_of l.f).inputs) × (length l.tab ≡ length l.initial.tab)
