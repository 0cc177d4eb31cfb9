-- The places below i have their numbers, and the chains find each key whose first place is below i; a turn numbers place i.
use mathlib.Core.Path.{◌≡◌}
use Prim.Native.Nat.{ℕ, ◌<◌}
use lib.ListN.{length}
use Rattle.definition.specs.Lists.{at}
use Rattle.values.specs.Tables.{number_of}
use Rattle.values.specs.Chains.{Chained}
use Rattle.values.proofs.numbers.number_all.Given as goal

abbrev pub invariant-loop-i : goal.invariant-loop-i
invariant-loop-i l = ((j : ℕ) → j < l.i → at l.numbers j ≡ number_of l.keys (at l.keys j)) × Chained l.keys l.heads l.next l.i × (length l.numbers ≡ length l.initial.numbers) × (length l.heads ≡ length l.initial.heads) × (length l.next ≡ length l.initial.next)
