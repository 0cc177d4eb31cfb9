-- The tally of the roots from the k-th on, in the table so far, is that of them all; at the end none are left.
use mathlib.Core.Path.{◌≡◌}
use Prim.Native.Nat.{◌-◌}
use mathlib.Core.List.{map}
use lib.ListN.{length}
use Rattle.definition.specs.Lists.{range}
use Rattle.definition.specs.References.{roots}
use Rattle.owned.specs.Tally.{tally}
use Rattle.mentions.specs.Named.{root_at, root_count}
use Rattle.owned.proofs.tally_roots.Given as goal

abbrev pub invariant-loop-k : goal.invariant-loop-k
invariant-loop-k l = (tally l.initial.table (roots l.f l.i) ≡ tally l.table (map (root_at l.f l.i l.first) (range l.k (l.k-end - l.k)))) × (l.k-end ≡ root_count l.f l.i) × (length l.table ≡ length l.initial.table)
