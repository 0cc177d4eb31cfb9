-- The tally of the children from the k-th on, in the table so far, is that of them all; k is below 2, as there are two at most.
use mathlib.Core.Path.{◌≡◌}
use Prim.Native.Nat.{◌≤◌, ◌-◌}
use mathlib.Core.List.{map}
use lib.ListN.{length}
use Rattle.definition.specs.Lists.{range}
use Rattle.definition.specs.References.{children}
use Rattle.owned.specs.Tally.{tally}
use Rattle.mentions.specs.Named.{child_at}
use Rattle.owned.proofs.tally_children.Given as goal

abbrev pub invariant-loop-k : goal.invariant-loop-k
invariant-loop-k l = (tally l.initial.table (children l.f l.i) ≡ tally l.table (map (child_at l.f l.i) (range l.k (l.k-end - l.k)))) × (l.k-end ≤ 2) × (length l.table ≡ length l.initial.table)
