-- The mentions before k are named and those from k up to b are left, whatever function says what is mentioned; each turn names one more.
use Rattle.naming.specs.Walk.{walked}
use Rattle.naming.specs.declared.runs.Mention.{Mention}
use Rattle.names.specs.Spots.{Spot, spot, known, state}
use Rattle.defined.specs.Defined.{value_of}
use Rattle.definition.specs.Lists.{range}
use lib.ListN.{length}
use Prim.Native.Nat.{ℕ, ◌-◌}
use mathlib.Core.List.{map}
use mathlib.Core.Path.{◌≡◌}
use Rattle.naming.proofs.runs.name_run.Given as goal

abbrev pub invariant-loop-k : goal.invariant-loop-k
invariant-loop-k g l =
    ((h : ℕ → Spot) → ((k : ℕ) (m : Mention) → goal.F-post g l.mention k m → spot m.place (value_of m.value) ≡ h k)
    → walked (known l.of.numbers.now l.of.roots.now l.of.away.now) (state l.initial.names l.initial.seen l.next-2) (map h (range l.a (l.b - l.a)))
    ≡ walked (known l.of.numbers.now l.of.roots.now l.of.away.now) (state l.names l.seen l.next) (map h (range l.k (l.b - l.k))))
    × (length l.names ≡ length l.initial.names) × (length l.seen ≡ length l.initial.seen)
