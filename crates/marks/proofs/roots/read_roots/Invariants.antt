-- The statements before i have marked what they read and the rest is left; at the end, from zeros on, the roots of what is read are marked.
use mathlib.Core.Path.{◌≡◌}
use mathlib.Core.List.{List}
use Prim.Native.Nat.{ℕ, ◌-◌}
use lib.ListN.{length}
use Rattle.definition.specs.Offsets.{Known, look}
use Rattle.definition.specs.Edition.{Edition, statements}
use Rattle.definition.specs.Contents.{size, text}
use Rattle.definition.specs.Lists.{gather, range}
use Rattle.values.specs.Tables.{table}
use Rattle.places.specs.Keys.{places_of}
use Rattle.reads.specs.Counts.{visit, slots}
use Rattle.marks.specs.Reading.{classed, reading}
use Rattle.marks.proofs.roots.read_roots.Given as goal

abbrev pub invariant-loop-i : goal.invariant-loop-i
invariant-loop-i l = ((E : Edition) (k : List Known) → text E ≡ l.of.t → l.offsets ≡ table l.of.f.now (length l.of.numbers.now) (look k) → visit (classed l.roots) l.initial.tab (gather (λ (j : ℕ). slots l.of.numbers.now (places_of l.of.f.now).exprs (reading E l.of.f.now k j)) (range 0 (size l.of.f.now statements))) ≡ visit (classed l.roots) l.tab (gather (λ (j : ℕ). slots l.of.numbers.now (places_of l.of.f.now).exprs (reading E l.of.f.now k j)) (range l.i (l.n - l.i)))) × (l.n ≡ size l.of.f.now statements) × (length l.tab ≡ length l.initial.tab)
