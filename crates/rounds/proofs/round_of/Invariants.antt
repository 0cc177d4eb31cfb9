-- The definitions of the blocks below b have run and the walk stands before block b; at the end those of all blocks have.
use Rattle.rounds.specs.Before.{Before}
use Rattle.rounds.specs.Ran.{Ran}
use Rattle.rounds.specs.Defs.{mine, defs_below}
use Rattle.definition.specs.Contents.{text}
use Rattle.definition.specs.Edition.{Edition}
use lib.ListN.{length}
use Prim.Native.Nat.{◌≤◌}
use mathlib.Core.Path.{◌≡◌}
use Rattle.rounds.proofs.round_of.Given as goal

abbrev pub invariant-loop-b : goal.invariant-loop-b
invariant-loop-b l = (l.b ≤ l.n) × (length l.tab ≡ length l.initial.tab) × Before l.of.f.now l.b l.w × ((E : Edition) → text E ≡ l.of.t → Ran l.of.f.now (length l.of.numbers.now) (mine l.own (defs_below E l.of.f.now l.b)) l.initial.tab l.tab l.changed)
