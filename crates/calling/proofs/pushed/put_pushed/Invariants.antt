-- The pushes before j are left to write, behind a comma once one is written; j falls, and at `from` none is left.
use Rattle.calls.specs.Waiting.{pushed_nodes}
use Rattle.lowering.specs.Commas.{args_of}
use Rattle.room.specs.Room.{room_of, emit_all, seen}
use Rattle.definition.specs.Contents.{text as text_of}
use Rattle.definition.specs.Edition.{Edition}
use lib.ListN.{length}
use mathlib.Core.Bool.{false}
use mathlib.Core.Path.{◌≡◌}
use Rattle.calling.proofs.pushed.put_pushed.Given as goal

abbrev pub invariant-loop-j : goal.invariant-loop-j
invariant-loop-j l = ((E : Edition) → text_of E ≡ l.src.of.t → seen (emit_all (room_of l.initial.tokens l.initial.text l.initial.out) (args_of E l.src.of.f.now false (pushed_nodes l.src.of.f.now l.from l.i))) ≡ seen (emit_all (room_of l.tokens l.text l.out) (args_of E l.src.of.f.now l.more (pushed_nodes l.src.of.f.now l.from l.j)))) × (length l.tokens ≡ length l.initial.tokens) × (length l.text ≡ length l.initial.text)
