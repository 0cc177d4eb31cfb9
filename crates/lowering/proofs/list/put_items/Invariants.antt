-- The items from k on are left to write, behind a comma unless k is 0; each turn writes the first of them, and at the end none is left.
use Rattle.lowering.specs.Commas.{args_of, listed}
use Rattle.room.specs.Room.{room_of, emit_all, seen}
use Rattle.definition.specs.Contents.{text as text_of}
use Rattle.definition.specs.Edition.{Edition}
use lib.ListN.{length}
use lib.Dec.{ltb}
use Prim.Native.Nat.{◌+◌, ◌-◌}
use mathlib.Core.Bool.{false}
use mathlib.Core.Path.{◌≡◌}
use Rattle.lowering.proofs.list.put_items.Given as goal

abbrev pub invariant-loop-k : goal.invariant-loop-k
invariant-loop-k l = ((E : Edition) → text_of E ≡ l.src.of.t → seen (emit_all (room_of l.initial.tokens l.initial.text l.initial.out) (args_of E l.src.of.f.now false (listed l.src.of.f.now l.first l.n))) ≡ seen (emit_all (room_of l.tokens l.text l.out) (args_of E l.src.of.f.now (ltb 0 l.k) (listed l.src.of.f.now (l.first + l.k) (l.n - l.k))))) × (length l.tokens ≡ length l.initial.tokens) × (length l.text ≡ length l.initial.text)
