-- Each contract of this crate fixes what is seen of the room or the sheet that is left, so no second one meets it.
use mathlib.Core.Path.{◌≡◌, sym, ◌∙◌}
use mathlib.Core.List.{List}
use Prim.Native.Nat.{ℕ}
use Rattle.definition.specs.Edition.{Edition}
use Rattle.definition.specs.Contents.{text}
use Rattle.definition.specs.Read.{read}
use Rattle.definition.specs.Lower.{Here, comma_list, count_set}
use Rattle.room.specs.Room.{Room, Sheet, emit_all, seen, write_all, seen_sheet}
use Rattle.lowering.specs.Lowered.{lowering_of, lowered}
use Rattle.calls.specs.Waiting.{pending, pushed_nodes}
use Rattle.lowering.specs.Commas.{trees_of}

module _ (E : Edition) (t : ℕ) (section : text E ≡ t) (f : List ℕ) where
  pub put_pushed : (from i : ℕ) (r s entry : Room)
      → ((E : Edition) → text E ≡ t → seen r ≡ seen (emit_all entry (comma_list (lowering_of E f) (trees_of E f (pushed_nodes f from i)))))
      → ((E : Edition) → text E ≡ t → seen s ≡ seen (emit_all entry (comma_list (lowering_of E f) (trees_of E f (pushed_nodes f from i)))))
      → seen r ≡ seen s
  put_pushed from i r s entry p q = p E section ∙ sym (q E section)

  pub call : (H : Here) (set : List ℕ) (end from count i : ℕ) → count ≡ count_set set (read E f).args → (r s entry : Sheet)
      → ((E : Edition) (H : Here) (set : List ℕ) (end : ℕ) → text E ≡ t → count ≡ count_set set (read E f).args
      → seen_sheet r ≡ seen_sheet (write_all entry (lowered E f H (pending E f from i) set end i)))
      → ((E : Edition) (H : Here) (set : List ℕ) (end : ℕ) → text E ≡ t → count ≡ count_set set (read E f).args
      → seen_sheet s ≡ seen_sheet (write_all entry (lowered E f H (pending E f from i) set end i)))
      → seen_sheet r ≡ seen_sheet s
  call H set end from count i regs r s entry p q = p E H set end section regs ∙ sym (q E H set end section regs)
