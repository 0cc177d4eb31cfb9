-- The contract fixes what is seen of the sheet that is left, so no second one meets it.
use mathlib.Core.Path.{◌≡◌, sym, ◌∙◌}
use mathlib.Core.List.{List}
use Prim.Native.Nat.{ℕ}
use Rattle.definition.specs.Edition.{Edition}
use Rattle.definition.specs.Contents.{text}
use Rattle.definition.specs.Read.{read}
use Rattle.definition.specs.Offsets.{offsets}
use Rattle.definition.specs.Blocks.{lower}
use Rattle.room.specs.Room.{Sheet, write_all, seen_sheet}

module _ (E : Edition) (t : ℕ) (section : text E ≡ t) (f : List ℕ) (r s entry : Sheet) where
  pub all_lines : ((E : Edition) → text E ≡ t → seen_sheet r ≡ seen_sheet (write_all entry (lower (read E f) (offsets (read E f)))))
      → ((E : Edition) → text E ≡ t → seen_sheet s ≡ seen_sheet (write_all entry (lower (read E f) (offsets (read E f)))))
      → seen_sheet r ≡ seen_sheet s
  all_lines p q = p E section ∙ sym (q E section)
