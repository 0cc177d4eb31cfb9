-- The blocks from b on are left to write, and the walk stands at the first statement of b; when none is left, all lines are written.
use mathlib.Core.Path.{◌≡◌}
use lib.ListN.{length}
use Rattle.definition.specs.Edition.{Edition, blocks}
use Rattle.definition.specs.Contents.{size, text as text_of}
use Rattle.definition.specs.Owners.{first_stmt}
use Rattle.definition.specs.Read.{read}
use Rattle.definition.specs.Offsets.{offsets}
use Rattle.definition.specs.Blocks.{lower as lower_of}
use Rattle.room.specs.Room.{sheet_of, write_all, seen_sheet}
use Rattle.room.specs.Blank.{fresh}
use Rattle.lower.specs.Given.{Stands}
use Rattle.lower.specs.Remains.{block_lines}
use Rattle.lower.proofs.lower.Given as goal

abbrev pub invariant-loop-b : goal.invariant-loop-b
invariant-loop-b l = ((E : Edition) → text_of E ≡ l.t → seen_sheet (write_all (sheet_of l.initial.lines l.initial.tokens l.initial.text fresh) (lower_of (read E l.f) (offsets (read E l.f)))) ≡ seen_sheet (write_all (sheet_of l.lines l.tokens l.text l.w.out) (block_lines E l.f l.b))) × (Stands l.f (first_stmt l.f l.b) l.w) × (l.n ≡ size l.f blocks) × (length l.lines ≡ length l.initial.lines) × (length l.tokens ≡ length l.initial.tokens) × (length l.text ≡ length l.initial.text)
