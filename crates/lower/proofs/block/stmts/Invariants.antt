-- The lines from statement i on are left, with the items, waiting pushes and count of set registers as the definition has them at i.
use mathlib.Core.Path.{◌≡◌}
use Prim.Native.Nat.{◌-◌, ◌≤◌}
use lib.ListN.{length}
use Rattle.definition.specs.Edition.{Edition}
use Rattle.definition.specs.Contents.{text as text_of}
use Rattle.definition.specs.Owners.{first_stmt, first_item}
use Rattle.definition.specs.Read.{read}
use Rattle.definition.specs.Lower.{count_set}
use Rattle.room.specs.Room.{sheet_of, write_all, seen_sheet}
use Rattle.lower.specs.Remains.{set_since, stmt_lines}
use Rattle.lower.proofs.block.stmts.Given as goal

abbrev pub invariant-loop-i : goal.invariant-loop-i
invariant-loop-i l = ((E : Edition) → text_of E ≡ l.given.src.of.t → seen_sheet (write_all (sheet_of l.initial.lines l.initial.tokens l.initial.text l.initial.out) (stmt_lines E l.given.src.of.f.now l.block l.initial.i l.end l.initial.i l.initial.i)) ≡ seen_sheet (write_all (sheet_of l.lines l.tokens l.text l.out) (stmt_lines E l.given.src.of.f.now l.block l.initial.i l.end l.from l.i))) × ((E : Edition) → l.count ≡ count_set (set_since E l.given.src.of.f.now l.initial.i (l.i - l.initial.i)) (read E l.given.src.of.f.now).args) × (l.item ≡ first_item l.given.src.of.f.now l.i) × (l.from ≤ l.i) × (l.initial.i ≤ l.i) × (l.i ≤ l.end) × (l.initial.i ≡ first_stmt l.given.src.of.f.now l.block) × (length l.lines ≡ length l.initial.lines) × (length l.tokens ≡ length l.initial.tokens) × (length l.text ≡ length l.initial.text)
