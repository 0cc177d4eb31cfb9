-- Each public contract fixes what is seen of the sheet that is left, for every edition with the text's section; so no second outcome meets it that
-- differs in what may be seen, which is all of it unless it is full.
use mathlib.Core.Path.{◌≡◌, sym, ◌∙◌}
use mathlib.Core.List.{List, []}
use Prim.Native.Nat.{ℕ, ◌+◌}
use Rattle.definition.specs.Edition.{Edition}
use Rattle.definition.specs.Contents.{text}
use Rattle.definition.specs.Owners.{block_stmts, first_stmt}
use Rattle.definition.specs.Ssa.{Stmt}
use Rattle.definition.specs.Read.{read}
use Rattle.definition.specs.Lower.{count_set}
use Rattle.room.specs.Room.{Sheet, write_all, seen_sheet}
use Rattle.lowering.specs.Lowered.{lowered, here_at}
use Rattle.jumps.specs.Written.{if_lines}

module _ (E : Edition) (t : ℕ) (section : text E ≡ t) (f : List ℕ) (r s entry : Sheet) where
  pub conditional : (b i : ℕ) → ((D : Edition) → text D ≡ t → seen_sheet r ≡ seen_sheet (write_all entry (if_lines D f b i)))
      → ((D : Edition) → text D ≡ t → seen_sheet s ≡ seen_sheet (write_all entry (if_lines D f b i))) → seen_sheet r ≡ seen_sheet s
  conditional b i p q = p E section ∙ sym (q E section)

  -- for registers that are set and counted so
  pub branch : (b i count : ℕ) (set : List ℕ) → count ≡ count_set set (read E f).args
      → ((D : Edition) (pend : List Stmt) (xs : List ℕ) → text D ≡ t → count ≡ count_set xs (read D f).args
      → seen_sheet r ≡ seen_sheet (write_all entry (lowered D f (here_at D f b) pend xs (first_stmt f b + block_stmts f b) i)))
      → ((D : Edition) (pend : List Stmt) (xs : List ℕ) → text D ≡ t → count ≡ count_set xs (read D f).args
      → seen_sheet s ≡ seen_sheet (write_all entry (lowered D f (here_at D f b) pend xs (first_stmt f b + block_stmts f b) i)))
      → seen_sheet r ≡ seen_sheet s
  branch b i count set regs p q = p E [] set section regs ∙ sym (q E [] set section regs)
