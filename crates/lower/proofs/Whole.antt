-- A block is its label, its statements and its closing goto; the function is its blocks, of which each knows the start of the next.
use mathlib.Core.Path.{◌≡◌, refl, sym, ap, ap₂, ◌∙◌}
use mathlib.Core.Bool.{Bool, false, cond}
use mathlib.Core.Option.{Option}
use mathlib.Core.List.{List, [], ◌++◌, map}
use Prim.Native.Nat.{ℕ, suc, ◌+◌, ◌-◌, ◌≤◌, ◌<◌}
use native.Mathlib.Omega.{arith}
use Rattle.definition.specs.Edition.{Edition, blocks}
use Rattle.definition.specs.Lists.{or_else, range}
use Rattle.definition.specs.Contents.{size, block_long}
use Rattle.definition.specs.Owners.{block_stmts, first_stmt}
use Rattle.definition.specs.Ssa.{Block}
use Rattle.definition.specs.Read.{read, all_trees, stmt_at, block_at}
use Rattle.definition.specs.Offsets.{offsets}
use Rattle.definition.specs.Tokens.{Line}
use Rattle.definition.specs.Lower.{Here}
use Rattle.definition.specs.Blocks.{last_leaves, closing, label_line, lower_stmts, lower_block, lower_blocks, lower}
use Rattle.labels.specs.Labels.{next_at, start_at}
use Rattle.labels.proofs.Jumping.{next_is}
use Rattle.room.specs.declared.out.Out.{Out}
use Rattle.room.specs.Blank.{fresh}
use Rattle.room.specs.Room.{Sheet, sheet_of, write_all, seen_sheet}
use Rattle.room.proofs.Laws.{writes, written_none}
use Rattle.lowering.specs.Lowered.{lowering_of, here_at}
use Rattle.lower.specs.Remains.{block_lines}

module _ (E : Edition) (f : List ℕ) where
  abbrev B : ℕ → Block
  B b = block_at E f (all_trees E f) b

  -- ---- a block
  module _ (b : ℕ) where
    abbrev H : Here
    H = here_at E f b

    leaves_is : (first n : ℕ) → first ≡ first_stmt f b → n ≡ block_stmts f b
        → last_leaves false (map (stmt_at E f (all_trees E f)) (range first n)) ≡ last_leaves false H.block.stmts
    unfolding here_at block_at
    leaves_is first n e d = ap₂ (λ (a m : ℕ). last_leaves false (map (stmt_at E f (all_trees E f)) (range a m))) e d

    block_is : (l : Bool) → l ≡ last_leaves false H.block.stmts
        → label_line (lowering_of E f) (block_long f b 0) ++ lower_stmts (lowering_of E f) H [] [] H.block.stmts ++ cond l [] (closing (lowering_of E f) H (or_else H.block.fall H.block.taken))
        ≡ lower_block (lowering_of E f) H
    unfolding lower_block here_at block_at
    block_is l e = rw e

    pub block_lines_lem : (first n : ℕ) (l : Bool) (s₃ s₂ s₁ s₀ : Sheet) → first ≡ first_stmt f b → n ≡ block_stmts f b
        → l ≡ last_leaves false (map (stmt_at E f (all_trees E f)) (range first n))
        → seen_sheet s₁ ≡ seen_sheet (write_all s₀ (label_line (lowering_of E f) (block_long f b 0)))
        → seen_sheet s₂ ≡ seen_sheet (write_all s₁ (lower_stmts (lowering_of E f) H [] [] H.block.stmts))
        → seen_sheet s₃ ≡ seen_sheet (write_all s₂ (cond l [] (closing (lowering_of E f) H (or_else H.block.fall H.block.taken))))
        → seen_sheet s₃ ≡ seen_sheet (write_all s₀ (lower_block (lowering_of E f) H))
    block_lines_lem first n l s₃ s₂ s₁ s₀ e d g x y z =
        let close = cond l [] (closing (lowering_of E f) H (or_else H.block.fall H.block.taken)) in
        let these = lower_stmts (lowering_of E f) H [] [] H.block.stmts in
        let label = label_line (lowering_of E f) (block_long f b 0) in
        writes s₃ s₂ s₀ (label ++ these) close (writes s₂ s₁ s₀ label these x y) z
        ∙ ap (λ (ls : List Line). seen_sheet (write_all s₀ ls)) (block_is l (g ∙ leaves_is first n e d))

  -- ---- all blocks
  blocks_cons : (b : ℕ) → b < size f blocks → block_lines E f b ≡ lower_block (lowering_of E f) (here_at E f b) ++ block_lines E f (b + 1)
  unfolding block_lines lower_blocks range here_at next_at start_at
  blocks_cons b h =
      let m = size f blocks - (b + 1) in
      let k : size f blocks - b ≡ suc m = omega arith in
      ap (λ (n : ℕ). lower_blocks (lowering_of E f) (map (block_at E f (all_trees E f)) (range b n))) k
      ∙ ap (λ (o : Option ℕ). lower_block (lowering_of E f) (record { block = B b; next = o }) ++ lower_blocks (lowering_of E f) (map (block_at E f (all_trees E f)) (range (b + 1) m)))
      (next_is E f b m (omega arith))

  blocks_none : (b : ℕ) → size f blocks ≤ b → block_lines E f b ≡ []
  unfolding block_lines lower_blocks range
  blocks_none b h =
      let k : size f blocks - b ≡ 0 = omega arith in
      ap (λ (n : ℕ). lower_blocks (lowering_of E f) (map (block_at E f (all_trees E f)) (range b n))) k

  blocks_all : lower (read E f) (offsets (read E f)) ≡ block_lines E f 0
  unfolding lower block_lines lowering_of read
  blocks_all = let k : size f blocks ≡ size f blocks - 0 = omega arith in ap (λ (n : ℕ). lower_blocks (lowering_of E f) (map (block_at E f (all_trees E f)) (range 0 n))) k

  pub blocks_start : (l k t : List ℕ) (o : Out) → o ≡ fresh
      → seen_sheet (write_all (sheet_of l k t fresh) (lower (read E f) (offsets (read E f)))) ≡ seen_sheet (write_all (sheet_of l k t o) (block_lines E f 0))
  blocks_start l k t o e = ap₂ (λ (x : Out) (ls : List Line). seen_sheet (write_all (sheet_of l k t x) ls)) (sym e) blocks_all

  module _ (n b : ℕ) (is : n ≡ size f blocks) where
    pub blocks_turn : (s₁ s₀ : Sheet) → b < n → seen_sheet s₁ ≡ seen_sheet (write_all s₀ (lower_block (lowering_of E f) (here_at E f b)))
        → seen_sheet (write_all s₀ (block_lines E f b)) ≡ seen_sheet (write_all s₁ (block_lines E f (b + 1)))
    blocks_turn s₁ s₀ h e =
        let rest = block_lines E f (b + 1) in
        ap (λ (ls : List Line). seen_sheet (write_all s₀ ls)) (blocks_cons b (omega arith))
        ∙ sym (writes (write_all s₁ rest) s₁ s₀ (lower_block (lowering_of E f) (here_at E f b)) rest e refl)

    pub blocks_end : (s : Sheet) → n ≤ b → seen_sheet s ≡ seen_sheet (write_all s (block_lines E f b))
    blocks_end s h = written_none s ∙ ap (λ (ls : List Line). seen_sheet (write_all s ls)) (sym (blocks_none b (omega arith)))
