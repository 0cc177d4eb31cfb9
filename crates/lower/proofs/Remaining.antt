-- What remains of a block, once a statement is written, is what remains behind it; at the block's end nothing does.
use mathlib.Core.Path.{◌≡◌, refl, sym, ap, ap₂, ◌∙◌}
use mathlib.Core.List.{List, [], ◌++◌, map}
use Prim.Native.Nat.{ℕ, suc, ◌+◌, ◌-◌, ◌≤◌, ◌<◌}
use native.Mathlib.Omega.{arith}
use Rattle.definition.specs.Edition.{Edition}
use Rattle.definition.specs.Lists.{range}
use Rattle.definition.specs.Owners.{block_stmts, first_stmt}
use Rattle.definition.specs.Ssa.{Stmt}
use Rattle.definition.specs.Read.{read, all_trees, stmt_at, block_at}
use Rattle.definition.specs.Tokens.{Line}
use Rattle.definition.specs.Lower.{Lowering, Here, count_set, lower_kind}
use Rattle.definition.specs.Blocks.{pend_after, set_after, lower_stmts}
use Rattle.inline.specs.Placing.{behind}
use Rattle.calls.specs.Waiting.{pending}
use Rattle.calls.proofs.Counting.{count_none}
use Rattle.calls.proofs.Waits.{pending_none}
use Rattle.room.specs.Room.{Sheet, write_all, seen_sheet}
use Rattle.room.proofs.Laws.{writes, written_none}
use Rattle.lowering.specs.Lowered.{lowering_of, lowered, here_at}
use Rattle.lowering.proofs.Gen.{lowering_args}
use Rattle.lower.specs.Remains.{set_since, stmt_lines}

module _ (E : Edition) (f : List ℕ) (first : ℕ) where
  abbrev S : ℕ → Stmt
  S i = stmt_at E f (all_trees E f) i

  -- ---- the registers that are set
  set_next : (i : ℕ) → first ≤ i → set_since E f first (i + 1 - first) ≡ set_after (read E f).args (S i) (S i).kind (set_since E f first (i - first))
  unfolding set_since
  set_next i h =
      let k : i + 1 - first ≡ suc (i - first) = omega arith in
      let z : first + (i - first) ≡ i = omega arith in
      ap (set_since E f first) k ∙ ap (λ (j : ℕ). set_after (read E f).args (S j) (S j).kind (set_since E f first (i - first))) z

  set_first : set_since E f first (first - first) ≡ []
  unfolding set_since
  set_first = let k : first - first ≡ 0 = omega arith in ap (set_since E f first) k

  pub count_first : 0 ≡ count_set (set_since E f first (first - first)) (read E f).args
  count_first = sym (ap (λ (l : List ℕ). count_set l (read E f).args) set_first ∙ count_none (read E f).args)

  pub count_next : (i r : ℕ) → first ≤ i → r ≡ count_set (set_after (read E f).args (S i) (S i).kind (set_since E f first (i - first))) (read E f).args
      → r ≡ count_set (set_since E f first (i + 1 - first)) (read E f).args
  count_next i r h e = e ∙ ap (λ (l : List ℕ). count_set l (read E f).args) (sym (set_next i h))

  -- ---- the lines
  module _ (block end : ℕ) where
    abbrev L : Lowering
    L = lowering_of E f

    abbrev H : Here
    H = here_at E f block

    lines_cons : (from next i : ℕ) → first ≤ i → i < end → pend_after (S i) (pending E f from i) ≡ pending E f next (i + 1)
        → stmt_lines E f block first end from i
        ≡ lowered E f H (pending E f from i) (set_since E f first (i - first)) end i ++ stmt_lines E f block first end next (i + 1)
    unfolding stmt_lines lowered lower_stmts range behind
    lines_cons from next i h g p =
        let k : end - i ≡ suc (end - (i + 1)) = omega arith in
        let pend = pending E f from i in
        let set = set_since E f first (i - first) in
        let rest = map (stmt_at E f (all_trees E f)) (range (i + 1) (end - (i + 1))) in
        let q : set_after L.args (S i) (S i).kind set ≡ set_since E f first (i + 1 - first) = ap (λ (as' : List ℕ). set_after as' (S i) (S i).kind set) (lowering_args E f) ∙ sym (set_next i h) in
        ap (λ (n : ℕ). lower_stmts L H pend set (map (stmt_at E f (all_trees E f)) (range i n))) k
        ∙ ap (λ (ls : List Line). lower_kind L H pend set (S i) rest (S i).kind ++ ls) (ap₂ (λ (a : List Stmt) (b : List ℕ). lower_stmts L H a b rest) p q)

    lines_none : (from i : ℕ) → end ≤ i → stmt_lines E f block first end from i ≡ []
    unfolding stmt_lines lower_stmts range
    lines_none from i h =
        let k : end - i ≡ 0 = omega arith in
        ap (λ (n : ℕ). lower_stmts L H (pending E f from i) (set_since E f first (i - first)) (map (stmt_at E f (all_trees E f)) (range i n))) k

    lines_all : first ≡ first_stmt f block → end ≡ first_stmt f block + block_stmts f block
        → stmt_lines E f block first end first first ≡ lower_stmts L H [] [] H.block.stmts
    unfolding stmt_lines here_at block_at
    lines_all e d =
        let k : end - first ≡ block_stmts f block = omega arith in
        ap₂ (λ (a : List Stmt) (b : List ℕ). lower_stmts L H a b (map (stmt_at E f (all_trees E f)) (range first (end - first)))) (pending_none E f first) set_first
        ∙ ap₂ (λ (a n : ℕ). lower_stmts L H [] [] (map (stmt_at E f (all_trees E f)) (range a n))) e k

    pub stmts_turn : (from next i : ℕ) (s₁ s₀ : Sheet) → first ≤ i → i < end → pend_after (S i) (pending E f from i) ≡ pending E f next (i + 1)
        → seen_sheet s₁ ≡ seen_sheet (write_all s₀ (lowered E f H (pending E f from i) (set_since E f first (i - first)) end i))
        → seen_sheet (write_all s₀ (stmt_lines E f block first end from i)) ≡ seen_sheet (write_all s₁ (stmt_lines E f block first end next (i + 1)))
    stmts_turn from next i s₁ s₀ h g p e =
        let rest = stmt_lines E f block first end next (i + 1) in
        ap (λ (ls : List Line). seen_sheet (write_all s₀ ls)) (lines_cons from next i h g p)
        ∙ sym (writes (write_all s₁ rest) s₁ s₀ (lowered E f H (pending E f from i) (set_since E f first (i - first)) end i) rest e refl)

    pub stmts_end : (from i : ℕ) (s s₀ : Sheet) → end ≤ i → first ≡ first_stmt f block → end ≡ first_stmt f block + block_stmts f block
        → seen_sheet (write_all s₀ (stmt_lines E f block first end first first)) ≡ seen_sheet (write_all s (stmt_lines E f block first end from i))
        → seen_sheet s ≡ seen_sheet (write_all s₀ (lower_stmts L H [] [] H.block.stmts))
    stmts_end from i s s₀ h a b e =
        written_none s ∙ ap (λ (ls : List Line). seen_sheet (write_all s ls)) (sym (lines_none from i h))
        ∙ sym e ∙ ap (λ (ls : List Line). seen_sheet (write_all s₀ ls)) (lines_all a b)
