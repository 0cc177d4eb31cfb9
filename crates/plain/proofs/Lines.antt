-- The lines of a statement of each kind, as the definition lowers it: none where a test holds, and else one at its address.
use mathlib.Core.Path.{◌≡◌, refl}
use mathlib.Core.Bool.{Bool, true, false, cond, ◌||◌}
use mathlib.Core.Option.{some}
use mathlib.Core.List.{List, [], ◌∷◌}
use Prim.Native.Nat.{ℕ, ◌≤◌, ◌<◌}
use native.Mathlib.Omega.{arith}
use Rattle.definition.specs.Edition.{Edition}
use Rattle.definition.specs.Contents.{stmt_long}
use Rattle.definition.specs.Owners.{stmt_kind, stmt_field}
use Rattle.definition.specs.Ssa.{Stmt}
use Rattle.definition.specs.Read.{tree_at, all_trees, marked, kind_at, stmt_at, read}
use Rattle.definition.specs.Offsets.{offsets}
use Rattle.definition.specs.Tokens.{Line, line}
use Rattle.definition.specs.Lower.{Here, restores, assign, silent, store, return, other, lower_kind}
use Rattle.definition.specs.Blocks.{is_save}
use Rattle.lowering.specs.Lowered.{lowering_of, lowered, expr_of, within_of}
use Rattle.plain.specs.Pieces.{result_of, return_of, is_taken, is_silent, through_of, destination_of, store_of, target, is_gone, assign_of}
use Rattle.plain.specs.Asm.{other_of}
use Rattle.lowering.proofs.Gen.{gen_bits, gen_offsets}

-- a statement of a block is one of the file
pub inside : (i end n : ℕ) → (i < end) × (end ≤ n) → i < n
inside i end n h = omega (arith, h.0, h.1)

-- two tests in turn
in_turn : (a b : Bool) (xs : List Line) → cond (a || b) [] xs ≡ cond a [] (cond b [] xs)
in_turn true b xs = refl
in_turn false b xs = refl

-- ---- by kinds
module _ (E : Edition) (f : List ℕ) (H : Here) (pend : List Stmt) (set : List ℕ) (end i : ℕ) where
  pub return_lines : stmt_kind f i ≡ 6 → lowered E f H pend set end i ≡ cond (marked f i 1) [] (line 1 (some (stmt_long f i 0)) (return_of E f i) ∷ [])
  unfolding lowered lower_kind stmt_at kind_at return return_of result_of
  return_lines is = rw is

  pub store_lines : stmt_kind f i ≡ 2
      → lowered E f H pend set end i ≡ cond (marked f i 1) [] (cond (is_silent E f (offsets (read E f)) end i) [] (line 1 (some (stmt_long f i 0)) (store_of E f i) ∷ []))
  unfolding lowered lower_kind stmt_at kind_at store silent is_silent is_taken is_save store_of destination_of through_of within_of expr_of
  store_lines is = rw (is, gen_bits E f, gen_offsets E f)

  pub assign_lines : stmt_kind f i ≡ 1
      → lowered E f H pend set end i ≡ cond (is_gone E f i) [] (cond (restores (lowering_of E f) (target f i) (tree_at (all_trees E f) (stmt_field f i 2))) [] (line 1 (some (stmt_long f i 0)) (assign_of E f i) ∷ []))
  unfolding lowered lower_kind stmt_at kind_at assign is_gone assign_of within_of expr_of
  assign_lines is =
      rw is (in_turn (is_gone E f i) (restores (lowering_of E f) (target f i) (tree_at (all_trees E f) (stmt_field f i 2))) (line 1 (some (stmt_long f i 0)) (assign_of E f i) ∷ []))

  pub other_lines : stmt_kind f i ≡ 7 → lowered E f H pend set end i ≡ cond (marked f i 1) [] (line 1 (some (stmt_long f i 0)) (other_of E f i) ∷ [])
  unfolding lowered lower_kind stmt_at kind_at other other_of
  other_lines is = rw is
