-- A Branch as the definition lowers it: its record read off the fields and list items, each arm its own lines; the first of a run of list items are a
-- shorter run.
use mathlib.Core.Path.{◌≡◌, refl, sym, ap, ap₂, ◌∙◌}
use mathlib.Core.Bool.{Bool, true, false, cond}
use mathlib.Core.Option.{Option, none, some}
use mathlib.Core.List.{List, [], ◌∷◌, ◌++◌, map}
use Rattle.std.specs.Prelude.{Option as Answer, Some, None}
use Prim.Native.Nat.{ℕ, min, ◌+◌, ◌<◌}
use native.Mathlib.Omega.{arith}
use lib.ListN.{take, get_or}
use mir.Syntax.{w8}
use mir.Val.{Fits}
use borrow.Author.Tests.{eq-eqb, ne_eqb}
use Rattle.definition.specs.Edition.{Edition}
use Rattle.definition.specs.Texts.{txt, begins}
use Rattle.definition.specs.Lists.{among, or_else}
use Rattle.definition.specs.Contents.{block_word, block_long, text_at}
use Rattle.definition.specs.Owners.{stmt_kind, stmt_field, expr_items}
use Rattle.definition.specs.References.{item_exprs}
use Rattle.definition.specs.Ssa.{Expr, Stmt}
use Rattle.definition.specs.Ssa.Kind.{Branch}
use Rattle.definition.specs.Read.{when, tree_at, all_trees, kind_at, marked, stmt_at, block_at, read}
use Rattle.definition.specs.Lookup.{order, is_next}
use Rattle.definition.specs.Tokens.{Line, textual, keyword, symbol, address, punct}
use Rattle.definition.specs.Lower.{goto_tokens, count_set, fall_line, branch_if, tail_call, leave, branch_to, branch, lower_kind}
use Rattle.definition.specs.Blocks.{lowering}
use Rattle.records.proofs.Items.{items_few, exprs_fit}
use Rattle.records.proofs.Laws.{kind_exprs}
use Rattle.ssa.specs.View.{option_of}
use Rattle.inline.specs.Placing.{behind}
use Rattle.labels.specs.Labels.{start_at, next_at}
use Rattle.room.specs.Room.{Sheet, write_all, seen_sheet}
use Rattle.room.proofs.Laws.{written_none}
use Rattle.lowering.specs.Lowered.{lowering_of, stmt_of, lowered, here_at}
use Rattle.jumps.specs.Given.{BranchAt}
use Rattle.gotos.specs.Written.{uses_of, name_of, stmt_line, to_block, computed_tokens, name_tokens, return_if, call_tokens, end_tokens, return_line, tail_by, tail_of, leave_of}
use Rattle.jumps.specs.Written.{condition_of, if_tokens, own_of, aim_of, test_tokens, fall_to, fall_of, if_lines, jump_of, plain_to, goal_of, plain_of}
use Rattle.lowering.proofs.Commas.{take_listed}
use Rattle.lowering.proofs.Gen.{lowering_returns, lowering_args}
use Rattle.jumps.proofs.Naming.{name_is}
use Rattle.gotos.proofs.Using.{uses_are}
use Rattle.gotos.proofs.Ends.{lines_are}

-- ---- what a branch gives its parts
module _ (f : List ℕ) (block i item : ℕ) (at : BranchAt f block i item) where
  pub args_fit : ((k : ℕ) → Fits w8 (get_or f k 0)) → (count x n : ℕ) → x ≡ stmt_field f i 6 → n ≡ min count x → item + n < 4294967296
  args_fit bytes count x n e p =
      let few : item + expr_items f i < 4294967296 = exprs_fit f (items_few f bytes at.own) i refl at.here at.first in
      let all : x ≡ expr_items f i = kind_exprs f i (stmt_kind f i) x refl 4 at.kind e in
      omega arith

-- ---- the first of a run
take_uses : (E : Edition) (f : List ℕ) (c a n : ℕ) → take c (uses_of E f a n) ≡ uses_of E f a (min c n)
unfolding uses_of
take_uses = take_listed

-- ---- its lines
module _ (E : Edition) (f : List ℕ) (b i item count : ℕ) (s s₀ : Sheet) (d : Answer ℕ) (goes : option_of d ≡ goal_of f b i) where
  pub plain_goes : (a x m : ℕ) → d ≡ Some a → x ≡ stmt_field f i 6 → m ≡ min count x
      → seen_sheet s ≡ seen_sheet (write_all s₀ (jump_of E f b i a (uses_of E f item m))) → seen_sheet s ≡ seen_sheet (write_all s₀ (plain_of E f b i item count))
  unfolding plain_of plain_to
  plain_goes a x m h uses few k =
      let to : goal_of f b i ≡ some a = sym goes ∙ ap (λ (o : Answer ℕ). option_of o) h in
      lines_are s s₀ (jump_of E f b i a (uses_of E f item m)) (plain_of E f b i item count)
      (ap (plain_to E f b i item (stmt_field f i 6) (min count (stmt_field f i 6))) to
      ∙ sym (ap (λ (n : ℕ). jump_of E f b i a (uses_of E f item n)) (few ∙ ap (min count) uses))) k

  pub plain_computed : d ≡ None → seen_sheet s ≡ seen_sheet (write_all s₀ (stmt_line f i (computed_tokens E f item (stmt_field f i 6))))
      → seen_sheet s ≡ seen_sheet (write_all s₀ (plain_of E f b i item count))
  unfolding plain_of plain_to
  plain_computed h k =
      let to : goal_of f b i ≡ none = sym goes ∙ ap (λ (o : Answer ℕ). option_of o) h in
      lines_are s s₀ (stmt_line f i (computed_tokens E f item (stmt_field f i 6))) (plain_of E f b i item count)
      (ap (plain_to E f b i item (stmt_field f i 6) (min count (stmt_field f i 6))) to) k

-- ---- to a: a block, or out of the function
module _ (E : Edition) (f : List ℕ) (b i a : ℕ) (xs : List Expr) (d : Bool) (says : d ≡ among a (order (read E f))) (s s₀ : Sheet) where
  pub jump_block : d ≡ true → seen_sheet s ≡ seen_sheet (write_all s₀ (to_block f b i a)) → seen_sheet s ≡ seen_sheet (write_all s₀ (jump_of E f b i a xs))
  unfolding jump_of
  jump_block h k = rw (← says, h) k

  pub jump_out : d ≡ false → seen_sheet s ≡ seen_sheet (write_all s₀ (leave_of E f i a xs)) → seen_sheet s ≡ seen_sheet (write_all s₀ (jump_of E f b i a xs))
  unfolding jump_of
  jump_out h k = rw (← says, h) k

-- ---- all of it
module _ (E : Edition) (f : List ℕ) (b i item count : ℕ) (at : BranchAt f b i item) (set : List ℕ) (regs : count ≡ count_set set (read E f).args) where
  abbrev uses : List Expr
  uses = uses_of E f item (stmt_field f i 6)

  abbrev args : List Expr
  args = uses_of E f item (min count (stmt_field f i 6))

  -- the conditional
  fall_by : (o : Option ℕ) → fall_line (lowering_of E f) (here_at E f b) (stmt_of E f i) o ≡ fall_to E f b i o
  unfolding fall_line fall_to here_at next_at start_at stmt_line stmt_at
  fall_by none = refl
  fall_by (some a) = ap (λ (n : List ℕ). cond (is_next (next_at f b) a) [] (stmt_line f i (goto_tokens (symbol n)))) (name_is E f a)

  fall_is : fall_line (lowering_of E f) (here_at E f b) (stmt_of E f i) (here_at E f b).block.fall ≡ fall_of E f b i
  unfolding fall_of here_at block_at
  fall_is = fall_by (when (block_word f b 5) (block_long f b 6))

  if_is : branch_if (lowering_of E f) (here_at E f b) (stmt_of E f i) (text_at E f (stmt_field f i 1) (stmt_field f i 2)) (own_of f i) ≡ if_lines E f b i
  unfolding branch_if if_lines test_tokens if_tokens condition_of aim_of stmt_line stmt_at here_at block_at
  if_is =
      ap₂ (λ (n : List ℕ) (ls : List Line). stmt_line f i (if_tokens E f b i ++ (punct (txt ") ") ∷ goto_tokens (symbol n))) ++ ls) (name_is E f (aim_of f b i)) fall_is

  -- the plain one
  args_are : take (count_set set (lowering_of E f).args) uses ≡ args
  args_are =
      ap (λ (l : List ℕ). take (count_set set l) uses) (lowering_args E f) ∙ ap (λ (c : ℕ). take c uses) (sym regs) ∙ take_uses E f count item (stmt_field f i 6)

  -- one line with its `return`, or two
  tail_by_lem : (a : ℕ) (returns : Bool) (xs : List Expr) → cond returns (stmt_line f i (keyword (txt "return") ∷ textual (txt " ") ∷ (name_tokens E f a xs ++ (punct (txt ";") ∷ []))))
      (stmt_line f i (name_tokens E f a xs ++ (punct (txt ";") ∷ [])) ++ stmt_line f i (keyword (txt "return") ∷ punct (txt ";") ∷ [])) ≡ tail_by E f i a returns xs
  unfolding tail_by call_tokens return_if return_line end_tokens stmt_line
  tail_by_lem a true xs = refl
  tail_by_lem a false xs = refl

  tail_is : (a : ℕ) → tail_call (lowering_of E f) set (stmt_of E f i) (name_of E f a) uses ≡ tail_of E f i a args
  unfolding tail_call tail_of name_tokens stmt_line stmt_at
  tail_is a = tail_by_lem a (lowering_of E f).returns _ ∙ ap₂ (λ (r : Bool) (xs : List Expr). tail_by E f i a r xs) (lowering_returns E f) args_are

  leave_is : (a : ℕ) → leave (lowering_of E f) set (stmt_of E f i) (name_of E f a) uses ≡ leave_of E f i a args
  unfolding leave leave_of stmt_line stmt_at
  leave_is a = ap (λ (ls : List Line). cond (begins (txt "*") (name_of E f a)) (stmt_line f i (goto_tokens (address (name_of E f a)))) ls) (tail_is a)

  to_is : (o : Option ℕ) → branch_to (lowering_of E f) (here_at E f b) set (stmt_of E f i) o uses ≡ plain_to E f b i item (stmt_field f i 6) (min count (stmt_field f i 6)) o
  unfolding branch_to plain_to jump_of computed_tokens to_block stmt_line stmt_at here_at next_at start_at lowering_of lowering
  to_is none = refl
  to_is (some a) =
      ap (λ (n : List ℕ). cond (among a (order (read E f))) (to_block f b i a) (leave (lowering_of E f) set (stmt_of E f i) n uses)) (name_is E f a)
      ∙ ap (λ (ls : List Line). cond (among a (order (read E f))) (to_block f b i a) ls) (leave_is a)

  plain_is : branch_to (lowering_of E f) (here_at E f b) set (stmt_of E f i) (or_else (own_of f i) (here_at E f b).block.taken) uses ≡ plain_of E f b i item count
  unfolding plain_of goal_of here_at block_at
  plain_is = to_is (or_else (own_of f i) (when (block_word f b 2) (block_long f b 3)))

  -- the record
  items_are : map (tree_at (all_trees E f)) (item_exprs f i) ≡ uses
  unfolding item_exprs expr_items
  items_are = rw (at.kind, ← at.first) (uses_are E f item (stmt_field f i 6))

  kind_is : kind_at E f (all_trees E f) i ≡ Branch (when (stmt_field f i 0) (text_at E f (stmt_field f i 1) (stmt_field f i 2))) (own_of f i) uses
  unfolding kind_at
  kind_is = rw at.kind (ap (λ (us : List Expr). Branch (when (stmt_field f i 0) (text_at E f (stmt_field f i 1) (stmt_field f i 2))) (own_of f i) us) items_are)

  module _ (pend : List Stmt) (end : ℕ) where
    lowered_is : lowered E f (here_at E f b) pend set end i
        ≡ cond (marked f i 1) [] (branch (lowering_of E f) (here_at E f b) set (stmt_of E f i) (when (stmt_field f i 0) (text_at E f (stmt_field f i 1) (stmt_field f i 2))) (own_of f i) uses)
    unfolding lowered stmt_at lower_kind
    lowered_is = ap (lower_kind (lowering_of E f) (here_at E f b) pend set (stmt_of E f i) (behind E f end i)) kind_is

    module _ (d : Bool) (says : d ≡ marked f i 1) where
      pub branch_dead : (s : Sheet) → d ≡ true → seen_sheet s ≡ seen_sheet (write_all s (lowered E f (here_at E f b) pend set end i))
      branch_dead s h = rw (lowered_is, ← says, h) (written_none s)

      module _ (s s₀ : Sheet) (live : d ≡ false) (w : ℕ) (tests : w ≡ stmt_field f i 0) where
        live_is : (c : Option (List ℕ)) → when (stmt_field f i 0) (text_at E f (stmt_field f i 1) (stmt_field f i 2)) ≡ c
            → lowered E f (here_at E f b) pend set end i ≡ branch (lowering_of E f) (here_at E f b) set (stmt_of E f i) c (own_of f i) uses
        live_is c p =
            lowered_is
            ∙ ap₂ (λ (q : Bool) (o : Option (List ℕ)). cond q [] (branch (lowering_of E f) (here_at E f b) set (stmt_of E f i) o (own_of f i) uses)) (sym says ∙ live) p

        pub branch_if_lem : w ≡ 1 → seen_sheet s ≡ seen_sheet (write_all s₀ (if_lines E f b i)) → seen_sheet s ≡ seen_sheet (write_all s₀ (lowered E f (here_at E f b) pend set end i))
        unfolding branch
        branch_if_lem h k =
            lines_are s s₀ (if_lines E f b i) _ (live_is (some (text_at E f (stmt_field f i 1) (stmt_field f i 2))) (rw (← tests, eq-eqb w 1 h)) ∙ if_is) k

        pub branch_plain : (w ≡ 1 → ⊥) → seen_sheet s ≡ seen_sheet (write_all s₀ (plain_of E f b i item count))
            → seen_sheet s ≡ seen_sheet (write_all s₀ (lowered E f (here_at E f b) pend set end i))
        unfolding branch
        branch_plain h k = lines_are s s₀ (plain_of E f b i item count) _ (live_is none (rw (← tests, ne_eqb w 1 h)) ∙ plain_is) k
