-- A conditional branch: what it tests, where it goes, and the goto to where the block falls.
use mathlib.Core.Path.{◌≡◌, refl, sym, ap, ap₂, ◌∙◌}
use mathlib.Core.Bool.{Bool, true, false, cond}
use mathlib.Core.Option.{Option}
use mathlib.Core.List.{List, [], ◌∷◌, map}
use Rattle.std.specs.Prelude.{Option as Answer, Some, None}
use Rattle.std.specs.Option.{option_or, unwrap_or}
use Prim.Native.Nat.{ℕ}
use Rattle.definition.specs.Edition.{Edition}
use Rattle.definition.specs.Texts.{txt}
use Rattle.definition.specs.Lists.{range, or_else, given}
use Rattle.definition.specs.Contents.{text, text_at}
use Rattle.definition.specs.Owners.{stmt_field, block_stmts, first_stmt}
use Rattle.definition.specs.Shape.{owned}
use Rattle.definition.specs.Read.{all_trees, stmt_at, block_at}
use Rattle.definition.specs.Lookup.{is_next}
use Rattle.definition.specs.Tokens.{keyword, symbol, punct}
use Rattle.definition.specs.Render.{Gen}
use Rattle.definition.specs.Condition.{condition}
use Rattle.definition.specs.Lower.{goto_tokens}
use Rattle.ssa.specs.Block.{block_record}
use Rattle.ssa.specs.View.{option_of}
use Rattle.ssa.specs.declared.block.Block.{Block}
use Rattle.labels.specs.Labels.{next_at}
use Rattle.room.specs.Room.{Room, Sheet, emit, emit_all, seen, write_all, seen_sheet}
use Rattle.room.proofs.Laws.{next, more, writes, written_none, pieces_are}
use Rattle.lowering.specs.Lowered.{lowering_of, here_at}
use Rattle.conditions.specs.declared.operands.Pair.{Pair}
use Rattle.conditions.specs.Pairs.{found_tokens, Set}
use Rattle.conditions.proofs.Pairing.{found_is}
use Rattle.gotos.specs.Written.{name_of, stmt_line}
use Rattle.jumps.specs.Written.{condition_of, if_tokens, own_of, aim_of, goal_of, test_tokens, fall_to, fall_of, if_lines}
use Rattle.render.proofs.Opening.{gen_all}
use Rattle.gotos.proofs.Edges.{edges_are, or_viewed}
use Rattle.lowering.proofs.Lines.{left_out, not_out}
use Rattle.gotos.proofs.Ends.{lines_are}

-- ---- where it goes, and where a plain branch does, o being its own target
given_viewed : (r : Answer ℕ) → unwrap_or r 0 ≡ given 0 (option_of r)
unfolding given
given_viewed None = refl
given_viewed (Some a) = refl

module _ (f : List ℕ) (b i : ℕ) (x : Block) (is : x ≡ block_record f b) (o : Answer ℕ) (own : option_of o ≡ own_of f i) (r : Answer ℕ) where
  abbrev view : Answer ℕ → Option ℕ
  view q = option_of q

  pub goal_is : r ≡ option_or o x.taken → option_of r ≡ goal_of f b i
  unfolding goal_of
  goal_is e = ap view e ∙ or_viewed o x.taken ∙ ap₂ (λ (p q : Option ℕ). or_else p q) own (sym (edges_are f b x is).0)

  pub aim_is : r ≡ option_or x.taken o → unwrap_or r 0 ≡ aim_of f b i
  unfolding aim_of
  aim_is e =
      given_viewed r
      ∙ ap (λ (q : Option ℕ). given 0 q) (ap view e ∙ or_viewed x.taken o ∙ ap₂ (λ (p q : Option ℕ). or_else p q) (sym (edges_are f b x is).0) own)

module _ (E : Edition) (f : List ℕ) (b i : ℕ) where
  -- ---- its tokens
  pub tested_put : owned f ≡ true → (t : ℕ) → text E ≡ t → (x : Answer Pair) → Set f t (first_stmt f b) (block_stmts f b) x → (r r₀ : Room) (start len : ℕ)
      → start ≡ stmt_field f i 1 → len ≡ stmt_field f i 2 → seen r ≡ seen (emit_all r₀ (found_tokens E f x (text_at E f start len))) → seen r ≡ seen (emit_all r₀ (condition_of E f b i))
  unfolding condition_of here_at block_at lowering_of
  tested_put own t section x set r r₀ start len u v h =
      let stmts = map (stmt_at E f (all_trees E f)) (range (first_stmt f b) (block_stmts f b)) in
      pieces_are r r₀ _ _ h
      (found_is f t (first_stmt f b) (block_stmts f b) x set E section (text_at E f start len)
      ∙ ap (λ (G : Gen). condition G stmts (text_at E f start len)) (gen_all E f own) ∙ rw (u, v))

  pub if_put : (r r₂ r₁ r₀ : Room) → r₁ ≡ emit r₀ (keyword (txt "if")) → r₂ ≡ emit r₁ (punct (txt " (")) → seen r ≡ seen (emit_all r₂ (condition_of E f b i))
      → seen r ≡ seen (emit_all r₀ (if_tokens E f b i))
  unfolding if_tokens
  if_put r r₂ r₁ r₀ p q h =
      next r r₀ (keyword (txt "if")) (punct (txt " (") ∷ condition_of E f b i) p (next r r₁ (punct (txt " (")) (condition_of E f b i) q h)

  pub test_put : (r r₂ r₁ r₀ : Room) (a : ℕ) → a ≡ aim_of f b i → seen r₁ ≡ seen (emit_all r₀ (if_tokens E f b i)) → r₂ ≡ emit r₁ (punct (txt ") "))
      → seen r ≡ seen (emit_all r₂ (goto_tokens (symbol (name_of E f a)))) → seen r ≡ seen (emit_all r₀ (test_tokens E f b i))
  unfolding test_tokens
  test_put r r₂ r₁ r₀ a p h k m =
      let goes = goto_tokens (symbol (name_of E f (aim_of f b i))) in
      more r r₁ r₀ (if_tokens E f b i) (punct (txt ") ") ∷ goes) h
      (next r r₁ (punct (txt ") ")) goes k (pieces_are r r₂ _ goes m (ap (λ (x : ℕ). goto_tokens (symbol (name_of E f x))) p)))

  -- ---- where the block falls
  module _ (x : Block) (is : x ≡ block_record f b) where
    fall_by : fall_of E f b i ≡ fall_to E f b i (option_of x.fall)
    unfolding fall_of
    fall_by = ap (fall_to E f b i) (edges_are f b x is).1

    pub fall_none : (s : Sheet) → x.fall ≡ None → seen_sheet s ≡ seen_sheet (write_all s (fall_of E f b i))
    unfolding fall_to
    fall_none s h = lines_are s s [] (fall_of E f b i) (fall_by ∙ ap (λ (q : Answer ℕ). fall_to E f b i (option_of q)) h) (written_none s)

    module _ (a : ℕ) (there : x.fall ≡ Some a) (d : Bool) (says : d ≡ is_next (next_at f b) a) where
      fall_to_lem : fall_of E f b i ≡ cond (is_next (next_at f b) a) [] (stmt_line f i (goto_tokens (symbol (name_of E f a))))
      unfolding fall_to
      fall_to_lem = fall_by ∙ ap (λ (q : Answer ℕ). fall_to E f b i (option_of q)) there

      pub fall_next : (s : Sheet) → d ≡ true → seen_sheet s ≡ seen_sheet (write_all s (fall_of E f b i))
      fall_next s h = left_out _ _ _ d fall_to_lem says s h

      pub fall_put : (s s₀ : Sheet) → d ≡ false → seen_sheet s ≡ seen_sheet (write_all s₀ (stmt_line f i (goto_tokens (symbol (name_of E f a)))))
          → seen_sheet s ≡ seen_sheet (write_all s₀ (fall_of E f b i))
      fall_put s s₀ h e = lines_are s s₀ _ _ (not_out _ _ _ d fall_to_lem says h) e

  -- both lines
  pub if_lines_lem : (s₂ s₁ s₀ : Sheet) → seen_sheet s₁ ≡ seen_sheet (write_all s₀ (stmt_line f i (test_tokens E f b i))) → seen_sheet s₂ ≡ seen_sheet (write_all s₁ (fall_of E f b i))
      → seen_sheet s₂ ≡ seen_sheet (write_all s₀ (if_lines E f b i))
  unfolding if_lines
  if_lines_lem s₂ s₁ s₀ h k = writes s₂ s₁ s₀ (stmt_line f i (test_tokens E f b i)) (fall_of E f b i) h k
