-- A jump out of the function: the tokens and the lines of a tail call, with `return` before or behind it by whether the function returns something.
use mathlib.Core.Path.{◌≡◌, ap}
use mathlib.Core.Bool.{Bool, true, false}
use mathlib.Core.List.{List, [], ◌∷◌, ◌++◌, map}
use Prim.Native.Nat.{ℕ, ◌+◌}
use lib.Dec.{eqb}
use Rattle.definition.specs.Edition.{Edition}
use Rattle.definition.specs.Words.{word}
use Rattle.definition.specs.Texts.{txt, begins}
use Rattle.definition.specs.Lists.{range}
use Rattle.definition.specs.Contents.{item_word}
use Rattle.definition.specs.Ssa.{Expr}
use Rattle.definition.specs.Read.{tree_at, all_trees}
use Rattle.definition.specs.Tokens.{textual, keyword, symbol, address, punct}
use Rattle.definition.specs.Lower.{goto_tokens, comma_list}
use Rattle.room.specs.Room.{Room, Sheet, emit, emit_all, seen, write_all, seen_sheet}
use Rattle.room.proofs.Laws.{next, more, done, one, writes, written_none, pieces_are}
use Rattle.lowering.specs.Lowered.{lowering_of}
use Rattle.gotos.specs.Written.{uses_of, name_of, stmt_line, name_tokens, return_if, call_tokens, end_tokens, return_line, tail_by, tail_of, leave_of}
use Rattle.gotos.proofs.Using.{uses_are}

-- ---- what is written or not, by whether the result is returned
module _ (returns : Bool) where
  pub return_not : (r : Room) → returns ≡ false → seen r ≡ seen (emit_all r (return_if returns))
  unfolding return_if
  return_not r h = rw h (done r)

  pub return_put : (r r₁ r₀ : Room) → returns ≡ true → r₁ ≡ emit r₀ (keyword (txt "return")) → r ≡ emit r₁ (textual (txt " ")) → seen r ≡ seen (emit_all r₀ (return_if returns))
  unfolding return_if
  return_put r r₁ r₀ h p q = rw h (next r r₀ _ _ p (one r r₁ _ q))

  module _ (f : List ℕ) (i : ℕ) where
    pub end_not : (s : Sheet) → returns ≡ true → seen_sheet s ≡ seen_sheet (write_all s (return_line f i returns))
    unfolding return_line
    end_not s h = rw h (written_none s)

    pub end_line : (s s₀ : Sheet) → returns ≡ false → seen_sheet s ≡ seen_sheet (write_all s₀ (stmt_line f i end_tokens)) → seen_sheet s ≡ seen_sheet (write_all s₀ (return_line f i returns))
    unfolding return_line
    end_line s s₀ h k = rw h k

module _ (E : Edition) (f : List ℕ) (a : ℕ) where
  pub named_put : (r r₃ r₂ r₁ r₀ : Room) (item n : ℕ) → r₁ ≡ emit r₀ (symbol (name_of E f a)) → r₂ ≡ emit r₁ (punct (txt "("))
      → seen r₃ ≡ seen (emit_all r₂ (comma_list (lowering_of E f) (map (tree_at (all_trees E f)) (map (λ (k : ℕ). item_word f (item + k) 0) (range 0 n)))))
      → r ≡ emit r₃ (punct (txt ")")) → seen r ≡ seen (emit_all r₀ (name_tokens E f a (uses_of E f item n)))
  unfolding name_tokens
  named_put r r₃ r₂ r₁ r₀ item n p q h k =
      let args = comma_list (lowering_of E f) (uses_of E f item n) in
      let end = punct (txt ")") ∷ [] in
      next r r₀ (symbol (name_of E f a)) (punct (txt "(") ∷ (args ++ end)) p
      (next r r₁ (punct (txt "(")) (args ++ end) q
      (more r r₃ r₂ args end (pieces_are r₃ r₂ _ args h (ap (comma_list (lowering_of E f)) (uses_are E f item n))) (one r r₃ (punct (txt ")")) k)))

  module _ (xs : List Expr) where
    pub call_put : (r r₂ r₁ r₀ : Room) (returns : Bool) → seen r₁ ≡ seen (emit_all r₀ (return_if returns)) → seen r₂ ≡ seen (emit_all r₁ (name_tokens E f a xs)) → r ≡ emit r₂ (punct (txt ";"))
        → seen r ≡ seen (emit_all r₀ (call_tokens E f a returns xs))
    unfolding call_tokens
    call_put r r₂ r₁ r₀ returns g h k =
        let end = punct (txt ";") ∷ [] in
        more r r₁ r₀ (return_if returns) (name_tokens E f a xs ++ end) g (more r r₂ r₁ (name_tokens E f a xs) end h (one r r₂ (punct (txt ";")) k))

    -- ---- the lines
    pub tail_put : (i w : ℕ) → w ≡ word f 8 → (s s₁ s₀ : Sheet) → seen_sheet s₁ ≡ seen_sheet (write_all s₀ (stmt_line f i (call_tokens E f a (eqb w 1) xs)))
        → seen_sheet s ≡ seen_sheet (write_all s₁ (return_line f i (eqb w 1))) → seen_sheet s ≡ seen_sheet (write_all s₀ (tail_of E f i a xs))
    unfolding tail_of tail_by
    tail_put i w says s s₁ s₀ k m = rw (← says) (writes s s₁ s₀ (stmt_line f i (call_tokens E f a (eqb w 1) xs)) (return_line f i (eqb w 1)) k m)

    module _ (i : ℕ) (d : Bool) (s s₀ : Sheet) where
      pub leave_raw : d ≡ begins (txt "*") (name_of E f a) → d ≡ true → seen_sheet s ≡ seen_sheet (write_all s₀ (stmt_line f i (goto_tokens (address (name_of E f a)))))
          → seen_sheet s ≡ seen_sheet (write_all s₀ (leave_of E f i a xs))
      unfolding leave_of
      leave_raw p h k = rw (← p, h) k

      pub leave_call : d ≡ begins (txt "*") (name_of E f a) → d ≡ false → seen_sheet s ≡ seen_sheet (write_all s₀ (tail_of E f i a xs)) → seen_sheet s ≡ seen_sheet (write_all s₀ (leave_of E f i a xs))
      unfolding leave_of
      leave_call p h k = rw (← p, h) k
