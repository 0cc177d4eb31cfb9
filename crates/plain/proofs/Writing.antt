-- What each writer's calls put one behind the other is the list of pieces that its contract says, by `next`, `more` and `done`.
use mathlib.Core.Path.{◌≡◌, refl, ◌∙◌}
use mathlib.Core.Bool.{false}
use mathlib.Core.Option.{Option, none, some}
use mathlib.Core.List.{List, []}
use Prim.Native.Nat.{ℕ}
use borrow.Author.Tests.{eq-eqb, ne_eqb}
use Rattle.definition.specs.Edition.{Edition}
use Rattle.definition.specs.Texts.{txt}
use Rattle.definition.specs.Words.{word}
use Rattle.definition.specs.Owners.{stmt_field}
use Rattle.definition.specs.Ssa.{Expr}
use Rattle.definition.specs.Read.{tree_at, all_trees, read}
use Rattle.definition.specs.Offsets.{offsets, stack_off}
use Rattle.definition.specs.Numbers.{slot}
use Rattle.definition.specs.Tokens.{tok}
use Rattle.definition.specs.Render.{slot_or}
use Rattle.definition.specs.Lower.{Lowering, return_tokens}
use Rattle.room.specs.Room.{Room, emit, emit_all, seen}
use Rattle.room.proofs.Laws.{next, more, done, one}
use Rattle.lowering.specs.Lowered.{lowering_of, expr_of}
use Rattle.plain.specs.Pieces.{becomes, result_of, through_of, destination_of, store_of}
use Rattle.lowering.proofs.Gen.{lowering_returns}

-- ---- what a Return gives back
no_result : (L : Lowering) (o : Option Expr) → L.returns ≡ false → return_tokens L o ≡ []
unfolding return_tokens
no_result L none h = refl
no_result L (some x) h = rw h

module _ (E : Edition) (f : List ℕ) (i w : ℕ) (says : w ≡ word f 8) where
  pub result_none : (r : Room) → (w ≡ 1 → ⊥) → seen r ≡ seen (emit_all r (result_of E f i))
  unfolding result_of
  result_none r h = rw (no_result (lowering_of E f) _ (lowering_returns E f ∙ rw (← says, ne_eqb w 1 h))) (done r)

  module _ (d : ℕ) (there : d ≡ stmt_field f i 0) where
    pub result_empty : (r : Room) → (d ≡ 1 → ⊥) → seen r ≡ seen (emit_all r (result_of E f i))
    unfolding result_of return_tokens
    result_empty r h = rw (← there, ne_eqb d 1 h) (done r)

    pub result_put : (r₂ r₁ r₀ : Room) (n : ℕ) → w ≡ 1 → d ≡ 1 → n ≡ stmt_field f i 1 → r₁ ≡ emit r₀ (tok 0 (txt " ")) → seen r₂ ≡ seen (emit_all r₁ (expr_of E f n))
        → seen r₂ ≡ seen (emit_all r₀ (result_of E f i))
    unfolding result_of return_tokens expr_of
    result_put r₂ r₁ r₀ n p q is a b = rw (lowering_returns E f, ← says, eq-eqb w 1 p, ← there, eq-eqb d 1 q, ← is) (next r₂ r₀ _ _ a b)

-- ---- where a Store stores, and what
module _ (E : Edition) (f : List ℕ) where
  module _ (i n s : ℕ) (is : n ≡ stmt_field f i 1) (off : s ≡ stack_off (offsets (read E f)) (tree_at (all_trees E f) n)) (r₁ r₀ : Room) where
    pub into_slot : (s ≡ 0 → ⊥) → r₁ ≡ emit r₀ (tok 1 (slot s)) → seen r₁ ≡ seen (emit_all r₀ (destination_of E f i))
    unfolding destination_of slot_or
    into_slot h a = rw (← is, ← off, ne_eqb s 0 h) (one r₁ r₀ _ a)

    pub into_through : (m : ℕ) → s ≡ 0 → m ≡ stmt_field f i 0 → seen r₁ ≡ seen (emit_all r₀ (through_of E f m n)) → seen r₁ ≡ seen (emit_all r₀ (destination_of E f i))
    unfolding destination_of slot_or
    into_through m h p a = rw (← is, ← off, eq-eqb s 0 h, ← p) a

  pub store_put : (r₂ r₁ r₀ : Room) (i n : ℕ) → n ≡ stmt_field f i 2 → seen r₁ ≡ seen (emit_all r₀ (destination_of E f i)) → seen r₂ ≡ seen (emit_all r₁ (becomes E f n))
      → seen r₂ ≡ seen (emit_all r₀ (store_of E f i))
  unfolding store_of
  store_put r₂ r₁ r₀ i n is a b = rw (← is) (more r₂ r₁ r₀ _ _ a b)
