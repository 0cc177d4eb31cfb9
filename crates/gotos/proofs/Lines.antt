-- A statement's line behind its pieces; jumps to blocks and computed ones.
use mathlib.Core.Path.{◌≡◌, refl, ap}
use mathlib.Core.Bool.{Bool, true, false}
use mathlib.Core.Option.{some}
use mathlib.Core.List.{List, [], ◌∷◌, ◌++◌}
use Prim.Native.Nat.{ℕ}
use Rattle.definition.specs.Edition.{Edition}
use Rattle.definition.specs.Texts.{txt}
use Rattle.definition.specs.Contents.{stmt_long}
use Rattle.definition.specs.Owners.{stmt_field}
use Rattle.definition.specs.Numbers.{label}
use Rattle.definition.specs.Lookup.{is_next}
use Rattle.definition.specs.Tokens.{Token, keyword, symbol, punct}
use Rattle.definition.specs.Lower.{goto_tokens, first_of}
use Rattle.labels.specs.Labels.{next_at}
use Rattle.room.specs.declared.out.Out.{Out}
use Rattle.room.specs.Room.{Room, Sheet, sheet_of, room_of, emit, emit_all, seen, write_all, seen_sheet}
use Rattle.room.specs.Ending.{Ended}
use Rattle.room.proofs.Laws.{next, more, one, line_ends, pieces_are}
use Rattle.lowering.specs.Lowered.{lowering_of}
use Rattle.gotos.specs.Written.{uses_of, stmt_line, to_block, computed_tokens}
use Rattle.lowering.proofs.Lines.{left_out, not_out}
use Rattle.gotos.proofs.Ends.{lines_are}

pub stmt_put : (f : List ℕ) (i : ℕ) (l l' : List ℕ) (r₀ : Room) (ks ts : List ℕ) (o₁ o : Out) (ps : List Token)
    → seen (room_of ks ts o₁) ≡ seen (emit_all r₀ ps) → Ended l o₁ 1 (some (stmt_long f i 0)) l' o
    → seen_sheet (sheet_of l' ks ts o) ≡ seen_sheet (write_all (record { lines = l; room = r₀ }) (stmt_line f i ps))
unfolding stmt_line
stmt_put f i l l' r₀ ks ts o₁ o ps e d = line_ends l l' r₀ (room_of ks ts o₁) o 1 (some (stmt_long f i 0)) ps e d

-- ---- to a block
module _ (f : List ℕ) (b i a : ℕ) (d : Bool) (says : d ≡ is_next (next_at f b) a) where
  pub block_next : (s : Sheet) → d ≡ true → seen_sheet s ≡ seen_sheet (write_all s (to_block f b i a))
  unfolding to_block
  block_next s h = left_out (to_block f b i a) (stmt_line f i (goto_tokens (symbol (label a)))) (is_next (next_at f b) a) d refl says s h

  pub block_put : (s s₀ : Sheet) → d ≡ false → seen_sheet s ≡ seen_sheet (write_all s₀ (stmt_line f i (goto_tokens (symbol (label a))))) → seen_sheet s ≡ seen_sheet (write_all s₀ (to_block f b i a))
  unfolding to_block
  block_put s s₀ h e =
      let ls = stmt_line f i (goto_tokens (symbol (label a))) in
      lines_are s s₀ ls (to_block f b i a) (not_out (to_block f b i a) ls (is_next (next_at f b) a) d refl says h) e

-- ---- computed
module _ (E : Edition) (f : List ℕ) (item : ℕ) where
  pub computed_put : (r r₃ r₂ r₁ r₀ : Room) (n : ℕ) → r₁ ≡ emit r₀ (keyword (txt "goto")) → r₂ ≡ emit r₁ (punct (txt " *"))
      → seen r₃ ≡ seen (emit_all r₂ (first_of (lowering_of E f) (uses_of E f item n))) → r ≡ emit r₃ (punct (txt ";")) → seen r ≡ seen (emit_all r₀ (computed_tokens E f item n))
  unfolding computed_tokens
  computed_put r r₃ r₂ r₁ r₀ n a b c d =
      let xs = first_of (lowering_of E f) (uses_of E f item n) in
      let end = punct (txt ";") ∷ [] in
      next r r₀ (keyword (txt "goto")) (punct (txt " *") ∷ (xs ++ end)) a
      (next r r₁ (punct (txt " *")) (xs ++ end) b (more r r₃ r₂ xs end c (one r r₃ (punct (txt ";")) d)))

  pub computed_all : (r r₀ : Room) (i n : ℕ) → n ≡ stmt_field f i 6 → seen r ≡ seen (emit_all r₀ (computed_tokens E f item n))
      → seen r ≡ seen (emit_all r₀ (computed_tokens E f item (stmt_field f i 6)))
  computed_all r r₀ i n p h = pieces_are r r₀ _ _ h (ap (computed_tokens E f item) p)
