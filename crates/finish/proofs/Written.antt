-- What the functions write: a row's tokens by its kind, its line where its tokens are ended, and one line more at each turn.
use mathlib.Core.Path.{◌≡◌, ap, ◌∙◌}
use mathlib.Core.Option.{Option}
use mathlib.Core.List.{List, [], ◌∷◌, map}
use Prim.Native.Nat.{ℕ, suc, ◌+◌, ◌*◌, ◌-◌, ◌<◌}
use native.Mathlib.Omega.{arith}
use borrow.Author.Tests.{eq-eqb, ne_eqb}
use Rattle.definition.specs.Lists.{range, at}
use Rattle.definition.specs.Tokens.{Token, Line}
use Rattle.records.proofs.Ranges.{map_snoc}
use Rattle.room.specs.declared.out.Out.{Out}
use Rattle.std.specs.Prelude.{Some, None}
use Rattle.room.specs.Room.{Room, Sheet, sheet_of, emit_all, seen, option_of, write_all, seen_sheet}
use Rattle.room.specs.Ending.{Ended}
use Rattle.room.proofs.Laws.{line_ended, writes, written_none}
use Rattle.sheet.specs.Buffers.{tokens_in, first_of, last_of}
use Rattle.outline.specs.Rows.{kind_of, origin_of, indent_of}
use Rattle.finish.specs.Finishing.{count_of, address_in, row_address, later_toks, kind_toks, origin_toks, row_line, lines_in, Headed, HeadedRow, Heads}

-- ---- a lowered line
module _ (ls : List ℕ) (i a b : ℕ) (first : a ≡ first_of ls i) (last : b ≡ last_of ls i) where
  pub count_none : b < a → ◌≡◌ {A = ℕ} 0 (count_of ls i)
  unfolding count_of
  count_none h = omega arith

  pub count_some : b - a ≡ count_of ls i
  unfolding count_of
  count_some = rw (first, last)

module _ (ls : List ℕ) (i : ℕ) where
  pub address_none : (x : ℕ) → x ≡ at ls (5 * i + 0) → (x ≡ 1 → ⊥) → option_of None ≡ address_in ls i
  unfolding address_in
  address_none x e n =
      let z : 5 * i + 0 ≡ 5 * i = omega arith in
      rw (← (e ∙ ap (at ls) z), ne_eqb x 1 n)

  pub address_some : (x y : ℕ) → x ≡ at ls (5 * i + 0) → x ≡ 1 → y ≡ at ls (5 * i + 1) → option_of (Some y) ≡ address_in ls i
  unfolding address_in
  address_some x y e one f =
      let z : 5 * i + 0 ≡ 5 * i = omega arith in
      rw (← (e ∙ ap (at ls) z), eq-eqb x 1 one, ← f)

module _ (ls : List ℕ) (w k : ℕ) (kind : k ≡ kind_of w) where
  pub row_closes : k ≡ 6 → option_of None ≡ row_address ls w
  unfolding row_address
  row_closes e = rw (← kind, eq-eqb k 6 e)

  pub row_stands : (i : ℕ) (x : Option ℕ) → (k ≡ 6 → ⊥) → i ≡ origin_of w → x ≡ address_in ls i → x ≡ row_address ls w
  unfolding row_address
  row_stands i x n e h = rw (← kind, ne_eqb k 6 n, ← e) h

-- ---- a row's tokens, by its kind k
module _ (r r₀ : Room) (k : ℕ) (ts : List Token) where
  pub is_kind_lem : (toks : ℕ → List Token → List Token) (m : ℕ) → k ≡ m → seen r ≡ seen (emit_all r₀ (toks m ts)) → seen r ≡ seen (emit_all r₀ (toks k ts))
  is_kind_lem toks m e h = rw e h

  pub is_plain : (k ≡ 7 → ⊥) → (k ≡ 8 → ⊥) → seen r ≡ seen (emit_all r₀ ts) → seen r ≡ seen (emit_all r₀ (later_toks k ts))
  unfolding later_toks
  is_plain n m h = rw (ne_eqb k 7 n, ne_eqb k 8 m) h

  pub is_later : (k ≡ 6 → ⊥) → (k ≡ 5 → ⊥) → seen r ≡ seen (emit_all r₀ (later_toks k ts)) → seen r ≡ seen (emit_all r₀ (kind_toks k ts))
  unfolding kind_toks
  is_later n m h = rw (ne_eqb k 6 n, ne_eqb k 5 m) h

-- ---- a row's line
module _ (ls ks t : List ℕ) (w : ℕ) where
  pub row_written : (l l' : List ℕ) (r₀ r₁ : Room) (o : Out) (i k a n d : ℕ) (p : Option ℕ) → i ≡ origin_of w → k ≡ kind_of w → a ≡ first_of ls i → n ≡ count_of ls i
      → seen r₁ ≡ seen (emit_all r₀ (kind_toks k (tokens_in ks t a n))) → d ≡ indent_of w → p ≡ row_address ls w → Ended l r₁.out d p l' o
      → seen_sheet (sheet_of l' r₁.tokens r₁.text o) ≡ seen_sheet (write_all (record { lines = l; room = r₀ }) (row_line ls ks t w ∷ []))
  unfolding row_line origin_toks
  row_written l l' r₀ r₁ o i k a n d p ei ek ea en e ed ep h =
      line_ended l l' r₀ r₁ o (row_line ls ks t w) (rw (← ei, ← ek, ← ea, ← en) e) (rw (← ed, ← ep) h)

  pub row_headed : (i k a n : ℕ) → i ≡ origin_of w → k ≡ kind_of w → a ≡ first_of ls i → n ≡ count_of ls i → HeadedRow ls ks w → Headed ks k a n
  unfolding HeadedRow
  row_headed i k a n ei ek ea en h = rw (en, ea, ei, ek) h

-- ---- the lines so far
module _ (ls ks t rows : List ℕ) where
  abbrev line : ℕ → Line
  line i = row_line ls ks t (at rows i)

  pub lines_start : (s : Sheet) → seen_sheet s ≡ seen_sheet (write_all s (lines_in ls ks t rows 0))
  unfolding lines_in range
  lines_start s = written_none s

  pub lines_turn : (s₂ s₁ s₀ : Sheet) (i w : ℕ) → w ≡ at rows i → seen_sheet s₁ ≡ seen_sheet (write_all s₀ (lines_in ls ks t rows i))
      → seen_sheet s₂ ≡ seen_sheet (write_all s₁ (row_line ls ks t w ∷ [])) → seen_sheet s₂ ≡ seen_sheet (write_all s₀ (lines_in ls ks t rows (i + 1)))
  unfolding lines_in
  lines_turn s₂ s₁ s₀ i w e h g =
      let p : i + 1 ≡ suc i = omega arith in
      let z : 0 + i ≡ i = omega arith in
      let q : seen_sheet s₂ ≡ seen_sheet (write_all s₁ (line i ∷ [])) = rw (← e) g in
      rw (p, map_snoc line 0 i, z) (writes s₂ s₁ s₀ (map line (range 0 i)) (line i ∷ []) h q)

  pub lines_end : (s s₀ : Sheet) (i n : ℕ) → i ≡ n → seen_sheet s ≡ seen_sheet (write_all s₀ (lines_in ls ks t rows i)) → seen_sheet s ≡ seen_sheet (write_all s₀ (lines_in ls ks t rows n))
  lines_end s s₀ i n e h = rw (← e) h

  pub heads_at : (n i w : ℕ) → Heads ls ks rows n → i < n → w ≡ at rows i → HeadedRow ls ks w
  heads_at n i w h g e = rw e (h.each i g)
