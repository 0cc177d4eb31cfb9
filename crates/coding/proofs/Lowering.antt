-- Rows made of the lowered lines, one for each, are ready for the passes.
use mathlib.Core.Path.{◌≡◌, sym, ap, ap₂, subst, ◌∙◌}
use mathlib.Core.List.{List, ◌∷◌, map}
use Prim.Native.Nat.{ℕ, zero, suc, ◌+◌, ◌≤◌, ◌<◌}
use native.Mathlib.Omega.{arith}
use lib.ListN.{length, take, drop, drop_of_length-le}
use lib.Seq.{drop-cons}
use Rattle.definition.specs.Tokens.{Line}
use Rattle.definition.specs.Sorts.{Sort, sort}
use Rattle.definition.specs.Sorts.Sort.{label, cond_to, jump_to, plain, if_open, close, do_open, while_close}
use Rattle.definition.specs.Passes.{conds, closer}
use Rattle.definition.specs.Lists.{at}
use Rattle.definition.proofs.ListLaws.{◌▸◌, end, each_head, each_tail}
use Rattle.definition.proofs.Plain.{FlatAs, Flat, Good, Plain}
use Rattle.outline.specs.Rows.{kind_of, indent_of, name_of, origin_of, line_at, line_of, lines_of}
use Rattle.coding.proofs.Coding.{Codes, CodedRow, Coded, line_same}
use Rattle.coding.proofs.Scanning.{part, part_cons}
use Rattle.coding.proofs.Structuring.{Structured, structured}

-- w is the row of the lowered line i, with a name below l
pub record LowRow (low : List Line) (l i w : ℕ) : Type 0 where
  pub origin : origin_of w ≡ i
  pub indent : indent_of w ≡ (line_at low i).indent
  pub codes : Codes low (sort (line_at low i)) w
  pub small : name_of w < l

low_kind : (low : List Line) (s : Sort) (n w : ℕ) → FlatAs s n → Codes low s w → kind_of w ≤ 4
low_kind low (label u) n w f c = omega (arith, c.0)
low_kind low (cond_to t) n w f c = omega (arith, c.0)
low_kind low (jump_to t) n w f c = omega (arith, c.0)
low_kind low plain n w f c = omega (arith, c)
low_kind low if_open n w f c = absurd f
low_kind low close n w f c = absurd f
low_kind low do_open n w f c = absurd f
low_kind low while_close n w f c = absurd f

module _ (low : List Line) (l i w : ℕ) (r : LowRow low l i w) (f : FlatAs (sort (line_at low i)) (line_at low i).indent) where
  low_line : line_of low w ≡ line_at low i
  low_line =
      line_same low w (low_kind low (sort (line_at low i)) (line_at low i).indent w f r.codes)
      ∙ ap₂ (λ (o x : ℕ). record { addr = (line_at low o).addr; indent = x; toks = (line_at low o).toks }) r.origin r.indent

  low_coded : CodedRow low l w
  low_coded = record { codes = subst (λ (x : Line). Codes low (sort x) w) (sym low_line) r.codes; small = r.small }

module _ (low : List Line) (l : ℕ) (R : List ℕ) (long : length low ≤ length R) (rows : (i : ℕ) → i < length low → LowRow low l i (at R i)) where
  low_rows : (f i : ℕ) → i + f ≡ length low → Flat (drop i low) → (map (line_of low) (part R i f) ≡ drop i low) × Coded low l (part R i f)
  unfolding line_at
  low_rows zero i e h = let k : length low ≤ i = omega arith in (sym (drop_of_length-le low k), end)
  low_rows (suc f) i e h =
      let q : drop i low ≡ line_at low i ∷ drop (suc i) low = drop-cons low i (closer 0) (omega arith) in
      let g : Flat (line_at low i ∷ drop (suc i) low) = subst Flat q h in
      let w : ℕ = at R i in
      let c : LowRow low l i w = rows i (omega arith) in
      let t = low_rows f (suc i) (omega arith) (each_tail g) in
      let p : part R i (suc f) ≡ w ∷ part R (suc i) f = part_cons R i f (omega arith) in (
        ap (map (line_of low)) p ∙ ap₂ (λ (x : Line) (z : List Line). x ∷ z) (low_line low l i w c (each_head g)) t.0 ∙ sym q,
        subst (Coded low l) (sym p) (low_coded low l i w c (each_head g) ▸ t.1),
      )

-- the passes over a row for each lowered line
pub lowered : (low : List Line) (R S : List ℕ) → Plain low → length R ≤ 4294967295 → length low + conds low ≤ length R
    → ((i : ℕ) → i < length low → LowRow low (length S) i (at R i)) → Structured low R S (length low)
unfolding lines_of
lowered low R S p few room rows =
    let t = low_rows low (length S) R (omega arith) rows (length low) 0 (omega arith) p.flat in
    let e : lines_of low (take (length low) R) ≡ low = t.0 in
    structured low R S (length low) (record {
      few = few;
      coded = t.1;
      good = subst Good (sym e) (p.fits, p.once);
      room = omega (arith, ap conds e);
    }) e
