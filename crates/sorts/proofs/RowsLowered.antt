-- The rows of plain lines code them: each field holds what is packed in it, and where a goto names t, the first label t is the only one.
use mathlib.Core.Path.{◌≡◌, refl, sym, ap, subst, ◌∙◌}
use mathlib.Core.Bool.{true, false≢true}
use mathlib.Core.List.{List, map}
use Prim.Native.Nat.{min, ℕ, suc, ◌+◌, ◌≤◌, ◌<◌}
use native.Mathlib.Decide.{dec_lt}
use native.Mathlib.Omega.{arith}
use borrow.Author.Tests.{eq-eqb, eqb-true}
use lib.Dec.{eqb}
use lib.ListN.{length, drop, get_or-append, get_or-eq_default}
use Rattle.definition.specs.Texts.{same}
use Rattle.definition.specs.Lists.{range, count, at}
use Rattle.definition.specs.Tokens.{Line}
use Rattle.definition.specs.Sorts.{Sort, sort}
use Rattle.definition.specs.Sorts.Sort.{label, cond_to, jump_to, plain, if_open, close, do_open, while_close}
use Rattle.definition.specs.Passes.{label_name, aim_name, is, named, aims, closer}
use Rattle.definition.proofs.Bools.{none_some, is_false, by_test}
use Rattle.definition.proofs.TextLaws.{same_refl}
use Rattle.definition.proofs.TokenSorts.{close_sort}
use Rattle.definition.proofs.Plain.{FlatAs, Plain}
use Rattle.sheet.specs.Buffers.{line_in}
use Rattle.sheet.proofs.Reading.{least_left}
use Rattle.outline.specs.Rows.{kind_of, indent_of, name_of, origin_of, line_at}
use Rattle.coding.proofs.Coding.{Aims, Codes}
use Rattle.coding.proofs.Lowering.{LowRow}
use Rattle.sorts.specs.Places.{first_place}
use Rattle.sorts.specs.Sorted.{named_at, numbered, label_number, kind_in, name_in, packed, row_of, lines_in, sorted}
use Rattle.sorts.proofs.Ranges.{below_length, below_at, below_is}
use Rattle.sorts.proofs.Searches.{place_holds, place_least}
use Rattle.sorts.proofs.Naming.{number_in, number_out, label_le}
use Rattle.sorts.proofs.Once.{each_at, counted, no_second}

-- ---- fields
-- what the fields of the row w hold
record Fields (k d m o w : ℕ) : Type 0 where
  kind : kind_of w ≡ k
  indent : indent_of w ≡ d
  name : name_of w ≡ m
  origin : origin_of w ≡ o

fields : (k d m o : ℕ) → k < 16 → d < 4096 → m < 16777216 → o < 16777216 → Fields k d m o (packed k d m o)
unfolding packed
fields k d m o hk hd hm ho = record { kind = omega arith; indent = omega arith; name = omega arith; origin = omega arith }

-- ---- names
module _ (n i : ℕ) where
  number_back : Dec (i < n) → (j : ℕ) → numbered n i ≡ suc j → (i < n) × (i ≡ j)
  number_back (yes h) j e = (h, omega (arith, number_in n i h))
  number_back (no h) j e = absurd (omega (arith, number_out n i (omega arith)))

named_sort : (t u : List ℕ) (x : Line) → sort x ≡ label u → named t x ≡ same u t
unfolding named label_name is
named_sort t u x e = ap (λ (s : Sort). is t (label_name s)) e

module _ (low : List Line) where
  abbrev n : ℕ
  n = length low

  -- behind the last there is no label
  past_label : (i : ℕ) (u : List ℕ) → n ≤ i → sort (line_at low i) ≡ label u → ⊥
  unfolding line_at label_name
  past_label i u h e =
      let z : close ≡ label u = sym (ap sort (get_or-eq_default low (closer 0) h) ∙ close_sort) ∙ e in
      none_some {a = u} (ap label_name z)

  module _ (t : List ℕ) where
    abbrev first : ℕ
    first = first_place (named_at t low) 0 n

    first_named : first < n → named t (line_at low first) ≡ true
    unfolding named_at
    first_named h = let z : 0 + n ≡ n = omega arith in place_holds (named_at t low) n 0 (subst (λ (k : ℕ). first < k) (sym z) h)

    first_before : (i : ℕ) → i < n → named t (line_at low i) ≡ true → first ≤ i
    unfolding named_at
    first_before i h e = place_least (named_at t low) n 0 i (omega arith) (omega arith) e

    module _ (once : count (named t) low ≤ 1) (i : ℕ) (u : List ℕ) (e : sort (line_at low i) ≡ label u) where
      first_is_lem : i < n → same u t ≡ true → first ≡ i
      unfolding line_at
      first_is_lem h q =
          let here : named t (line_at low i) ≡ true = named_sort t u (line_at low i) e ∙ q in
          let b : first ≤ i = first_before i h here in
          go b here (dec_lt first i)
        where
          go : first ≤ i → named t (line_at low i) ≡ true → Dec (first < i) → first ≡ i
          go b here (yes k) = absurd (no_second (named t) (closer 0) low first i once k h (first_named (omega arith)) here)
          go b here (no k) = omega arith

      aims_in : i < n → same u t ≡ eqb (suc i) (label_number t low)
      unfolding label_number
      aims_in h =
          by_test (same u t)
          (λ q. let z = first_is_lem h q in q ∙ sym (eq-eqb (suc i) (numbered n first) (sym (number_in n first (omega arith) ∙ ap suc z))))
          (λ q. q ∙ sym (is_false (eqb (suc i) (numbered n first)) (λ w.
          let b = number_back n first (dec_lt first n) i (sym (eqb-true (suc i) (numbered n first) w)) in
          false≢true (sym q ∙ sym (named_sort t u (line_at low i) e) ∙ sym (ap (λ (j : ℕ). named t (line_at low j)) b.1) ∙ first_named b.0))))

      aims_at : Dec (i < n) → same u t ≡ eqb (suc i) (label_number t low)
      aims_at (yes h) = aims_in h
      aims_at (no h) = absurd (past_label i u (omega arith) e)

    label_aims : count (named t) low ≤ 1 → Aims low t (label_number t low)
    label_aims once i u e = aims_at once i u e (dec_lt i n)

aims_sort : (t : List ℕ) (x : Line) (s : Sort) → sort x ≡ s → is t (aim_name s) ≡ true → aims t x ≡ true
unfolding aims
aims_sort t x s e h = ap (λ (z : Sort). is t (aim_name z)) e ∙ h

-- ---- rows
flat_indent : (s : Sort) (d : ℕ) → FlatAs s d → d < 4096
flat_indent (label t) d f = omega arith
flat_indent (cond_to t) d f = omega arith
flat_indent (jump_to t) d f = omega arith
flat_indent plain d f = omega arith
flat_indent if_open d f = absurd f
flat_indent close d f = absurd f
flat_indent do_open d f = absurd f
flat_indent while_close d f = absurd f

kind_small : (s : Sort) → kind_in s < 16
unfolding kind_in
kind_small (label t) = omega arith
kind_small (cond_to t) = omega arith
kind_small (jump_to t) = omega arith
kind_small plain = omega arith
kind_small if_open = omega arith
kind_small close = omega arith
kind_small do_open = omega arith
kind_small while_close = omega arith

module _ (low : List Line) (p : Plain low) (few : length low < 16777216) (i : ℕ) (h : i < length low) where
  name_le : (s : Sort) → name_in low i s ≤ length low
  unfolding name_in
  name_le (label t) = h
  name_le (cond_to t) = label_le t low
  name_le (jump_to t) = label_le t low
  name_le plain = omega arith
  name_le if_open = omega arith
  name_le close = omega arith
  name_le do_open = omega arith
  name_le while_close = omega arith

  -- the row of a line of this sort
  abbrev w : Sort → ℕ → ℕ
  w s d = packed (kind_in s) d (name_in low i s) i

  row_fields : (s : Sort) (d : ℕ) → FlatAs s d → Fields (kind_in s) d (name_in low i s) i (w s d)
  row_fields s d f = fields (kind_in s) d (name_in low i s) i (kind_small s) (flat_indent s d f) (omega (arith, name_le s)) (omega arith)

  -- a goto to t stands at line i
  aims_is : (t : List ℕ) (s : Sort) → sort (line_at low i) ≡ s → is t (aim_name s) ≡ true → Aims low t (label_number t low)
  unfolding line_at
  aims_is t s e a = label_aims low t (p.once t (counted (aims t) (closer 0) low i h (aims_sort t (line_at low i) s e a)))

  codes_is : (s : Sort) (d : ℕ) → FlatAs s d → sort (line_at low i) ≡ s → Codes low s (w s d)
  unfolding kind_in name_in is aim_name
  codes_is (label t) d f e = let r = row_fields (label t) d f in (r.kind, r.name ∙ ap suc (sym r.origin))
  codes_is (cond_to t) d f e = let r = row_fields (cond_to t) d f in (r.kind, subst (Aims low t) (sym r.name) (aims_is t (cond_to t) e (same_refl t)))
  codes_is (jump_to t) d f e = let r = row_fields (jump_to t) d f in (r.kind, subst (Aims low t) (sym r.name) (aims_is t (jump_to t) e (same_refl t)))
  codes_is plain d f e = (row_fields plain d f).kind
  codes_is if_open d f e = absurd f
  codes_is close d f e = absurd f
  codes_is do_open d f e = absurd f
  codes_is while_close d f e = absurd f

  flat_at : FlatAs (sort (line_at low i)) (line_at low i).indent
  unfolding line_at
  flat_at = each_at p.flat i (closer 0) h

  row_lowered : (l : ℕ) → length low < l → LowRow low l i (row_of low i)
  unfolding row_of
  row_lowered l k =
      let s = sort (line_at low i) in
      let d = (line_at low i).indent in
      let r = row_fields s d flat_at in
      record { origin = r.origin; indent = r.indent; codes = codes_is s d flat_at refl; small = omega (arith, r.name, name_le s) }

-- ---- the table
module _ (low : List Line) (ls ks t : List ℕ) (held : (i : ℕ) → i < length low → line_in ls ks t i ≡ line_at low i) where
  lines_held : lines_in ls ks t (length low) ≡ low
  unfolding lines_in line_at
  lines_held = below_is (line_in ls ks t) low (closer 0) held

  sorted_at : (R : List ℕ) → length low ≤ length R → (i : ℕ) → i < length low → at (sorted ls ks t (length low) R) i ≡ row_of low i
  unfolding sorted at
  sorted_at R r i h =
      let f = row_of (lines_in ls ks t (length low)) in
      let z : min (length low) (length R) ≡ length low = least_left (length low) (length R) r in
      rw z
      (get_or-append (map f (range 0 (length low))) (drop (length low) R) 0 i (omega (arith, below_length f (length low)))
      ∙ below_at f (length low) i 0 h ∙ ap (λ (xs : List Line). row_of xs i) lines_held)

  -- a row for each lowered line, as the passes ask
  pub rows_lowered : Plain low → length low < 16777216 → (l : ℕ) → length low < l → (R : List ℕ) → length low ≤ length R → (i : ℕ) → i < length low
      → LowRow low l i (at (sorted ls ks t (length low) R) i)
  rows_lowered p few l k R r i h = subst (LowRow low l i) (sym (sorted_at R r i h)) (row_lowered low p few i h l k)
