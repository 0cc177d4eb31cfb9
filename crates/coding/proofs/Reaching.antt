-- What the table of spans says: a span has a row below a, or from b on, exactly where one of those rows aims at the name.
-- So a label is reached from outside a region where its span says so.
use mathlib.Core.Path.{◌≡◌, refl, sym, ap, ap₂, subst, ◌∙◌}
use mathlib.Core.Bool.{Bool, true, false, cond, ◌&&◌, ◌||◌, or-true, or-false, or_assoc, and-false}
use mathlib.Core.Option.{Option, none, some}
use mathlib.Core.List.{List, [], ◌∷◌, ◌++◌, map}
use Prim.Native.Nat.{ℕ, zero, suc, ◌+◌, ◌*◌, ◌-◌, ◌/◌, ◌≤◌, ◌<◌}
use native.Mathlib.Decide.{dec_le, dec_lt}
use native.Mathlib.Omega.{arith}
use borrow.Author.Tests.{ne_eqb, lt-ltb, le-ltb, le-leb, lt-leb, eqb-true, eqb-false}
use lib.Dec.{eqb, ltb, leb}
use lib.ListN.{length, take, drop, set, replicate, length-set, length-replicate, get_or-replicate}
use lib.Seq.{take-nil, drop-nil, drop-cons, get_or-set_same, get_or-set_other, length-take-le}
use Rattle.definition.specs.Lists.{any, has, at}
use Rattle.definition.specs.Tokens.{Line}
use Rattle.definition.specs.Sorts.{Sort, sort}
use Rattle.definition.specs.Sorts.Sort.{label}
use Rattle.definition.specs.Passes.{label_name, aimed, aimed_at, reached, aims as aims_line}
use Rattle.definition.proofs.Bools.{by_test}
use Rattle.definition.proofs.SortLaws.{label_sort}
use Rattle.definition.proofs.ListLaws.{Each, ◌▸◌, end}
use Rattle.outline.specs.Rows.{name_of, line_of}
use Rattle.outline.specs.Tests.{is_goto}
use Rattle.outline.specs.Spans.{low_of, high_of, widened, note_row, note_from, spans_of, outside, aimed_out}
use Rattle.coding.proofs.Coding.{goes_to, Codes, CodedRow, Coded, label_row, aims_row}

-- the span of m over the rows ws, the first of which is row i, from the span e on
unfoldable span_from : ℕ → ℕ → ℕ → List ℕ → ℕ
span_from m i e [] = e
span_from m i e (w ∷ ws) = span_from m (suc i) (cond (goes_to m w) (widened e i) e) ws

-- ---- the table holds the spans
pub note_length : (S : List ℕ) (w i : ℕ) → length (note_row S w i) ≡ length S
unfolding note_row
note_length S w i = go (is_goto w)
  where
    go : (b : Bool) → length (cond b (set S (name_of w) (widened (at S (name_of w)) i)) S) ≡ length S
    go true = length-set S (name_of w) (widened (at S (name_of w)) i)
    go false = refl

module _ (m : ℕ) where
  note_row_lem : (S : List ℕ) (w i : ℕ) → m < length S → at (note_row S w i) m ≡ cond (goes_to m w) (widened (at S m) i) (at S m)
  unfolding note_row goes_to at
  note_row_lem S w i h = go (is_goto w) (eqb (name_of w) m) (eqb-true (name_of w) m) (eqb-false (name_of w) m)
    where
      go : (b q : Bool) → (q ≡ true → name_of w ≡ m) → (q ≡ false → name_of w ≡ m → ⊥)
          → at (cond b (set S (name_of w) (widened (at S (name_of w)) i)) S) m ≡ cond (b && q) (widened (at S m) i) (at S m)
      go true true f g =
          ap (λ (x : ℕ). at (set S x (widened (at S x) i)) m) (f refl) ∙ get_or-set_same S m (widened (at S m) i) 0 h
      go true false f g = get_or-set_other S (name_of w) m (widened (at S (name_of w)) i) 0 (λ e. g refl (sym e))
      go false q f g = refl

  note_at : (f i : ℕ) (R S : List ℕ) → i + f ≤ length R → m < length S → at (note_from R i f S) m ≡ span_from m i (at S m) (take f (drop i R))
  unfolding note_from span_from at
  note_at zero i R S l h = refl
  note_at (suc f) i R S l h =
      note_at f (suc i) R (note_row S (at R i) i) (omega arith) (omega (arith, note_length S (at R i) i))
      ∙ ap (λ (e : ℕ). span_from m (suc i) e (take f (drop (suc i) R))) (note_row_lem S (at R i) i h)
      ∙ ap (λ (z : List ℕ). span_from m i (at S m) (take (suc f) z)) (sym (drop-cons R i 0 (omega arith)))

  table_at : (R : List ℕ) (l n : ℕ) → n ≤ length R → m < l → at (spans_of l R n) m ≡ span_from m 0 0 (take n R)
  unfolding spans_of at
  table_at R l n w h =
      note_at n 0 R (replicate l 0) (omega arith) (omega (arith, length-replicate {A = ℕ} l 0)) ∙ ap (λ (e : ℕ). span_from m 0 e (take n R)) (get_or-replicate l m 0 0 h)

-- ---- a span with one row more
module _ (e i : ℕ) (h : i < 4294967295) where
  wide_first : (low_of (widened 0 i) ≡ i) × (high_of (widened 0 i) ≡ i + 1) × (widened 0 i ≡ 0 → ⊥)
  unfolding widened low_of high_of
  wide_first =
      let q : widened 0 i ≡ 4294967296 * i + (i + 1) = simp (lt-ltb i 4294967295 h) in
      (omega arith, omega arith, λ z. omega arith)

  wide_more : (e ≡ 0 → ⊥) → (low_of (widened e i) ≡ low_of e) × (high_of (widened e i) ≡ i + 1) × (widened e i ≡ 0 → ⊥)
  unfolding widened low_of high_of
  wide_more a =
      let q : widened e i ≡ 4294967296 * (e / 4294967296) + (i + 1) = simp (lt-ltb i 4294967295 h, ne_eqb e 0 a) in
      (omega arith, omega arith, λ z. omega arith)

-- ---- what it says of the rows from B on, and below A
module _ (p : ℕ → Bool) (B i w : ℕ) (ws : List ℕ) where
  cut_at : Dec (B ≤ i) → (any p (drop (B - i) (w ∷ ws)) ≡ ((leb B i && p w) || any p (drop (B - suc i) ws)))
      × (any p (take (B - i) (w ∷ ws)) ≡ ((ltb i B && p w) || any p (take (B - suc i) ws)))
  unfolding any
  cut_at (yes h) =
      let e : B - i ≡ 0 = omega arith in
      let q : B - suc i ≡ 0 = omega arith in
      (rw (e, q, le-leb B i h), rw (e, q, le-ltb i B h))
  cut_at (no h) =
      let e : B - i ≡ suc (B - suc i) = omega arith in
      (rw (e, lt-leb B i (omega arith)), rw (e, lt-ltb i B (omega arith)))

  any_drop : any p (drop (B - i) (w ∷ ws)) ≡ ((leb B i && p w) || any p (drop (B - suc i) ws))
  any_drop = (cut_at (dec_le B i)).0

  any_take : any p (take (B - i) (w ∷ ws)) ≡ ((ltb i B && p w) || any p (take (B - suc i) ws))
  any_take = (cut_at (dec_le B i)).1

out_is : (e a b : ℕ) → (e ≡ 0 → ⊥) → outside e a b ≡ (ltb (low_of e) a || ltb b (high_of e))
unfolding outside
out_is e a b n = rw (ne_eqb e 0 n)

module _ (m A B : ℕ) where
  abbrev g : ℕ → Bool
  g = goes_to m

  -- with a row in it already, all of them below i
  span_later : (ws : List ℕ) (i e : ℕ) → (e ≡ 0 → ⊥) → high_of e ≤ i → i + length ws ≤ 4294967295
      → outside (span_from m i e ws) A B ≡ (ltb (low_of e) A || (ltb B (high_of e) || any g (drop (B - i) ws)))
  unfolding span_from any
  span_later [] i e n h l =
      out_is e A B n ∙ ap (λ (b : Bool). ltb (low_of e) A || b) (sym (ap (λ (z : List ℕ). ltb B (high_of e) || any g z) (drop-nil (B - i)) ∙ or-false (ltb B (high_of e))))
  span_later (w ∷ ws) i e n h l =
      by_test (g w)
      (λ q.
      let x = wide_more e i (omega arith) n in
      ap (λ (b : Bool). outside (span_from m (suc i) (cond b (widened e i) e) ws) A B) q
      ∙ span_later ws (suc i) (widened e i) x.2 (omega (arith, x.1)) (omega arith)
      ∙ ap₂ (λ (a b : ℕ). ltb a A || (ltb B b || any g (drop (B - suc i) ws))) x.0 x.1
      ∙ ap (λ (b : Bool). ltb (low_of e) A || b) (hit (dec_le B i) (any g (drop (B - suc i) ws))
      ∙ sym (ap (λ (b : Bool). ltb B (high_of e) || b) (any_drop g B i w ws ∙ ap (λ (b : Bool). (leb B i && b) || any g (drop (B - suc i) ws)) q))))
      (λ q.
      ap (λ (b : Bool). outside (span_from m (suc i) (cond b (widened e i) e) ws) A B) q
      ∙ span_later ws (suc i) e n (omega arith) (omega arith)
      ∙ ap (λ (b : Bool). ltb (low_of e) A || (ltb B (high_of e) || b))
      (sym (any_drop g B i w ws ∙ ap (λ (b : Bool). (leb B i && b) || any g (drop (B - suc i) ws)) q ∙ ap (λ (b : Bool). b || any g (drop (B - suc i) ws)) (and-false (leb B i)))))
    where
      hit : Dec (B ≤ i) → (r : Bool) → (ltb B (i + 1) || r) ≡ (ltb B (high_of e) || ((leb B i && true) || r))
      hit (yes k) r = simp (lt-ltb B (i + 1) (omega arith), le-leb B i k, or-true)
      hit (no k) r = simp (le-ltb B (i + 1) (omega arith), lt-leb B i (omega arith), le-ltb B (high_of e) (omega arith))

  span_first : (ws : List ℕ) (i : ℕ) → i + length ws ≤ 4294967295
      → outside (span_from m i 0 ws) A B ≡ (any g (take (A - i) ws) || any g (drop (B - i) ws))
  unfolding span_from any outside
  span_first [] i l = sym (ap₂ (λ (a b : List ℕ). any g a || any g b) (take-nil (A - i)) (drop-nil (B - i)))
  span_first (w ∷ ws) i l =
      by_test (g w)
      (λ q.
      let x = wide_first 0 i (omega arith) in
      ap (λ (b : Bool). outside (span_from m (suc i) (cond b (widened 0 i) 0) ws) A B) q
      ∙ span_later ws (suc i) (widened 0 i) x.2 (omega (arith, x.1)) (omega arith)
      ∙ ap₂ (λ (a b : ℕ). ltb a A || (ltb B b || any g (drop (B - suc i) ws))) x.0 x.1
      ∙ hit (dec_le B i) (dec_lt i A) (any g (drop (B - suc i) ws))
      ∙ sym (ap₂ (λ (a b : Bool). a || b) (any_take g A i w ws ∙ ap (λ (b : Bool). (ltb i A && b) || any g (take (A - suc i) ws)) q)
      (any_drop g B i w ws ∙ ap (λ (b : Bool). (leb B i && b) || any g (drop (B - suc i) ws)) q)))
      (λ q.
      ap (λ (b : Bool). outside (span_from m (suc i) (cond b (widened 0 i) 0) ws) A B) q
      ∙ span_first ws (suc i) (omega arith)
      ∙ sym (ap₂ (λ (a b : Bool). a || b)
      (any_take g A i w ws ∙ ap (λ (b : Bool). (ltb i A && b) || any g (take (A - suc i) ws)) q ∙ ap (λ (b : Bool). b || any g (take (A - suc i) ws)) (and-false (ltb i A)))
      (any_drop g B i w ws ∙ ap (λ (b : Bool). (leb B i && b) || any g (drop (B - suc i) ws)) q ∙ ap (λ (b : Bool). b || any g (drop (B - suc i) ws)) (and-false (leb B i)))))
    where
      low : Dec (B ≤ i) → (r : Bool) → (ltb B (i + 1) || r) ≡ ((leb B i && true) || r)
      low (yes k) r = simp (lt-ltb B (i + 1) (omega arith), le-leb B i k)
      low (no k) r = simp (le-ltb B (i + 1) (omega arith), lt-leb B i (omega arith))

      hit : Dec (B ≤ i) → Dec (i < A) → (r : Bool) → (ltb i A || (ltb B (i + 1) || r)) ≡ (((ltb i A && true) || any g (take (A - suc i) ws)) || ((leb B i && true) || r))
      hit d (yes k) r = simp (lt-ltb i A k)
      hit d (no k) r =
          let e : A - suc i ≡ 0 = omega arith in
          rw (le-ltb i A (omega arith), e) (low d r)

-- ---- from rows to lines
any_append : (p : ℕ → Bool) (xs ys : List ℕ) → any p (xs ++ ys) ≡ (any p xs || any p ys)
unfolding any
any_append p [] ys = refl
any_append p (x ∷ xs) ys = ap (λ (b : Bool). p x || b) (any_append p xs ys) ∙ sym (or_assoc (p x) (any p xs) (any p ys))

pub any_lines : (ls : List Line) (P : ℕ → Type 0) (f : Line → Bool) (h : ℕ → Bool) → ((w : ℕ) → P w → f (line_of ls w) ≡ h w)
    → {ws : List ℕ} → Each P ws → any f (map (line_of ls) ws) ≡ any h ws
unfolding any
any_lines ls P f h e end = refl
any_lines ls P f h e (◌▸◌ {x = w} q r) = ap₂ (λ (a b : Bool). a || b) (e w q) (any_lines ls P f h e r)

-- the first n rows and their spans, for the names below l
module _ (ls : List Line) (l : ℕ) (R : List ℕ) (n : ℕ) (S : List ℕ) (es : S ≡ spans_of l R n) (in_table : n ≤ length R) (few : n ≤ 4294967295) where
  abbrev rows_of : List ℕ
  rows_of = take n R

  pub span_says : (m a b : ℕ) → m < l → outside (at S m) a b ≡ any (goes_to m) (take a rows_of ++ drop b rows_of)
  span_says m a b h =
      let ea : a - 0 ≡ a = omega arith in
      let eb : b - 0 ≡ b = omega arith in
      ap (λ (e : ℕ). outside e a b) (ap (λ (T : List ℕ). at T m) es ∙ table_at m R l n in_table h)
      ∙ span_first m a b rows_of 0 (omega (arith, length-take-le n R in_table))
      ∙ ap₂ (λ (x y : ℕ). any (goes_to m) (take x rows_of) || any (goes_to m) (drop y rows_of)) ea eb ∙ sym (any_append (goes_to m) (take a rows_of) (drop b rows_of))

  module _ (a b : ℕ) (c : Coded ls l (take a rows_of ++ drop b rows_of)) where
    abbrev out_l : List Line
    out_l = map (line_of ls) (take a rows_of ++ drop b rows_of)

    -- the label v, whose text is u
    pub aimed_says : (v : ℕ) (u : List ℕ) → CodedRow ls l v → sort (line_of ls v) ≡ label u → aimed u out_l ≡ outside (at S (name_of v)) a b
    unfolding aimed
    aimed_says v u cv ev =
        let k : Codes ls (label u) v = subst (λ (s : Sort). Codes ls s v) ev cv.codes in
        any_lines ls (CodedRow ls l) (aims_line u) (goes_to (name_of v)) (λ w cw. aims_row ls l w cw v u ev k) c ∙ sym (span_says (name_of v) a b cv.small)

    label_says : (w : ℕ) → CodedRow ls l w → (o : Option (List ℕ)) → label_name (sort (line_of ls w)) ≡ o → aimed_at out_l o ≡ aimed_out S a b w
    unfolding aimed_at aimed_out has
    label_says w cw none e =
        sym (ap (λ (q : Bool). q && outside (at S (name_of w)) a b) (sym (label_row ls l w cw) ∙ ap has e))
    label_says w cw (some u) e =
        aimed_says w u cw (label_sort (sort (line_of ls w)) u e) ∙ sym (ap (λ (q : Bool). q && outside (at S (name_of w)) a b) (sym (label_row ls l w cw) ∙ ap has e))

    pub reached_says : {mid : List ℕ} → Coded ls l mid → reached out_l (map (line_of ls) mid) ≡ any (aimed_out S a b) mid
    unfolding reached
    reached_says cm = any_lines ls (CodedRow ls l) (λ x. aimed_at out_l (label_name (sort x))) (aimed_out S a b) (λ w cw. label_says w cw (label_name (sort (line_of ls w))) refl) cm
