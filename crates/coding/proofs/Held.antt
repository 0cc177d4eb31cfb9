-- What holds of the tables between two tries, and what it says of the parts of the rows: they are coded, and the spans tell what reaches them.
use mathlib.Core.Path.{◌≡◌, refl, sym, ap, ap₂, subst, ◌∙◌}
use mathlib.Core.Bool.{true, false}
use mathlib.Core.Option.{Option, none, some}
use mathlib.Core.List.{List, [], ◌∷◌, ◌++◌, map}
use Prim.Native.Nat.{ℕ, zero, suc, ◌+◌, ◌-◌, ◌≤◌, ◌<◌}
use native.Mathlib.Omega.{arith}
use lib.ListN.{length, take, drop, replicate, length-replicate}
use lib.Seq.{take-add, drop_at, take-take, length-take-le}
use Rattle.definition.specs.Lists.{any, at}
use Rattle.definition.specs.Tokens.{Line}
use Rattle.definition.specs.Sorts.{sort}
use Rattle.definition.specs.Sorts.Sort.{label}
use Rattle.definition.specs.Passes.{Formed, aimed, reached, deep, raise}
use Rattle.definition.proofs.Bools.{both_false}
use Rattle.definition.proofs.ListLaws.{Each, ◌▸◌, end, each_append, each_left, each_right, each_head, each_tail}
use Rattle.outline.specs.Rows.{name_of, line_of, lines_of}
use Rattle.outline.specs.Tests.{too_deep}
use Rattle.outline.specs.Spans.{note_from, note_row, spans_of, outside, aimed_out, reached_in}
use Rattle.outline.specs.Forming.{raised, deep_in}
use Rattle.std.specs.Prelude.{Ok, Err}
use Rattle.passes.specs.Sweeps.{too_deep as refusal, Tried, tried}
use Rattle.coding.proofs.Coding.{CodedRow, Coded, deep_row}
use Rattle.coding.proofs.Reaching.{note_length, any_lines, aimed_says, reached_says}
use Rattle.coding.proofs.Scanning.{part, some_rows}
use Rattle.coding.proofs.Changed.{raised_line, raised_coded, not_deep}
use Rattle.coding.proofs.Shapes.{rows_split, part_split}

-- the first n rows code their lines, and S has their spans for the names below l
pub record Held (ls : List Line) (l : ℕ) (R S : List ℕ) (n : ℕ) : Type 0 where
  pub in_table : n ≤ length R
  pub few : length R ≤ 4294967295
  pub spans : S ≡ spans_of l R n
  pub coded : Coded ls l (take n R)

-- what a try on rows, and the try on their lines, come to: nothing, a region too deep, or the same region, with n' rows behind it
pub data Step (ls : List Line) (l : ℕ) (R S : List ℕ) (n' : ℕ) (t : Tried) (r : Option Formed) : Type 0 where
  no_region : t ≡ tried (Ok false) R S → r ≡ none → Step ls l R S n' t r
  too_deep_lem : t ≡ tried (Err refusal) R S → (o : Formed) → r ≡ some o → o.deep ≡ true → Step ls l R S n' t r
  region : (Q T : List ℕ) → t ≡ tried (Ok true) Q T → (o : Formed) → r ≡ some o → o.deep ≡ false → o.lines ≡ lines_of ls (take n' Q)
      → Held ls l Q T n' → length Q ≡ length R → drop n' Q ≡ drop n' R → Step ls l R S n' t r

pub note_all : (R : List ℕ) (f i : ℕ) (S : List ℕ) → length (note_from R i f S) ≡ length S
unfolding note_from
note_all R zero i S = refl
note_all R (suc f) i S = note_all R f (suc i) (note_row S (at R i) i) ∙ note_length S (at R i) i

pub spans_length : (l : ℕ) (R : List ℕ) (n : ℕ) → length (spans_of l R n) ≡ l
unfolding spans_of
spans_length l R n = note_all R n 0 (replicate l 0) ∙ length-replicate {A = ℕ} l 0

pub map-append : {A B : Type 0} (f : A → B) (xs ys : List A) → map f (xs ++ ys) ≡ map f xs ++ map f ys
map-append f [] ys = refl
map-append f (x ∷ xs) ys = ap (λ z. f x ∷ z) (map-append f xs ys)

module _ (ls : List Line) (l : ℕ) where
  abbrev L : ℕ → Line
  L w = line_of ls w

  -- rows that none of which is too deep: their lines raised are the lines of the rows raised
  pub raise_rows : (mid : List ℕ) → Each (CodedRow ls l) mid → any too_deep mid ≡ false
      → (map L (map raised mid) ≡ map raise (map L mid)) × Coded ls l (map raised mid)
  unfolding any
  raise_rows [] c e = (refl, end)
  raise_rows (w ∷ ws) c e =
      let b = both_false (too_deep w) (any too_deep ws) e in
      let r = raise_rows ws (each_tail c) b.1 in
      (ap₂ (λ (x : Line) (z : List Line). x ∷ z) (raised_line ls w (not_deep w b.0)) r.0, raised_coded ls l w (each_head c) (not_deep w b.0) ▸ r.1)

  module _ (R S : List ℕ) (n : ℕ) (H : Held ls l R S n) where
    rows_cut : (b : ℕ) → b ≤ n → take n R ≡ take b R ++ part R b (n - b)
    rows_cut b h = let e : n ≡ b + (n - b) = omega arith in ap (λ (z : ℕ). take z R) e ∙ take-add b (n - b) R

    pub coded_front : (a : ℕ) → a ≤ n → Coded ls l (take a R)
    coded_front a h = each_left (take a R) (part R a (n - a)) (subst (Coded ls l) (rows_cut a h) H.coded)

    pub coded_back : (b : ℕ) → b ≤ n → Coded ls l (part R b (n - b))
    coded_back b h = each_right (take b R) (part R b (n - b)) (subst (Coded ls l) (rows_cut b h) H.coded)

    pub coded_at : (k : ℕ) → k < n → CodedRow ls l (at R k)
    coded_at k h =
        each_head (each_right (take k R) (at R k ∷ part R (k + 1) (n - (k + 1))) (subst (Coded ls l) (rows_split R k n h H.in_table) H.coded))

    pub coded_part : (i j : ℕ) → i ≤ j → j ≤ n → Coded ls l (part R i (j - i))
    coded_part i j a b = each_left (part R i (j - i)) (part R j (n - j)) (subst (Coded ls l) (part_split R i j n a b) (coded_back i (omega arith)))

    -- the rows below a, and from b on
    out_rows : (a b : ℕ) → a ≤ n → b ≤ n → take a (take n R) ++ drop b (take n R) ≡ take a R ++ part R b (n - b)
    out_rows a b h k =
        ap₂ (λ (x y : List ℕ). x ++ y) (take-take a n R h)
        (ap (drop b) (rows_cut b k) ∙ drop_at (take b R) (part R b (n - b)) b (length-take-le b R (omega (arith, H.in_table))))

    module _ (a b : ℕ) (h : a ≤ n) (k : b ≤ n) where
      abbrev out_l : List Line
      out_l = map L (take a R ++ part R b (n - b))

      out_coded : Coded ls l (take a (take n R) ++ drop b (take n R))
      out_coded = subst (Coded ls l) (sym (out_rows a b h k)) (each_append (coded_front a h) (coded_back b k))

      few_rows : n ≤ 4294967295
      few_rows = omega (arith, H.few, H.in_table)

      pub reached_at : (i j : ℕ) → i ≤ j → j ≤ n → reached out_l (map L (part R i (j - i))) ≡ reached_in R S i j a b
      unfolding reached_in
      reached_at i j p q =
          ap (λ (z : List ℕ). reached (map L z) (map L (part R i (j - i)))) (sym (out_rows a b h k))
          ∙ reached_says ls l R n S H.spans H.in_table few_rows a b out_coded (coded_part i j p q)
          ∙ sym (some_rows (aimed_out S a b) R (j - i) i (omega (arith, H.in_table)))

      pub aimed_at_lem : (v : ℕ) (u : List ℕ) → CodedRow ls l v → sort (L v) ≡ label u → aimed u out_l ≡ outside (at S (name_of v)) a b
      aimed_at_lem v u cv ev =
          ap (λ (z : List ℕ). aimed u (map L z)) (sym (out_rows a b h k)) ∙ aimed_says ls l R n S H.spans H.in_table few_rows a b out_coded v u cv ev

    pub deep_at : (i j : ℕ) → i ≤ j → j ≤ n → any deep (map L (part R i (j - i))) ≡ deep_in R i j
    unfolding deep_in
    deep_at i j p q =
        any_lines ls (CodedRow ls l) deep too_deep (deep_row ls l) (coded_part i j p q) ∙ sym (some_rows too_deep R (j - i) i (omega (arith, H.in_table)))

    -- the lines, of which line k is one
    pub lines_split : (k : ℕ) → k < n → map L (take n R) ≡ map L (take k R) ++ L (at R k) ∷ map L (part R (k + 1) (n - (k + 1)))
    lines_split k h = ap (map L) (rows_split R k n h H.in_table) ∙ map-append L (take k R) (at R k ∷ part R (k + 1) (n - (k + 1)))
