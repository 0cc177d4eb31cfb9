-- A try of an if on rows is the try on their lines: the same label is found, the same gotos reach the body, and the rows formed are the lines formed.
use mathlib.Core.Path.{◌≡◌, refl, sym, ap, ap₂, subst, ◌∙◌}
use mathlib.Core.Bool.{Bool, true, false, ◌||◌, false≢true}
use mathlib.Core.Option.{Option, none, some}
use mathlib.Core.List.{List, [], ◌∷◌, ◌++◌, map}
use Prim.Native.Nat.{ℕ, ◌+◌, ◌-◌, ◌≤◌, ◌<◌}
use native.Mathlib.Omega.{arith}
use borrow.Author.Tests.{eq-eqb, ne_eqb, eqb-true, eqb-false}
use lib.Dec.{eqb}
use lib.ListN.{length, take, drop}
use lib.Seq.{take_at, drop_at, append_snoc, take-suc}
use native.Mathlib.Numerals.{add-one}
use Rattle.definition.specs.Lists.{has, at}
use Rattle.definition.specs.Tokens.{Line}
use Rattle.definition.specs.Sorts.{Sort, sort, sort_of}
use Rattle.definition.specs.Sorts.Sort.{cond_to, if_open}
use Rattle.definition.specs.Negate.{open_tokens}
use Rattle.definition.specs.Passes.{Formed, cond_name, reached, no_line, unless, scan, if_cut, if_at, if_try, form_if, raise, closer}
use Rattle.definition.proofs.Bools.{by_test}
use Rattle.definition.proofs.SortLaws.{cond_sort}
use Rattle.definition.proofs.Fits.{Fits, fit_at}
use Rattle.outline.specs.Rows.{kind_of, indent_of, name_of, line_of, lines_of}
use Rattle.outline.specs.Tests.{is_kind, is_cond}
use Rattle.outline.specs.Spans.{reached_in}
use Rattle.passes.specs.Regions.{label_from, if_goal_at, if_goal, formed_if, opened, close_row}
use Rattle.passes.specs.Sweeps.{if_tried}
use Rattle.passes.proofs.Goals.{label_within, if_after}
use Rattle.coding.proofs.Coding.{Codes, CodedRow, indent_is, cond_row}
use Rattle.coding.proofs.Scanning.{part, cut_b, scan_rows}
use Rattle.coding.proofs.Changed.{opened_line_lem, opened_coded, close_line, close_coded}
use Rattle.coding.proofs.Shapes.{if_shape}
use Rattle.coding.proofs.Trying.{lines_in, lines_length, lines_cut, out_at, out_some, out_no, out_goal, goal_head, Forms, trying}
use Rattle.coding.proofs.Held.{Held, Step, map-append, coded_back, coded_at, reached_at, lines_split}

module _ (ls : List Line) (l : ℕ) (R S : List ℕ) (n : ℕ) (H : Held ls l R S n) (k : ℕ) (h : k < n) where
  abbrev L : ℕ → Line
  L v = line_of ls v

  abbrev w : ℕ
  w = at R k

  abbrev pre : List Line
  pre = map L (take k R)

  -- the lines behind line k; and, where the label is row j, the body, what stands from the label on, and the if
  abbrev X : List Line
  X = lines_in ls R (k + 1) n

  abbrev M : ℕ → List Line
  M j = lines_in ls R (k + 1) j

  abbrev P : ℕ → List Line
  P j = lines_in ls R j n

  abbrev F : ℕ → List Line
  F j = form_if pre (L w) (M j) (P j)

  cw : CodedRow ls l w
  cw = coded_at ls l R S n H k h

  r : ℕ
  r = label_from n (name_of w) (indent_of w) R (k + 1) (n - (k + 1))

  r_within : (k + 1 ≤ r) × (r ≤ n)
  unfolding r
  r_within = label_within n (name_of w) (indent_of w) R (k + 1) (omega arith)

  M-length : length (M r) ≡ r - (k + 1)
  M-length = lines_length ls R (k + 1) r r_within.0 (omega (arith, r_within, H.in_table))

  -- an empty body
  no_line_lem : (xs : List Line) (p : ℕ) → length xs ≡ p → no_line xs ≡ eqb p 0
  unfolding no_line
  no_line_lem [] p e = sym (eq-eqb p 0 (omega arith))
  no_line_lem (x ∷ xs) p e = sym (ne_eqb p 0 (λ z. omega arith))

  next_is : eqb (r - (k + 1)) 0 ≡ eqb r (k + 1)
  next_is = by_test (eqb r (k + 1)) (λ e. eq-eqb (r - (k + 1)) 0 (omega (arith, eqb-true r (k + 1) e)) ∙ sym e)
      (λ e. ne_eqb (r - (k + 1)) 0 (λ z. eqb-false r (k + 1) e (omega (arith, r_within))) ∙ sym e)

  -- the lines outside the body
  outer_lines : pre ++ L w ∷ P r ≡ map L (take (k + 1) R ++ part R r (n - r))
  unfolding at
  outer_lines =
      sym (ap (λ (z : List ℕ). map L (z ++ part R r (n - r))) (ap (λ (z : ℕ). take z R) (add-one k) ∙ take-suc R k 0 (omega (arith, H.in_table)))
      ∙ ap (map L) (append_snoc (take k R) w (part R r (n - r))) ∙ map-append L (take k R) (w ∷ part R r (n - r)))

  reach_is : reached (pre ++ L w ∷ P r) (M r) ≡ reached_in R S (k + 1) r (k + 1) r
  reach_is =
      ap (λ (z : List Line). reached z (M r)) outer_lines
      ∙ reached_at ls l R S n H (k + 1) r (omega arith) r_within.1 (k + 1) r r_within.0 r_within.1

  -- what forbids the if
  abbrev bad : Bool
  bad = eqb r (k + 1) || reached_in R S (k + 1) r (k + 1) r

  found : if_cut pre (L w) (cut_b false (r - (k + 1)) X) ≡ unless bad (M r) (F r)
  unfolding if_cut
  found =
      let c : X ≡ M r ++ P r = lines_cut ls R (k + 1) r n r_within.0 r_within.1 in
      let e_m : take (r - (k + 1)) X ≡ M r = ap (take (r - (k + 1))) c ∙ take_at (M r) (P r) (r - (k + 1)) M-length in
      let e_p : drop (r - (k + 1)) X ≡ P r = ap (drop (r - (k + 1))) c ∙ drop_at (M r) (P r) (r - (k + 1)) M-length in
      ap₂ (λ (a b : List Line). unless (no_line a || reached (pre ++ L w ∷ b) a) a (form_if pre (L w) a b)) e_m e_p
      ∙ ap₂ (λ (a b : Bool). unless (a || b) (M r) (F r)) (no_line_lem (M r) (r - (k + 1)) M-length ∙ next_is) reach_is

  scan_is : (t : List ℕ) → cond_name (sort (L w)) ≡ some t → (b : Bool) → eqb r n ≡ b → scan t (L w).indent X ≡ cut_b b (r - (k + 1)) X
  unfolding r
  scan_is t ec b e =
      let c : Codes ls (cond_to t) w = subst (λ (s : Sort). Codes ls s w) (cond_sort (sort (L w)) t ec) cw.codes in
      ap (λ (d : ℕ). scan t d X) (indent_is ls w)
      ∙ scan_rows ls l R n H.in_table t (name_of w) (indent_of w) c.1 (n - (k + 1)) (k + 1) (omega arith) (coded_back ls l R S n H (k + 1) (omega arith))
      ∙ ap (λ (b : Bool). cut_b b (r - (k + 1)) X) e

  if_by : (c : Option (List ℕ)) → cond_name (sort (L w)) ≡ c → if_at pre (L w) X c ≡ out_at M F n (if_goal R S n k)
  unfolding if_at if_cut if_goal if_goal_at r has
  if_by none e = out_no M F n (is_cond w) (if_goal_at R S n k r) (sym (cond_row ls l w cw) ∙ ap has e)
  if_by (some t) e =
      out_goal M F n (is_cond w) r bad (if_at pre (L w) X (some t)) (sym (cond_row ls l w cw) ∙ ap has e) (λ b. ap (if_cut pre (L w)) (scan_is t e true b))
      (λ b. ap (if_cut pre (L w)) (scan_is t e false b) ∙ found)

  if_try_lem : if_try pre (L w) X ≡ out_at M F n (if_goal R S n k)
  unfolding if_try
  if_try_lem = if_by (cond_name (sort (L w))) refl

  -- ---- the region on rows
  module _ (fits : Fits (lines_of ls (take n R))) where
    g : ℕ
    g = if_goal R S n k

    module _ (e : eqb g n ≡ false) where
      is_cond_lem : is_cond w ≡ true
      unfolding g if_goal
      is_cond_lem = goal_head (is_cond w) (if_goal_at R S n k (label_from n (name_of w) (indent_of w) R (k + 1) (n - (k + 1)))) n e

      kind_2 : kind_of w ≡ 2
      unfolding is_kind
      kind_2 = eqb-true (kind_of w) 2 is_cond_lem

      open_sort : (o : Option (List ℕ)) → cond_name (sort (L w)) ≡ o → has o ≡ true → sort_of (open_tokens (L w).toks) ≡ if_open
      unfolding has lines_of
      open_sort none q b = absurd (false≢true b)
      open_sort (some t) q b =
          (fit_at pre (L w) X t (cond_sort (sort (L w)) t q) (subst Fits (lines_split ls l R S n H k h) fits)).open_sort

      within : (k < g) × (g < n)
      unfolding g
      within = if_after R S n k g h refl (eqb-false g n e)

      forms : n < length R → Forms ls l R k g (formed_if R n k g) (n + 1) (F g) (opened w) (close_row w) (part R g (n - g))
      forms room =
          let i : k < g = within.0 in
          let a : g ≤ length R = omega (arith, within, H.in_table) in
          let b : g ≤ n = omega (arith, within) in
          let s = if_shape R k g i a n b room in
          record {
            rows = s.0;
            lines = sym (ap₂ (λ (x y : Line). pre ++ x ∷ (map raise (M g) ++ y ∷ P g)) (opened_line_lem ls w kind_2) (close_line ls w ∙ ap closer (sym (indent_is ls w))));
            head = opened_coded ls l w cw kind_2 (open_sort (cond_name (sort (L w))) refl (cond_row ls l w cw ∙ is_cond_lem));
            last = close_coded ls l w cw;
            behind = coded_back ls l R S n H g b;
            room = omega arith;
            long = s.2;
            kept = s.1;
          }

    -- the try, with room for one row more where a region is formed
    pub if_step_lem : ((o : Formed) → if_try pre (L w) X ≡ some o → n < length R) → Step ls l R S (n + 1) (if_tried R S n k) (if_try pre (L w) X)
    unfolding if_tried g
    if_step_lem room =
        let out : eqb g n ≡ false → n < length R = λ e. room _ (if_try_lem ∙ out_some M F n g e) in
        trying ls l R S n H k g (formed_if R n k g) (n + 1) n F (if_try pre (L w) X) if_try_lem (opened w) (close_row w) (part R g (n - g))
        (λ e. ((within e).0, omega (arith, within e))) out (λ e. forms e (out e))
