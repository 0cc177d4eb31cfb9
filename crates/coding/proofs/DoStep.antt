-- A try of a loop on rows is the try on their lines: the same back edge is found, the same gotos reach the head and the body, and the rows formed
-- are the lines formed.
use mathlib.Core.Path.{◌≡◌, refl, sym, ap, ap₂, subst, ◌∙◌}
use mathlib.Core.Bool.{Bool, true, false, ◌||◌, false≢true}
use mathlib.Core.Option.{Option, none, some}
use mathlib.Core.List.{List, ◌∷◌, ◌++◌, map, append_assoc}
use Prim.Native.Nat.{ℕ, suc, ◌+◌, ◌-◌, ◌≤◌, ◌<◌}
use native.Mathlib.Numerals.{add-one}
use native.Mathlib.Omega.{arith}
use borrow.Author.Tests.{eqb-true, eqb-false}
use lib.Dec.{eqb}
use lib.ListN.{length, get_or, take, drop}
use lib.Seq.{take_at, get_or_at, drop-append-add}
use Rattle.definition.specs.Lists.{has, at}
use Rattle.definition.specs.Tokens.{Line}
use Rattle.definition.specs.Sorts.{Sort, sort, sort_of}
use Rattle.definition.specs.Sorts.Sort.{label, cond_to, while_close}
use Rattle.definition.specs.Negate.{while_tokens}
use Rattle.definition.specs.Passes.{label_name, aimed, reached, unless, Back, last_back, do_cut, do_at, do_try, form_do, raise, closer, while_line}
use Rattle.definition.proofs.SortLaws.{label_sort}
use Rattle.definition.proofs.Fits.{Fits, Fit, fit_back}
use Rattle.definition.proofs.Regions.{Backed, backed}
use Rattle.outline.specs.Rows.{kind_of, indent_of, name_of, line_of, lines_of}
use Rattle.outline.specs.Tests.{is_kind, is_label}
use Rattle.outline.specs.Spans.{outside, reached_in}
use Rattle.outline.proofs.Moves.{indent_small}
use Rattle.passes.specs.Regions.{back_from, do_goal_at, do_goal, formed_do, headed, whiled}
use Rattle.passes.specs.Sweeps.{do_tried}
use Rattle.passes.proofs.Goals.{back_within, chosen}
use Rattle.coding.proofs.Coding.{Codes, CodedRow, indent_is, label_row, backs_row}
use Rattle.coding.proofs.Scanning.{part, part_cons, back_b, back_rows}
use Rattle.coding.proofs.Changed.{headed_line, headed_coded, whiled_line, whiled_coded}
use Rattle.coding.proofs.Shapes.{rows_split, do_shape}
use Rattle.coding.proofs.Trying.{lines_in, lines_length, lines_cut, out_at, out_no, out_goal, goal_head, Forms, trying}
use Rattle.coding.proofs.Held.{Held, Step, map-append, coded_back, coded_at, reached_at, aimed_at_lem, lines_split}

abbrev back_of : List Line → Line → List Line → Back
back_of a x b = record { mid = a; back = x; post = b }

back_same : {a a' b b' : List Line} {x x' : Line} → a ≡ a' → x ≡ x' → b ≡ b' → back_of a x b ≡ back_of a' x' b'
back_same {a' = a'} {b = b} {x' = x'} p q r = ap₂ (λ (z : List Line) (y : Line). back_of z y b) p q ∙ ap (back_of a' x') r

module _ (ls : List Line) (l : ℕ) (R S : List ℕ) (n : ℕ) (H : Held ls l R S n) (k : ℕ) (h : k < n) where
  abbrev L : ℕ → Line
  L v = line_of ls v

  abbrev w : ℕ
  w = at R k

  abbrev pre : List Line
  pre = map L (take k R)

  -- the lines behind line k; and, where the back edge is row j, the body, what stands behind the back edge, and the loop
  abbrev X : List Line
  X = lines_in ls R (k + 1) n

  abbrev M : ℕ → List Line
  M j = lines_in ls R (k + 1) j

  abbrev P : ℕ → List Line
  P j = lines_in ls R (j + 1) n

  abbrev F : ℕ → List Line
  F j = form_do pre (L w) (M j) (L (at R j)) (P j)

  cw : CodedRow ls l w
  cw = coded_at ls l R S n H k h

  r : ℕ
  r = back_from n (name_of w) (indent_of w + 1) R (k + 1) (n - (k + 1))

  r_within : (k + 1 ≤ r) × (r ≤ n)
  unfolding r
  r_within = back_within n (name_of w) (indent_of w + 1) R (k + 1) (omega arith)

  -- what forbids the loop
  abbrev bad : Bool
  bad = outside (at S (name_of w)) r (r + 1) || reached_in R S (k + 1) r k (r + 1)

  -- the lines behind line k, where the search finds row r
  module _ (e : eqb r n ≡ false) where
    r_below : r < n
    r_below = let a : r ≡ n → ⊥ = eqb-false r n e in omega (arith, r_within)

    cut_is : X ≡ M r ++ L (at R r) ∷ P r
    cut_is =
        let q : n - r ≡ suc (n - (r + 1)) = omega (arith, r_below) in
        lines_cut ls R (k + 1) r n r_within.0 r_within.1
        ∙ ap (λ (z : List ℕ). M r ++ map L z) (ap (part R r) q ∙ part_cons R r (n - (r + 1)) (omega (arith, r_below, H.in_table))
        ∙ ap (λ (z : ℕ). at R r ∷ part R z (n - (r + 1))) (sym (add-one r)))

    found : Back
    found = back_of (M r) (L (at R r)) (P r)

    back_is : back_b false (r - (k + 1)) X ≡ some found
    unfolding found
    back_is =
        let p : ℕ = r - (k + 1) in
        let m : length (M r) ≡ p = lines_length ls R (k + 1) r r_within.0 (omega (arith, r_within, H.in_table)) in
        let s : suc p ≡ length (M r) + 1 = omega (arith, m) in
        let e₁ : take p X ≡ M r = ap (take p) cut_is ∙ take_at (M r) (L (at R r) ∷ P r) p m in
        let e₂ : get_or X p (closer 0) ≡ L (at R r) = ap (λ (z : List Line). get_or z p (closer 0)) cut_is ∙ get_or_at (M r) (L (at R r)) (P r) (closer 0) p m in
        let e₃ : drop (suc p) X ≡ P r = ap₂ drop s cut_is ∙ drop-append-add (M r) (L (at R r) ∷ P r) 1 in
        ap some (back_same e₁ e₂ e₃)

  module _ (t : List ℕ) (el : label_name (sort (L w)) ≡ some t) where
    head : sort (L w) ≡ label t
    head = label_sort (sort (L w)) t el

    search_is : (b : Bool) → eqb r n ≡ b → last_back t (suc (L w).indent) X ≡ back_b b (r - (k + 1)) X
    unfolding r
    search_is b e =
        let c : Codes ls (label t) w = subst (λ (s : Sort). Codes ls s w) head cw.codes in
        ap (λ (d : ℕ). last_back t d X) (ap suc (indent_is ls w) ∙ sym (add-one (indent_of w)))
        ∙ back_rows ls l R n H.in_table t (name_of w) (indent_of w + 1) (λ v cv. backs_row ls l v cv w t head c)
        (n - (k + 1)) (k + 1) (omega arith) (coded_back ls l R S n H (k + 1) (omega arith))
        ∙ ap (λ (b : Bool). back_b b (r - (k + 1)) X) e

    module _ (e : eqb r n ≡ false) where
      alone_is : aimed t (pre ++ L w ∷ (M r ++ P r)) ≡ outside (at S (name_of w)) r (r + 1)
      alone_is =
          let f : map L (take r R) ≡ pre ++ L w ∷ M r =
          ap (map L) (rows_split R k r (omega (arith, r_within)) (omega (arith, r_within, H.in_table))) ∙ map-append L (take k R) (w ∷ part R (k + 1) (r - (k + 1))) in
          ap (aimed t) (sym (map-append L (take r R) (part R (r + 1) (n - (r + 1))) ∙ ap (λ (z : List Line). z ++ P r) f ∙ append_assoc pre (L w ∷ M r) (P r)))
          ∙ aimed_at_lem ls l R S n H r (r + 1) r_within.1 (omega (arith, r_below e)) w t cw head

      reach_is : reached (pre ++ P r) (M r) ≡ reached_in R S (k + 1) r k (r + 1)
      reach_is =
          ap (λ (z : List Line). reached z (M r)) (sym (map-append L (take k R) (part R (r + 1) (n - (r + 1)))))
          ∙ reached_at ls l R S n H k (r + 1) (omega arith) (omega (arith, r_below e)) (k + 1) r r_within.0 r_within.1

      last_is : last_back t (suc (L w).indent) X ≡ some (found e)
      last_is = search_is false e ∙ back_is e

      -- the back edge
      edge : Backed t (suc (L w).indent) X (record { mid = M r; back = L (at R r); post = P r })
      unfolding found
      edge = backed t (suc (L w).indent) X (found e) last_is

      cut_at : do_cut pre (L w) t (last_back t (suc (L w).indent) X) ≡ unless bad (M r) (F r)
      unfolding do_cut found
      cut_at = ap (do_cut pre (L w) t) last_is ∙ ap₂ (λ (a b : Bool). unless (a || b) (M r) (F r)) alone_is reach_is

  do_by : (o : Option (List ℕ)) → label_name (sort (L w)) ≡ o → do_at pre (L w) X o ≡ out_at M F n (do_goal R S n k)
  unfolding do_at do_cut do_goal do_goal_at r has
  do_by none e = out_no M F n (is_label w) (do_goal_at R S n k r) (sym (label_row ls l w cw) ∙ ap has e)
  do_by (some t) e =
      out_goal M F n (is_label w) r bad (do_at pre (L w) X (some t)) (sym (label_row ls l w cw) ∙ ap has e) (λ b. ap (do_cut pre (L w) t) (search_is t e true b)) (cut_at t e)

  do_try_lem : do_try pre (L w) X ≡ out_at M F n (do_goal R S n k)
  unfolding do_try
  do_try_lem = do_by (label_name (sort (L w))) refl

  -- ---- the region on rows
  module _ (fits : Fits (lines_of ls (take n R))) where
    g : ℕ
    g = do_goal R S n k

    module _ (e : eqb g n ≡ false) where
      is_head : is_label w ≡ true
      unfolding g do_goal
      is_head = goal_head (is_label w) (do_goal_at R S n k (back_from n (name_of w) (indent_of w + 1) R (k + 1) (n - (k + 1)))) n e

      kind_1 : kind_of w ≡ 1
      unfolding is_kind
      kind_1 = eqb-true (kind_of w) 1 is_head

      -- it ends where the search did
      g_is : g ≡ r
      unfolding g r do_goal do_goal_at
      g_is = chosen (is_label w) (eqb r n || bad) r n (eqb-false g n e)

      found_at : eqb r n ≡ false
      found_at = ap (λ (z : ℕ). eqb z n) (sym g_is) ∙ e

      within : (k < g) × (g < n)
      within = (omega (arith, g_is, r_within), omega (arith, g_is, r_below found_at))

      b : ℕ
      b = at R g

      cb : CodedRow ls l b
      unfolding b
      cb = coded_at ls l R S n H g within.1

      record Edge : Type 0 where
        kind : kind_of b ≡ 2
        level : indent_of b ≡ suc (L w).indent
        ends : sort_of (while_tokens (L b).toks) ≡ while_close

      edge_at : (o : Option (List ℕ)) → label_name (sort (L w)) ≡ o → has o ≡ true → Edge
      unfolding has lines_of b
      edge_at none q x = absurd (false≢true x)
      edge_at (some t) q x =
          let s = edge t q found_at in
          let j : sort (L b) ≡ cond_to t = ap (λ (z : ℕ). sort (L (at R z))) g_is ∙ s.is_back in
          let c : Codes ls (cond_to t) b = subst (λ (s : Sort). Codes ls s b) j cb.codes in
          let f : Fit t (L (at R r)).toks =
          fit_back pre (L w) (M r) (L (at R r)) (P r) t s.is_back
          (subst Fits (lines_split ls l R S n H k h ∙ ap (λ (z : List Line). pre ++ L w ∷ z) s.whole) fits) in
          record {
            kind = c.0;
            level = sym (indent_is ls b) ∙ ap (λ (z : ℕ). (L (at R z)).indent) g_is ∙ s.level;
            ends = ap (λ (z : ℕ). sort_of (while_tokens (L (at R z)).toks)) g_is ∙ f.while_sort;
          }

      back_edge : Edge
      back_edge = edge_at (label_name (sort (L w))) refl (label_row ls l w cw ∙ is_head)

      head_fits : indent_of w < 4095
      head_fits = omega (arith, back_edge.level, indent_is ls w, indent_small b)

      forms : Forms ls l R k g (formed_do R k g) n (F g) (headed w) (whiled (at R g)) (part R (g + 1) (n - (g + 1)))
      unfolding b
      forms =
          let s = do_shape R k g within.0 (omega (arith, within, H.in_table)) n within.1 H.in_table in
          record {
            rows = s.0;
            lines =
                sym (ap₂ (λ (x y : Line). pre ++ x ∷ (map raise (M g) ++ y ∷ P g)) (headed_line ls w kind_1 head_fits)
                (whiled_line ls b back_edge.kind ∙ ap (λ (z : ℕ). while_line z (L b)) back_edge.level));
            head = headed_coded ls l w cw kind_1 head_fits;
            last = whiled_coded ls l b cb back_edge.kind back_edge.ends;
            behind = coded_back ls l R S n H (g + 1) (omega (arith, within));
            room = H.in_table;
            long = s.2;
            kept = s.1;
          }

    pub do_step_lem : Step ls l R S n (do_tried R S n k) (do_try pre (L w) X)
    unfolding do_tried g
    do_step_lem =
        trying ls l R S n H k g (formed_do R k g) n g F (do_try pre (L w) X) do_try_lem (headed w) (whiled (at R g)) (part R (g + 1) (n - (g + 1)))
        (λ e. ((within e).0, omega (arith, within e))) (λ e. omega (arith, within e, H.in_table)) forms
