-- The scans over rows are the scans over their lines: by induction on the rows that are left, as the loops run.
use mathlib.Core.Path.{◌≡◌, refl, sym, ap, ap₂, subst, ◌∙◌}
use mathlib.Core.Bool.{Bool, true, false, cond, ◌&&◌, ◌||◌}
use mathlib.Core.Option.{Option, none, some}
use mathlib.Core.List.{List, [], ◌∷◌, map}
use mathlib.Core.Logic.{◌⊎◌}
use Prim.Native.Nat.{ℕ, zero, suc, ◌+◌, ◌-◌, ◌≤◌, ◌<◌}
use native.Mathlib.Omega.{arith}
use borrow.Author.Tests.{eq-eqb, ne_eqb}
use lib.Dec.{eqb}
use lib.ListN.{length, get_or, take, drop}
use lib.Seq.{drop-cons}
use Rattle.definition.specs.Lists.{any, at}
use Rattle.definition.specs.Tokens.{Line}
use Rattle.definition.specs.Passes.{Cut, cons_cut, scan_at, scan, Back, back_at, last_back, closer, named as named_line, backs as backs_line, stops as stops_line}
use Rattle.definition.proofs.ListLaws.{each_head, each_tail}
use Rattle.outline.specs.declared.rows.Seen.{Seen}
use Rattle.outline.specs.declared.rows.Seen.TheVariants.{Pass, Hit, End}
use Rattle.outline.specs.Rows.{indent_of, line_of}
use Rattle.outline.specs.Tests.{labels, backs, stops, verdict, back_verdict, along, some_row}
use Rattle.passes.specs.Regions.{onward, label_from, latest, back_from}
use Rattle.passes.proofs.Goals.{within, onward_one, latest_one}
use Rattle.coding.proofs.Coding.{Aims, CodedRow, Coded, indent_is, named_row, stops_row}

-- f rows from row j on
abbrev pub part : List ℕ → ℕ → ℕ → List ℕ
part R j f = take f (drop j R)

pub part_cons : (R : List ℕ) (j f : ℕ) → j < length R → part R j (suc f) ≡ at R j ∷ part R (suc j) f
unfolding at
part_cons R j f h = ap (take (suc f)) (drop-cons R j 0 h)

-- ---- a test of each row
pub some_rows : (p : ℕ → Bool) (R : List ℕ) (f j : ℕ) → j + f ≤ length R → some_row p R j f ≡ any p (part R j f)
unfolding some_row along any
some_rows p R zero j h = refl
some_rows p R (suc f) j h = ap (λ (b : Bool). p (at R j) || b) (some_rows p R f (suc j) (omega arith)) ∙ ap (any p) (sym (part_cons R j f (omega arith)))

-- ---- the scan for a label
-- none where the place is the end; else what stands up to it, and from it on
abbrev pub cut_b : Bool → ℕ → List Line → Option Cut
cut_b true p X = none
cut_b false p X = some (record { mid = take p X; post = drop p X })

cut_on : (x : Line) (X : List Line) (j r : ℕ) → suc j ≤ r → (b : Bool) → cons_cut x (cut_b b (r - suc j) X) ≡ cut_b b (r - j) (x ∷ X)
unfolding cons_cut
cut_on x X j r h true = refl
cut_on x X j r h false = let e : r - j ≡ suc (r - suc j) = omega arith in sym (ap (λ (p : ℕ). cut_b false p (x ∷ X)) e)

scan_turn : (x : Line) (X : List Line) (j n r : ℕ) → j < n → suc j ≤ r → (h s : Bool)
    → scan_at h s x X (cut_b (eqb r n) (r - suc j) X) ≡ cut_b (eqb (onward (cond h Hit (cond s End Pass)) j n r) n) (onward (cond h Hit (cond s End Pass)) j n r - j) (x ∷ X)
unfolding scan_at onward
scan_turn x X j n r l h true s = let e : j - j ≡ 0 = omega arith in sym (ap₂ (λ (b : Bool) (p : ℕ). cut_b b p (x ∷ X)) (ne_eqb j n (omega arith)) e)
scan_turn x X j n r l h false true = sym (ap (λ (b : Bool). cut_b b (n - j) (x ∷ X)) (eq-eqb n n refl))
scan_turn x X j n r l h false false = cut_on x X j r h (eqb r n)

-- ---- the search for the last back edge
abbrev pub back_b : Bool → ℕ → List Line → Option Back
back_b true p X = none
back_b false p X = some (record { mid = take p X; back = get_or X p (closer 0); post = drop (suc p) X })

back_past : (x : Line) (X : List Line) (h : Bool) (j r : ℕ) → suc j ≤ r → back_at false h x X (back_b false (r - suc j) X) ≡ back_b false (r - j) (x ∷ X)
unfolding back_at
back_past x X h j r w = let e : r - j ≡ suc (r - suc j) = omega arith in sym (ap (λ (p : ℕ). back_b false p (x ∷ X)) e)

back_turn : (x : Line) (X : List Line) (j n r : ℕ) → j < n → suc j ≤ r → (s h : Bool)
    → back_at s h x X (back_b (eqb r n) (r - suc j) X) ≡ back_b (eqb (latest (cond s End (cond h Hit Pass)) j n r) n) (latest (cond s End (cond h Hit Pass)) j n r - j) (x ∷ X)
unfolding latest back_at
back_turn x X j n r l w true h = sym (ap (λ (b : Bool). back_b b (n - j) (x ∷ X)) (eq-eqb n n refl))
back_turn x X j n r l w false false = go (eqb r n)
  where
    go : (b : Bool) → back_at false false x X (back_b b (r - suc j) X) ≡ back_b b (r - j) (x ∷ X)
    go true = refl
    go false = back_past x X false j r w
back_turn x X j n r l w false true = go (eqb r n) refl
  where
    go : (b : Bool) → eqb r n ≡ b → back_at false true x X (back_b b (r - suc j) X) ≡ back_b (eqb (cond b j r) n) (cond b j r - j) (x ∷ X)
    go true e = let z : j - j ≡ 0 = omega arith in sym (ap₂ (λ (b : Bool) (p : ℕ). back_b b p (x ∷ X)) (ne_eqb j n (omega arith)) z)
    go false e = back_past x X true j r w ∙ ap (λ (b : Bool). back_b b (r - j) (x ∷ X)) (sym e)

module _ (ls : List Line) (l : ℕ) (R : List ℕ) (n : ℕ) (in_table : n ≤ length R) where
  abbrev L : ℕ → Line
  L w = line_of ls w

  -- a search that finds nothing in no lines, and at each row acts on what the row says
  module _ {C : Type 0} (search : List Line → Option C) (out : Bool → ℕ → List Line → Option C) (act : Seen → ℕ → ℕ → ℕ → ℕ) (says : ℕ → Seen)
      (one : (v : Seen) (i r : ℕ) → (act v i n r ≡ i) ⊎ ((act v i n r ≡ n) ⊎ (act v i n r ≡ r))) (nothing : (p : ℕ) → search [] ≡ out true p [])
      (turn : (w : ℕ) → CodedRow ls l w → (X : List Line) (j r : ℕ) → j < n → suc j ≤ r → search X ≡ out (eqb r n) (r - suc j) X
      → search (L w ∷ X) ≡ out (eqb (act (says w) j n r) n) (act (says w) j n r - j) (L w ∷ X)) where
    abbrev from : ℕ → ℕ → ℕ
    from j f = along (λ i w r. act (says w) i n r) n R j f

    search_rows : (f j : ℕ) → j + f ≡ n → Coded ls l (part R j f) → search (map L (part R j f)) ≡ out (eqb (from j f) n) (from j f - j) (map L (part R j f))
    unfolding along
    search_rows zero j e c = nothing (n - j) ∙ sym (ap (λ (b : Bool). out b (n - j) []) (eq-eqb n n refl))
    search_rows (suc f) j e c =
        let q : part R j (suc f) ≡ at R j ∷ part R (suc j) f = part_cons R j f (omega arith) in
        let k : Coded ls l (at R j ∷ part R (suc j) f) = subst (Coded ls l) q c in
        ap (λ (z : List ℕ). search (map L z)) q
        ∙ turn (at R j) (each_head k) (map L (part R (suc j) f)) j (from (suc j) f) (omega arith) (within act says n R one f (suc j) (omega arith)).0
        (search_rows f (suc j) (omega arith) (each_tail k))
        ∙ ap (λ (z : List ℕ). out (eqb (from j (suc f)) n) (from j (suc f) - j) (map L z)) (sym q)

  module _ (t : List ℕ) (m d : ℕ) (a : Aims ls t m) where
    pub scan_rows : (f j : ℕ) → j + f ≡ n → Coded ls l (part R j f)
        → scan t d (map L (part R j f)) ≡ cut_b (eqb (label_from n m d R j f) n) (label_from n m d R j f - j) (map L (part R j f))
    unfolding scan label_from verdict
    scan_rows =
        search_rows (scan t d) cut_b onward (verdict m d) (onward_one n) (λ p. refl)
        (λ w c X j r h le e. ap (scan_at (named_line t (L w) && eqb (suc (L w).indent) d) (stops_line d (L w)) (L w) X) e
        ∙ ap₂ (λ (h s : Bool). scan_at h s (L w) X (cut_b (eqb r n) (r - suc j) X))
        (ap₂ (λ (b : Bool) (x : ℕ). b && eqb (suc x) d) (named_row ls l w c t m a) (indent_is ls w)) (stops_row ls l w c d)
        ∙ scan_turn (L w) X j n r h le (labels m w && eqb (suc (indent_of w)) d) (stops d w))

  module _ (t : List ℕ) (m d : ℕ) (bk : (w : ℕ) → CodedRow ls l w → backs_line t (L w) ≡ backs m w) where
    pub back_rows : (f j : ℕ) → j + f ≡ n → Coded ls l (part R j f)
        → last_back t d (map L (part R j f)) ≡ back_b (eqb (back_from n m d R j f) n) (back_from n m d R j f - j) (map L (part R j f))
    unfolding last_back back_from back_verdict
    back_rows =
        search_rows (last_back t d) back_b latest (back_verdict m d) (latest_one n) (λ p. refl)
        (λ w c X j r h le e. ap (back_at (stops_line d (L w)) (eqb (L w).indent d && backs_line t (L w)) (L w) X) e
        ∙ ap₂ (λ (s h : Bool). back_at s h (L w) X (back_b (eqb r n) (r - suc j) X)) (stops_row ls l w c d)
        (ap₂ (λ (x : ℕ) (b : Bool). eqb x d && b) (indent_is ls w) (bk w c))
        ∙ back_turn (L w) X j n r h le (stops d w) (eqb (indent_of w) d && backs m w))
