-- What a try on rows comes to, whichever region it forms: nothing where there is no goal, and else a region around the rows up to the goal,
-- whose lines are those of the rows formed.
use mathlib.Core.Path.{◌≡◌, refl, sym, ap, subst, ◌∙◌}
use mathlib.Core.Bool.{Bool, true, false, cond, ◌||◌, true≢false}
use mathlib.Core.Option.{Option, none, some}
use mathlib.Core.List.{List, ◌∷◌, ◌++◌, map, append_assoc}
use Prim.Native.Nat.{ℕ, ◌+◌, ◌-◌, ◌≤◌, ◌<◌}
use native.Mathlib.Omega.{arith}
use borrow.Author.Tests.{eq-eqb, lt-leb}
use lib.Dec.{eqb, leb}
use lib.ListN.{length, take, drop}
use Rattle.definition.specs.Lists.{any}
use Rattle.definition.specs.Tokens.{Line}
use Rattle.definition.specs.Passes.{Formed, unless, raise, deep}
use Rattle.definition.proofs.Bools.{by_test}
use Rattle.definition.proofs.Regions.{formed}
use Rattle.definition.proofs.ListLaws.{each_append, ◌▸◌}
use Rattle.outline.specs.Rows.{line_of, lines_of}
use Rattle.outline.specs.Tests.{too_deep}
use Rattle.outline.specs.Spans.{spans_of}
use Rattle.outline.specs.Forming.{raised, deep_in}
use Rattle.passes.specs.Sweeps.{tried_at}
use Rattle.coding.proofs.Coding.{CodedRow, Coded}
use Rattle.coding.proofs.Scanning.{part, some_rows}
use Rattle.coding.proofs.Shapes.{map_length, part_length, part_split}
use Rattle.coding.proofs.Held.{Held, Step, no_region, too_deep_lem, region, map-append, raise_rows, spans_length, coded_front, coded_part, deep_at}

-- the lines of the rows from i up to j
abbrev pub lines_in : List Line → List ℕ → ℕ → ℕ → List Line
lines_in ls R i j = map (line_of ls) (part R i (j - i))

module _ (ls : List Line) (R : List ℕ) where
  pub lines_length : (i j : ℕ) → i ≤ j → j ≤ length R → length (lines_in ls R i j) ≡ j - i
  lines_length i j h q = map_length (line_of ls) (part R i (j - i)) ∙ part_length R i (j - i) (omega arith)

  pub lines_cut : (i j n : ℕ) → i ≤ j → j ≤ n → lines_in ls R i n ≡ lines_in ls R i j ++ lines_in ls R j n
  lines_cut i j n h q = ap (map (line_of ls)) (part_split R i j n h q) ∙ map-append (line_of ls) (part R i (j - i)) (part R j (n - j))

-- the try whose goal is row j of n: M j is the body, and F j what is formed
module _ (M F : ℕ → List Line) (n : ℕ) where
  abbrev out_b : Bool → ℕ → Option Formed
  out_b true j = none
  out_b false j = some (formed (M j) (F j))

  abbrev pub out_at : ℕ → Option Formed
  out_at j = out_b (eqb j n) j

  no_out : none ≡ out_at n
  no_out = sym (ap (λ (b : Bool). out_b b n) (eq-eqb n n refl))

  pub out_none : (j : ℕ) → eqb j n ≡ true → out_at j ≡ none
  out_none j e = ap (λ (b : Bool). out_b b j) e

  pub out_some : (j : ℕ) → eqb j n ≡ false → out_at j ≡ some (formed (M j) (F j))
  out_some j e = ap (λ (b : Bool). out_b b j) e

  -- there is no goal where p does not hold; where it does, it is the row r that the search found, unless it found none, or q forbids it
  pub out_no : (p : Bool) (j : ℕ) → p ≡ false → none ≡ out_at (cond p j n)
  out_no p j e = no_out ∙ sym (ap (λ (b : Bool). out_at (cond b j n)) e)

  pub out_goal : (p : Bool) (r : ℕ) (q : Bool) (o : Option Formed) → p ≡ true → (eqb r n ≡ true → o ≡ none) → (eqb r n ≡ false → o ≡ unless q (M r) (F r))
      → o ≡ out_at (cond p (cond (eqb r n || q) n r) n)
  unfolding unless
  out_goal p r q o e f g = go (eqb r n) refl q g ∙ sym (ap (λ (b : Bool). out_at (cond b (cond (eqb r n || q) n r) n)) e)
    where
      go : (b : Bool) → eqb r n ≡ b → (q : Bool) → (eqb r n ≡ false → o ≡ unless q (M r) (F r)) → o ≡ out_at (cond (b || q) n r)
      go true e q g = f e ∙ no_out
      go false e true g = g e ∙ no_out
      go false e false g = g e ∙ sym (out_some r e)

pub goal_head : (p : Bool) (j n : ℕ) → eqb (cond p j n) n ≡ false → p ≡ true
goal_head true j n e = refl
goal_head false j n e = absurd (true≢false (sym (eq-eqb n n refl) ∙ e))

-- ---- the region on rows
-- the m rows of Q have u at k, the body raised, v and the rest behind it; F are their lines
pub record Forms (ls : List Line) (l : ℕ) (R : List ℕ) (k g : ℕ) (Q : List ℕ) (m : ℕ) (F : List Line) (u v : ℕ) (rest : List ℕ) : Type 0 where
  pub rows : take m Q ≡ (take k R ++ u ∷ map raised (part R (k + 1) (g - (k + 1)))) ++ v ∷ rest
  pub lines : F ≡ map (line_of ls) (take k R) ++ line_of ls u ∷ (map raise (lines_in ls R (k + 1) g) ++ line_of ls v ∷ map (line_of ls) rest)
  pub head : CodedRow ls l u
  pub last : CodedRow ls l v
  pub behind : Coded ls l rest
  pub room : m ≤ length R
  pub long : length Q ≡ length R
  pub kept : drop m Q ≡ drop m R

module _ (ls : List Line) (l : ℕ) (R S : List ℕ) (n : ℕ) (H : Held ls l R S n) (k g : ℕ) (Q : List ℕ) (m : ℕ) (F : List Line) (u v : ℕ) (rest : List ℕ)
    (h : k < g) (w : g ≤ n) (d : deep_in R (k + 1) g ≡ false) (f : Forms ls l R k g Q m F u v rest) where
  abbrev L : ℕ → Line
  L w = line_of ls w

  abbrev body : List ℕ
  body = part R (k + 1) (g - (k + 1))

  up_body : (map L (map raised body) ≡ map raise (map L body)) × Coded ls l (map raised body)
  unfolding deep_in
  up_body =
      raise_rows ls l body (coded_part ls l R S n H (k + 1) g (omega arith) w)
      (sym (some_rows too_deep R (g - (k + 1)) (k + 1) (omega (arith, H.in_table))) ∙ d)

  lines_are : F ≡ lines_of ls (take m Q)
  unfolding lines_of
  lines_are =
      f.lines
      ∙ sym (ap (map L) f.rows ∙ map-append L (take k R ++ u ∷ map raised body) (v ∷ rest)
      ∙ ap (λ (z : List Line). z ++ L v ∷ map L rest) (map-append L (take k R) (u ∷ map raised body))
      ∙ append_assoc (map L (take k R)) (L u ∷ map L (map raised body)) (L v ∷ map L rest)
      ∙ ap (λ (z : List Line). map L (take k R) ++ L u ∷ (z ++ L v ∷ map L rest)) up_body.0)

  new_held : Held ls l Q (spans_of (length S) Q m) m
  new_held = record {
    in_table = omega (arith, f.long, f.room);
    few = omega (arith, f.long, H.few);
    spans = ap (λ (z : ℕ). spans_of z Q m) (ap length H.spans ∙ spans_length l R n);
    coded = subst (Coded ls l) (sym f.rows) (each_append (each_append (coded_front ls l R S n H k (omega arith)) (f.head ▸ up_body.1)) (f.last ▸ f.behind));
  }

-- a try on rows whose goal is g, with room unless the table ends by a
module _ (ls : List Line) (l : ℕ) (R S : List ℕ) (n : ℕ) (H : Held ls l R S n) (k g : ℕ) (Q : List ℕ) (m a : ℕ) (F : ℕ → List Line) (o : Option Formed)
    (is : o ≡ out_at (lines_in ls R (k + 1)) F n g) (u v : ℕ) (rest : List ℕ) where
  pub trying : (eqb g n ≡ false → (k < g) × (g ≤ n)) → (eqb g n ≡ false → a < length R)
      → (eqb g n ≡ false → Forms ls l R k g Q m (F g) u v rest)
      → Step ls l R S m (tried_at (eqb g n) (deep_in R (k + 1) g || leb (length R) a) R S Q m) o
  unfolding tried_at
  trying within room f =
      by_test (eqb g n) (λ e. no_region (rw e) (is ∙ out_none (lines_in ls R (k + 1)) F n g e))
      (λ e. let i = within e in
      let s : o ≡ some (formed (lines_in ls R (k + 1) g) (F g)) = is ∙ out_some (lines_in ls R (k + 1)) F n g e in
      let p : any deep (lines_in ls R (k + 1) g) ≡ deep_in R (k + 1) g = deep_at ls l R S n H (k + 1) g (omega (arith, i)) i.1 in
      by_test (deep_in R (k + 1) g) (λ d. too_deep_lem (rw (e, d)) (formed (lines_in ls R (k + 1) g) (F g)) s (p ∙ d))
      (λ d. region Q (spans_of (length S) Q m) (rw (e, d, lt-leb (length R) a (room e))) (formed (lines_in ls R (k + 1) g) (F g)) s (p ∙ d)
      (lines_are ls l R S n H k g Q m (F g) u v rest i.0 i.1 d (f e)) (new_held ls l R S n H k g Q m (F g) u v rest i.0 i.1 d (f e)) (f e).long (f e).kept))
