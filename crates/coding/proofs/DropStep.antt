-- Dropping on rows is dropping on their lines: a label is kept where its span is not empty, and then some line aims at it.
use mathlib.Core.Path.{◌≡◌, refl, sym, ap, ap₂, ◌∙◌}
use mathlib.Core.Bool.{Bool, true, false, not, cond, ◌&&◌, ◌||◌}
use mathlib.Core.Option.{Option, none, some}
use mathlib.Core.List.{List, ◌∷◌, ◌++◌, map, append-nil}
use Prim.Native.Nat.{ℕ, ◌-◌}
use native.Mathlib.Omega.{arith}
use lib.ListN.{take}
use Rattle.definition.specs.Lists.{only, has, at}
use Rattle.definition.specs.Tokens.{Line}
use Rattle.definition.specs.Sorts.{sort}
use Rattle.definition.specs.Passes.{label_name, aimed, kept, drop_unused_labels}
use Rattle.definition.proofs.SortLaws.{label_sort}
use Rattle.definition.proofs.ListLaws.{Each, ◌▸◌, end}
use Rattle.outline.specs.Rows.{name_of, line_of, lines_of}
use Rattle.outline.specs.Spans.{outside, aimed_out}
use Rattle.passes.specs.Dropping.{kept_row, kept_rows}
use Rattle.coding.proofs.Coding.{CodedRow, label_row}
use Rattle.coding.proofs.Scanning.{part}
use Rattle.coding.proofs.Held.{Held, aimed_at_lem}

only_lines : (ls : List Line) (A : ℕ → Type 0) (p : Line → Bool) (q : ℕ → Bool) → ((w : ℕ) → A w → p (line_of ls w) ≡ q w)
    → {ws : List ℕ} → Each A ws → only p (map (line_of ls) ws) ≡ map (line_of ls) (only q ws)
unfolding only
only_lines ls A p q f end = refl
only_lines ls A p q f (◌▸◌ {x = w} {xs = ws} a r) =
    ap₂ (λ (b : Bool) (z : List Line). cond b (line_of ls w ∷ z) z) (f w a) (only_lines ls A p q f r) ∙ go (q w)
  where
    go : (b : Bool) → cond b (line_of ls w ∷ map (line_of ls) (only q ws)) (map (line_of ls) (only q ws)) ≡ map (line_of ls) (cond b (w ∷ only q ws) (only q ws))
    go true = refl
    go false = refl

module _ (ls : List Line) (l : ℕ) (R S : List ℕ) (n : ℕ) (H : Held ls l R S n) where
  abbrev lines : List Line
  lines = map (line_of ls) (take n R)

  all_rows : map (line_of ls) (take n R ++ part R n (n - n)) ≡ lines
  all_rows = let e : n - n ≡ 0 = omega arith in ap (λ (k : ℕ). map (line_of ls) (take n R ++ part R n k)) e ∙ ap (map (line_of ls)) (append-nil (take n R))

  kept_row_lem : (w : ℕ) → CodedRow ls l w → (o : Option (List ℕ)) → label_name (sort (line_of ls w)) ≡ o → kept lines o ≡ kept_row S n w
  unfolding kept kept_row aimed_out has
  kept_row_lem w c none e = sym (ap (λ (b : Bool). not b || (b && outside (at S (name_of w)) n n)) (sym (label_row ls l w c) ∙ ap has e))
  kept_row_lem w c (some u) e =
      ap (aimed u) (sym all_rows) ∙ aimed_at_lem ls l R S n H n n (omega arith) (omega arith) w u c (label_sort (sort (line_of ls w)) u e)
      ∙ sym (ap (λ (b : Bool). not b || (b && outside (at S (name_of w)) n n)) (sym (label_row ls l w c) ∙ ap has e))

  pub drop_lines : drop_unused_labels (lines_of ls (take n R)) ≡ lines_of ls (kept_rows R l n)
  unfolding drop_unused_labels lines_of kept_rows
  drop_lines =
      only_lines ls (CodedRow ls l) (λ x. kept lines (label_name (sort x))) (kept_row S n) (λ w c. kept_row_lem w c (label_name (sort (line_of ls w))) refl) H.coded
      ∙ ap (λ (T : List ℕ). map (line_of ls) (only (kept_row T n) (take n R))) H.spans
