-- Each contract of this crate is an equation for the answer or the table, so no second answer meets it.
use mathlib.Core.Path.{◌≡◌, sym, ◌∙◌}
use mathlib.Core.Bool.{Bool}
use mathlib.Core.List.{List}
use Prim.Native.Nat.{ℕ}
use lib.ListN.{length}
use Rattle.outline.specs.declared.rows.Seen.{Seen}
use Rattle.outline.specs.Rows.{kind_of, indent_of, name_of}
use Rattle.outline.specs.Tests.{is_goto, verdict, back_verdict, too_deep}
use Rattle.outline.specs.Spans.{widened, note_row, note_from, spans_of, outside, aimed_out, reached_in}
use Rattle.outline.specs.Forming.{raised, turned, nought, changed_in, inserted, deep_in}

-- ---- numbers
module _ (r s : ℕ) where
  pub kind_of_lem : (w : ℕ) → r ≡ kind_of w → s ≡ kind_of w → r ≡ s
  kind_of_lem w p q = p ∙ sym q

  pub indent_of_lem : (w : ℕ) → r ≡ indent_of w → s ≡ indent_of w → r ≡ s
  indent_of_lem w p q = p ∙ sym q

  pub name_of_lem : (w : ℕ) → r ≡ name_of w → s ≡ name_of w → r ≡ s
  name_of_lem w p q = p ∙ sym q

  pub up : (w : ℕ) → r ≡ raised w → s ≡ raised w → r ≡ s
  up w p q = p ∙ sym q

  pub turn : (v w : ℕ) → r ≡ turned v w → s ≡ turned v w → r ≡ s
  turn v w p q = p ∙ sym q

  pub widen : (e i : ℕ) → r ≡ widened e i → s ≡ widened e i → r ≡ s
  widen e i p q = p ∙ sym q

-- ---- what a row is to a search
module _ (r s : Seen) where
  pub judge : (m d w : ℕ) → r ≡ verdict m d w → s ≡ verdict m d w → r ≡ s
  judge m d w p q = p ∙ sym q

  pub judge_back : (m d w : ℕ) → r ≡ back_verdict m d w → s ≡ back_verdict m d w → r ≡ s
  judge_back m d w p q = p ∙ sym q

-- ---- tests
module _ (r s : Bool) where
  pub is_goto_lem : (w : ℕ) → r ≡ is_goto w → s ≡ is_goto w → r ≡ s
  is_goto_lem w p q = p ∙ sym q

  pub too_deep_lem : (w : ℕ) → r ≡ too_deep w → s ≡ too_deep w → r ≡ s
  too_deep_lem w p q = p ∙ sym q

  pub deep_in_lem : (R : List ℕ) (i j : ℕ) → r ≡ deep_in R i j → s ≡ deep_in R i j → r ≡ s
  deep_in_lem R i j p q = p ∙ sym q

  pub is_outside : (e a b : ℕ) → r ≡ outside e a b → s ≡ outside e a b → r ≡ s
  is_outside e a b p q = p ∙ sym q

  pub aimed_out_lem : (S : List ℕ) (a b w : ℕ) → r ≡ aimed_out S a b w → s ≡ aimed_out S a b w → r ≡ s
  aimed_out_lem S a b w p q = p ∙ sym q

  pub reached : (R S : List ℕ) (i j a b : ℕ) → r ≡ reached_in R S i j a b → s ≡ reached_in R S i j a b → r ≡ s
  reached R S i j a b p q = p ∙ sym q

-- ---- tables
module _ (R R₁ R₂ : List ℕ) where
  pub raise : (a b : ℕ) → R₁ ≡ changed_in raised R a b → R₂ ≡ changed_in raised R a b → R₁ ≡ R₂
  raise a b p q = p ∙ sym q

  pub clear : (a b : ℕ) → R₁ ≡ changed_in nought R a b → R₂ ≡ changed_in nought R a b → R₁ ≡ R₂
  clear a b p q = p ∙ sym q

  pub insert_row : (n j v : ℕ) → R₁ ≡ inserted R n j v → R₂ ≡ inserted R n j v → R₁ ≡ R₂
  insert_row n j v p q = p ∙ sym q

  pub note_row_lem : (w i : ℕ) → R₁ ≡ note_row R w i → R₂ ≡ note_row R w i → R₁ ≡ R₂
  note_row_lem w i p q = p ∙ sym q

  pub note_rows : (Q : List ℕ) (n : ℕ) → R₁ ≡ note_from Q 0 n R → R₂ ≡ note_from Q 0 n R → R₁ ≡ R₂
  note_rows Q n p q = p ∙ sym q

  pub note : (Q : List ℕ) (n : ℕ) → R₁ ≡ spans_of (length R) Q n → R₂ ≡ spans_of (length R) Q n → R₁ ≡ R₂
  note Q n p q = p ∙ sym q
