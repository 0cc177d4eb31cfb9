-- Each contract of this crate but that of Edition::first is an equation for the answer, so no second answer meets it.
use mathlib.Core.Path.{◌≡◌, sym, ◌∙◌}
use mathlib.Core.Bool.{Bool}
use mathlib.Core.List.{List}
use Prim.Native.Nat.{ℕ}
use Rattle.definition.specs.Contents.{contents, text, offset, size, place, arg_at, block_word, phi_word, input_at, stmt_word, item_word, expr_word, name_word}
use Rattle.definition.specs.Contents.{block_long, stmt_long, expr_long, name_long}
use Rattle.definition.specs.Owners.{stmt_kind, stmt_field, expr_items, value_items, items, block_phis, block_stmts, phi_inputs}
use Rattle.definition.specs.Read.{marked}
use Rattle.std.specs.Prelude.{Option}
use Rattle.records.specs.declared.edition.Edition.{Edition}
use Rattle.records.specs.declared.kinds.Kind.{Kind}
use Rattle.records.specs.declared.kinds.Tag.{Tag}
use Rattle.records.specs.Kinds.{kind_of, tag_of}
use Rattle.records.specs.Editions.{edition_of, words_at, limit_at}

module _ (e : Edition) (r s : ℕ) where
  pub contents_bytes : r ≡ contents (edition_of e) → s ≡ contents (edition_of e) → r ≡ s
  contents_bytes p q = p ∙ sym q

  pub text_section_lem : r ≡ text (edition_of e) → s ≡ text (edition_of e) → r ≡ s
  text_section_lem p q = p ∙ sym q

  pub words_at_lem : (t : ℕ) → r ≡ words_at e t → s ≡ words_at e t → r ≡ s
  words_at_lem t p q = p ∙ sym q

  pub limit_at_lem : (t : ℕ) → r ≡ limit_at e t → s ≡ limit_at e t → r ≡ s
  limit_at_lem t p q = p ∙ sym q

module _ (f : List ℕ) (i r s : ℕ) where
  pub offset_of : r ≡ offset f i → s ≡ offset f i → r ≡ s
  offset_of p q = p ∙ sym q

  pub size_of : r ≡ size f i → s ≡ size f i → r ≡ s
  size_of p q = p ∙ sym q

  pub arg_at_lem : r ≡ arg_at f i → s ≡ arg_at f i → r ≡ s
  arg_at_lem p q = p ∙ sym q

  pub block_word_lem : (k : ℕ) → r ≡ block_word f i k → s ≡ block_word f i k → r ≡ s
  block_word_lem k p q = p ∙ sym q

  pub phi_word_lem : (k : ℕ) → r ≡ phi_word f i k → s ≡ phi_word f i k → r ≡ s
  phi_word_lem k p q = p ∙ sym q

  pub input_at_lem : r ≡ input_at f i → s ≡ input_at f i → r ≡ s
  input_at_lem p q = p ∙ sym q

  pub stmt_word_lem : (k : ℕ) → r ≡ stmt_word f i k → s ≡ stmt_word f i k → r ≡ s
  stmt_word_lem k p q = p ∙ sym q

  pub item_word_lem : (k : ℕ) → r ≡ item_word f i k → s ≡ item_word f i k → r ≡ s
  item_word_lem k p q = p ∙ sym q

  pub expr_word_lem : (k : ℕ) → r ≡ expr_word f i k → s ≡ expr_word f i k → r ≡ s
  expr_word_lem k p q = p ∙ sym q

  pub name_word_lem : (k : ℕ) → r ≡ name_word f i k → s ≡ name_word f i k → r ≡ s
  name_word_lem k p q = p ∙ sym q

  pub block_long_lem : (k : ℕ) → r ≡ block_long f i k → s ≡ block_long f i k → r ≡ s
  block_long_lem k p q = p ∙ sym q

  pub stmt_long_lem : (k : ℕ) → r ≡ stmt_long f i k → s ≡ stmt_long f i k → r ≡ s
  stmt_long_lem k p q = p ∙ sym q

  pub expr_long_lem : (k : ℕ) → r ≡ expr_long f i k → s ≡ expr_long f i k → r ≡ s
  expr_long_lem k p q = p ∙ sym q

  pub name_long_lem : (k : ℕ) → r ≡ name_long f i k → s ≡ name_long f i k → r ≡ s
  name_long_lem k p q = p ∙ sym q

  pub stmt_kind_lem : r ≡ stmt_kind f i → s ≡ stmt_kind f i → r ≡ s
  stmt_kind_lem p q = p ∙ sym q

  pub stmt_field_lem : (k : ℕ) → r ≡ stmt_field f i k → s ≡ stmt_field f i k → r ≡ s
  stmt_field_lem k p q = p ∙ sym q

  pub expr_items_lem : r ≡ expr_items f i → s ≡ expr_items f i → r ≡ s
  expr_items_lem p q = p ∙ sym q

  pub value_items_lem : r ≡ value_items f i → s ≡ value_items f i → r ≡ s
  value_items_lem p q = p ∙ sym q

  pub items_of : r ≡ items f i → s ≡ items f i → r ≡ s
  items_of p q = p ∙ sym q

  pub block_phis_lem : r ≡ block_phis f i → s ≡ block_phis f i → r ≡ s
  block_phis_lem p q = p ∙ sym q

  pub block_stmts_lem : r ≡ block_stmts f i → s ≡ block_stmts f i → r ≡ s
  block_stmts_lem p q = p ∙ sym q

  pub phi_inputs_lem : r ≡ phi_inputs f i → s ≡ phi_inputs f i → r ≡ s
  phi_inputs_lem p q = p ∙ sym q

pub kind_at_lem : (f : List ℕ) (i : ℕ) (r s : Option Kind) → r ≡ kind_of (stmt_kind f i) → s ≡ kind_of (stmt_kind f i) → r ≡ s
kind_at_lem f i r s p q = p ∙ sym q

pub tag_at_lem : (f : List ℕ) (i : ℕ) (r s : Option Tag) → r ≡ tag_of (expr_word f i 0) → s ≡ tag_of (expr_word f i 0) → r ≡ s
tag_at_lem f i r s p q = p ∙ sym q

-- a number of a record, however it is read
pub field : {A : Type 0} (at : List ℕ → ℕ → A) (f : List ℕ) (t w i k : ℕ) (r s : A) → r ≡ at f (place f t w i k) → s ≡ at f (place f t w i k) → r ≡ s
field at f t w i k r s p q = p ∙ sym q

module _ (f : List ℕ) (i : ℕ) (r s : Bool) where
  pub is_dead : r ≡ marked f i 1 → s ≡ marked f i 1 → r ≡ s
  is_dead p q = p ∙ sym q

  pub is_pushed : r ≡ marked f i 4 → s ≡ marked f i 4 → r ≡ s
  is_pushed p q = p ∙ sym q
