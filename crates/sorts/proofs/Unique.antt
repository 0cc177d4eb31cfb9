-- Each contract of this crate is an equation for the answer, or for what is read at the place answered, so no second answer meets it.
use mathlib.Core.Path.{◌≡◌, refl, sym, ◌∙◌}
use mathlib.Core.Bool.{Bool}
use mathlib.Core.List.{List}
use Prim.Native.Nat.{ℕ, ◌-◌}
use native.Mathlib.Omega.{arith}
use Rattle.std.specs.Prelude.{Option, Some, None}
use Rattle.definition.specs.Texts.{txt}
use Rattle.definition.specs.Tokens.{keyword}
use Rattle.definition.specs.Sorts.{is_label, first_is, goto_target}
use Rattle.definition.proofs.Unique.{equation}
use Rattle.sheet.specs.Buffers.{text_at, tokens_in}
use Rattle.sorts.specs.Places.{target_text}
use Rattle.sorts.specs.Sorted.{number_of, label_number, lines_in, sorted}

same_number : (r s : Option ℕ) → number_of r ≡ number_of s → r ≡ s
same_number (Some i) (Some j) e = cc
same_number (Some i) None e = absurd (omega arith)
same_number None (Some j) e = absurd (omega arith)
same_number None None e = refl

module _ (ks t : List ℕ) (a e : ℕ) where
  pub is_label_lem : (r s : Bool) → r ≡ is_label (tokens_in ks t a (e - a)) → s ≡ is_label (tokens_in ks t a (e - a)) → r ≡ s
  is_label_lem = equation (is_label (tokens_in ks t a (e - a)))

  pub is_if : (r s : Bool) → r ≡ first_is (keyword (txt "if")) (tokens_in ks t a (e - a)) → s ≡ first_is (keyword (txt "if")) (tokens_in ks t a (e - a)) → r ≡ s
  is_if = equation (first_is (keyword (txt "if")) (tokens_in ks t a (e - a)))

  -- two places with the same name, or none twice
  pub goto_target_lem : (r s : Option ℕ) → target_text ks t r ≡ goto_target (tokens_in ks t a (e - a)) → target_text ks t s ≡ goto_target (tokens_in ks t a (e - a))
      → target_text ks t r ≡ target_text ks t s
  goto_target_lem r s = equation (goto_target (tokens_in ks t a (e - a))) (target_text ks t r) (target_text ks t s)

pub find_label : (ls ks t : List ℕ) (n p : ℕ) (r s : Option ℕ) → number_of r ≡ label_number (text_at ks t p) (lines_in ls ks t n)
    → number_of s ≡ label_number (text_at ks t p) (lines_in ls ks t n) → r ≡ s
find_label ls ks t n p r s a b = same_number r s (a ∙ sym b)

pub sorts_rows : (ls ks t : List ℕ) (n : ℕ) (R S T : List ℕ) → S ≡ sorted ls ks t n R → T ≡ sorted ls ks t n R → S ≡ T
sorts_rows ls ks t n R = equation (sorted ls ks t n R)
