-- Each contract of this crate is an equation for the answer, so no second answer meets it.
use mathlib.Core.Path.{◌≡◌, sym, ◌∙◌}
use mathlib.Core.Bool.{Bool}
use mathlib.Core.List.{List}
use Prim.Native.Nat.{ℕ}
use lib.ListN.{length, drop}
use Rattle.definition.specs.Words.{word, long, part}
use Rattle.definition.specs.Texts.{same, begins, contains}

pub word_at : (f : List ℕ) (i r s : ℕ) → r ≡ word f i → s ≡ word f i → r ≡ s
word_at f i r s p q = p ∙ sym q

pub long_at : (f : List ℕ) (i r s : ℕ) → r ≡ long f i → s ≡ long f i → r ≡ s
long_at f i r s p q = p ∙ sym q

pub same_text : (s t : List ℕ) (a b : Bool) → a ≡ same s t → b ≡ same s t → a ≡ b
same_text s t a b p q = p ∙ sym q

pub begins_at : (w s : List ℕ) (i : ℕ) (a b : Bool) → a ≡ begins w (drop i s) → b ≡ begins w (drop i s) → a ≡ b
begins_at w s i a b p q = p ∙ sym q

pub contains_text : (w s : List ℕ) (a b : Bool) → a ≡ contains w s → b ≡ contains w s → a ≡ b
contains_text w s a b p q = p ∙ sym q

pub part_size : (f : List ℕ) (at n r s : ℕ) → r ≡ length (part f at n) → s ≡ length (part f at n) → r ≡ s
part_size f at n r s p q = p ∙ sym q
