-- The code's edition is the definition's: as many sections as it says.
use mathlib.Core.Path.{◌≡◌, refl, sym, ap, ◌∙◌}
use Prim.Native.Nat.{ℕ, zero, suc, ◌+◌, ◌*◌, ◌-◌}
use lib.ListN.{length, length-map}
use Rattle.definition.specs.Lists.{range}
use Rattle.definition.specs.Contents.{contents, text}
use Rattle.records.specs.declared.edition.Edition.{Edition}
use Rattle.records.specs.Editions.{section_at, edition_of}

pub length_range : (a n : ℕ) → length (range a n) ≡ n
unfolding range
length_range a zero = refl
length_range a (suc n) = ap suc (length_range (a + 1) n)

pub sections_length : (e : Edition) → length (edition_of e).sections ≡ e.sections
unfolding edition_of
sections_length e = length-map (range 0 e.sections) (section_at e) ∙ length_range 0 e.sections

pub contents_is : (e : Edition) → 16 + 8 * e.sections ≡ contents (edition_of e)
unfolding contents
contents_is e = ap (λ (n : ℕ). 16 + 8 * n) (sym (sections_length e))

pub text_is : (e : Edition) (n : ℕ) → n ≡ e.sections - 1 → n ≡ text (edition_of e)
unfolding text
text_is e n h = h ∙ ap (λ (n : ℕ). n - 1) (sym (sections_length e))
