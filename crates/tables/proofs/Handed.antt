-- An answer of 0 says that the file is sound and that no sum is outside; each table that is handed out is then what the definition says.
use mathlib.Core.Path.{◌≡◌, refl, sym, ◌∙◌}
use mathlib.Core.Bool.{Bool, true, false, cond}
use mathlib.Core.List.{List}
use Prim.Native.Nat.{ℕ}
use native.Mathlib.Omega.{arith}
use lib.Dec.{eqb}
use lib.ListN.{length, replicate, length-replicate}
use borrow.Author.Tests.{eqb-true}
use Rattle.definition.specs.Edition.{Edition, edition1}
use Rattle.definition.specs.Read.{read}
use Rattle.definition.specs.Classes.{classes}
use Rattle.definition.specs.Inline.{reads_of, inline}
use Rattle.definition.specs.Listing.{checked}
use Rattle.definition.proofs.Bools.{by_test}
use Rattle.values.specs.Tables.{numbered, table}
use Rattle.reads.specs.Counts.{LiveReads, PhiReads}
use Rattle.inline.specs.Placing.{place_of}
use Rattle.names.specs.Codes.{name_code}
use Rattle.analyses.specs.Sound.{Sound}
use Rattle.analyses.proofs.Sound.{sound}
use Rattle.tables.specs.Tables.{Tables, most, zeros, cleared, long}
use Rattle.tables.specs.Filled.{judged, answer, given, Filled}
use Rattle.tables.specs.Stages.{Rooted, Stacked, Marked, Blank}
use Rattle.definition.proofs.ListLaws.{zeros_long}
use Rattle.tables.proofs.Emptying.{clear_twice, long_cleared}
use Rattle.tables.proofs.Blanks.{blank}

-- of two answers the first was chosen, as the other is not 0
pub chosen : (b : Bool) (n : ℕ) → 0 ≡ cond b n 1 → (b ≡ true) × (n ≡ 0)
chosen true n e = (refl, sym e)
chosen false n e = absurd (omega arith)

none_refused : (f : List ℕ) → judged f ≡ 0 → checked edition1 f ≡ 0
unfolding judged
none_refused f h = by_test (eqb (checked edition1 f) 0) (λ e. eqb-true (checked edition1 f) 0 e) (λ e. rw e at h)

got : (l t : List ℕ) → given 0 l t ≡ t
unfolding given
got l t = refl

module _ (f : List ℕ) (T T' : Tables) (p : Filled f 0 T T') where
  judged_none : (long T ≡ true) × (judged f ≡ 0)
  unfolding answer
  judged_none = chosen (long T) (judged f) p.says

  pub file_checked : checked edition1 f ≡ 0
  file_checked = none_refused f judged_none.1

  pub file_sound : Sound f
  file_sound = sound f file_checked

  -- the tables have their lengths
  pub all_blank : Blank most (cleared T)
  all_blank = blank (cleared T) (long_cleared T ∙ judged_none.0) (sym (clear_twice T))

  as_long : (l : List ℕ) (n : ℕ) → zeros l ≡ replicate n 0 → length l ≡ n
  unfolding zeros
  as_long l n e = sym (length-replicate (length l) 0) ∙ zeros_long (replicate (length l) 0) n e

  pub numbers_long : length T.numbers ≡ most
  unfolding cleared
  numbers_long = as_long T.numbers most all_blank.unvalued.no_numbers

  pub labels_long : length T.labels ≡ 320
  unfolding cleared
  labels_long = as_long T.labels 320 all_blank.unmarked.no_labels

  pub numbers_are : T'.numbers ≡ numbered f most
  numbers_are = p.tables.numbers ∙ got T.numbers _

  pub offs_are : Stacked f most T'.offs
  offs_are E e = p.tables.offs E e ∙ got T.offs _

  pub live_are : LiveReads f most T'.live
  live_are E = p.tables.live E ∙ got T.live _

  pub phi_are : PhiReads f most T'.phi
  phi_are E = p.tables.phi E ∙ got T.phi _

  pub roots_are : Rooted f most T'.roots
  roots_are E = p.tables.roots E ∙ got T.roots _

  pub places_are : (E : Edition) → T'.places ≡ table f most (place_of E f)
  places_are E = p.tables.places E ∙ got T.places _

  pub names_are : (E : Edition) → T'.names ≡ table f most (name_code (read E f) (classes (read E f)) (inline (read E f) (reads_of (read E f))))
  names_are E = p.tables.names E ∙ got T.names _

  pub marked_are : Marked f most T'.marks T'.labels
  marked_are = record {
    really = λ E e. p.tables.marks E e ∙ got T.marks _;
    labelled = λ E. p.tables.labels E ∙ got T.labels _;
  }
