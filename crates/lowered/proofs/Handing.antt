-- An answer of 0 behind tests that hold is what lowering asks: the tables have their lengths, the file is sound and shaped, and each table is its own.
use mathlib.Core.Path.{◌≡◌, refl, sym, ap, subst, ◌∙◌}
use mathlib.Core.Bool.{Bool, true, cond, ◌&&◌}
use mathlib.Core.List.{List}
use Prim.Native.Nat.{ℕ}
use native.Mathlib.Omega.{arith}
use lib.ListN.{length, get_or, replicate}
use mir.Syntax.{w8}
use mir.Val.{Fits}
use borrow.Author.Tests.{not-false}
use Rattle.definition.specs.Edition.{Edition, edition1}
use Rattle.definition.specs.Contents.{contents, text}
use Rattle.definition.specs.Shape.{adjoin, owned, shaped, refused2, refused3, refused4}
use Rattle.definition.specs.Read.{read}
use Rattle.definition.specs.Offsets.{look, offsets}
use Rattle.definition.specs.Classes.{find, classes}
use Rattle.definition.specs.Inline.{reads_of, inline}
use Rattle.definition.specs.Values.{within}
use Rattle.definition.specs.Blocks.{read_roots}
use Rattle.definition.specs.Listing.{checked}
use Rattle.definition.proofs.Bools.{both_true, passed}
use Rattle.definition.proofs.ListLaws.{own_zeros}
use Rattle.places.specs.Keys.{key_of, places_of, keyed}
use Rattle.values.specs.Tables.{number_of, numbered, table}
use Rattle.reads.specs.Counts.{LiveReads, PhiReads}
use Rattle.inline.specs.Placing.{place_of}
use Rattle.names.specs.Codes.{name_code}
use Rattle.sums.specs.Ground.{Ground}
use Rattle.labels.specs.Labels.{Labels}
use Rattle.lower.specs.Given.{Lowers}
use Rattle.tables.specs.Tables.{Tables, most}
use Rattle.tables.specs.Filled.{Filled}
use Rattle.tables.proofs.Handed.{chosen, file_checked, file_sound, numbers_long, labels_long, numbers_are, offs_are, live_are, phi_are, roots_are, places_are, names_are, marked_are}
use Rattle.lent.proofs.Fitting.{three_long}
use Rattle.lent.specs.Lengths.{lent_of, low_fits}
use Rattle.lowered.specs.Passed.{Passes}
use Rattle.lowered.proofs.Rereading.{read_again}
use Rattle.lowered.proofs.Clearing.{section}

is_shaped : (f : List ℕ) → checked edition1 f ≡ 0 → shaped f ≡ true
unfolding checked refused4
is_shaped f h =
    let p3 = (passed (refused2 edition1 f) 2 _ (omega arith) h).1 in
    let p4 = (passed (refused3 edition1 f) 3 _ (omega arith) p3).1 in
    let p5 = (passed (refused4 edition1 f) 4 _ (omega arith) p4).0 in
    (both_true (adjoin f (contents edition1) 0 edition1.sections && owned f) (shaped f) (not-false _ p5)).1

-- ---- the tables
module _ (f : List ℕ) (bytes : (j : ℕ) → Fits w8 (get_or f j 0)) (T T' : Tables) (ns : length T'.numbers ≡ length T.numbers)
    (ls : length T'.labels ≡ length T.labels) (p : Filled f 0 T T') where
  numbers_most : length T'.numbers ≡ most
  numbers_most = ns ∙ numbers_long f T T' p

  labels_most : length T'.labels ≡ 320
  labels_most = ls ∙ labels_long f T T' p

  abbrev n : ℕ
  n = length T'.numbers

  ground : Ground f T'.numbers (places_of f)
  ground =
      let S = file_sound f T T' p in
      record {
        counts = S.own;
        where_all = refl;
        room = omega (arith, S.few_places, numbers_most);
        values = numbers_are f T T' p ∙ ap (numbered f) (sym numbers_most);
      }

  known : (E : Edition) → text E ≡ 8 → T'.offs ≡ table f n (look (offsets (read E f)))
  known E e = offs_are f T T' p E e ∙ ap (λ (m : ℕ). table f m (look (offsets (read E f)))) (sym numbers_most)

  rooted : (E : Edition) → T'.roots ≡ table f n (λ v. number_of (keyed f n) (key_of (find (classes (read E f)) v)))
  rooted E = roots_are f T T' p E ∙ ap (λ (m : ℕ). table f m (λ v. number_of (keyed f m) (key_of (find (classes (read E f)) v)))) (sym numbers_most)

  really : (E : Edition) → text E ≡ 8 → T'.marks ≡ table f n (λ v. cond (within v (read_roots (read E f) (offsets (read E f)) (classes (read E f)))) 1 0)
  really E e =
      (marked_are f T T' p).really E e
      ∙ ap (λ (m : ℕ). table f m (λ v. cond (within v (read_roots (read E f) (offsets (read E f)) (classes (read E f)))) 1 0)) (sym numbers_most)

  pub lowers : Lowers f 8 T'.numbers T'.offs T'.places T'.names T'.live T'.phi T'.roots T'.marks T'.labels
  lowers = record {
    told = record {
      ground = ground;
      once = (file_sound f T T' p).once;
      known = known;
      placed = λ E. places_are f T T' p E ∙ ap (λ (m : ℕ). table f m (place_of E f)) (sym numbers_most);
      named = λ E.
          names_are f T T' p E
          ∙ ap (λ (m : ℕ). table f m (name_code (read E f) (classes (read E f)) (inline (read E f) (reads_of (read E f))))) (sym numbers_most);
    };
    shape = is_shaped f (file_checked f T T' p);
    times = subst (λ (m : ℕ). LiveReads f m T'.live) (sym numbers_most) (live_are f T T' p);
    flows = subst (λ (m : ℕ). PhiReads f m T'.phi) (sym numbers_most) (phi_are f T T' p);
    classed = record {
      rooted = rooted;
      read =
          read_again f bytes 8 T'.numbers T'.offs ground T'.roots edition1 (offsets (read edition1 f)) T'.marks section (known edition1 section)
          (rooted edition1) (really edition1 section);
    };
    targets = subst (λ (m : ℕ). Labels f m T'.labels) (sym labels_most) (marked_are f T T' p).labelled;
  }

-- ---- n is the refusal so far: 0 only where both tests hold and s is 0
module _ (ready fit : Bool) (f : List ℕ) (bytes : (j : ℕ) → Fits w8 (get_or f j 0)) (s n : ℕ) (T T' : Tables) (l₀ k₀ x₀ l k x : List ℕ) where
  pub passes : (l ≡ replicate (length l₀) 0) × (k ≡ replicate (length k₀) 0) × (x ≡ replicate (length x₀) 0) → Filled f s T T'
      → length T'.numbers ≡ length T.numbers → length T'.labels ≡ length T.labels → fit ≡ low_fits edition1 (lent_of (length l) (length k) (length x)) → n ≡ cond (ready && fit) s 1
      → Passes f n l k x T'.numbers T'.offs T'.places T'.names T'.live T'.phi T'.roots T'.marks T'.labels
  passes z p ns ls a b = record {
    no_lines = own_zeros l (length l₀) z.0;
    no_tokens = own_zeros k (length k₀) z.1;
    no_text = own_zeros x (length x₀) z.2;
    room = λ e. three_long edition1.lowered (length l) (length k) (length x) (sym a ∙ (both_true ready fit (chosen (ready && fit) s (sym e ∙ b)).0).1);
    given = λ e. lowers f bytes T T' ns ls (subst (λ (m : ℕ). Filled f m T T') (chosen (ready && fit) s (sym e ∙ b)).1 p);
  }
