-- The label that a goto names: a line is the label t where its tokens are a label's and its first token's text is t, and the first such line of the
-- buffers is that of the lines that they hold.
use mathlib.Core.Path.{◌≡◌, refl, sym, ap, ◌∙◌}
use mathlib.Core.Bool.{Bool, true, false, false≢true}
use mathlib.Core.Option.{Option, none, some}
use mathlib.Core.List.{List}
use Prim.Native.Nat.{ℕ, suc, ◌-◌, ◌≤◌, ◌<◌}
use native.Mathlib.Decide.{dec_lt}
use native.Mathlib.Omega.{arith}
use borrow.Author.Tests.{lt-ltb, le-ltb}
use lib.ListN.{length}
use Rattle.std.specs.Prelude.{Option as Place}
use Rattle.definition.specs.Texts.{txt, same}
use Rattle.definition.specs.Tokens.{Token, Line, keyword, punct}
use Rattle.definition.specs.Sorts.{Sort, sort_of, sort_at, sort_rest, sort_jump, is_label, goto_target, first_is, first_text}
use Rattle.definition.specs.Sorts.Sort.{plain, if_open, close, do_open, while_close}
use Rattle.definition.specs.Passes.{label_name, is, named, closer}
use Rattle.definition.proofs.Bools.{by_test, by_cond}
use Rattle.sheet.specs.Buffers.{start_at, end_at, text_at, tokens_in, first_of, last_of, line_in}
use Rattle.sheet.specs.Ranges.{between}
use Rattle.outline.specs.Rows.{line_at}
use Rattle.sorts.specs.Places.{found, first_place}
use Rattle.sorts.specs.Sorted.{named_at, number_of, numbered, label_number, lines_in}
use Rattle.sorts.proofs.Ranges.{below_at, below_length}
use Rattle.sorts.proofs.Searches.{place_same, found_in, found_out}
use Rattle.sorts.proofs.Targets.{label_none, text_first}

-- ---- texts
pub texts_same : (ks t : List ℕ) (i j a b c d : ℕ) (r : Bool) → a ≡ start_at ks i → b ≡ end_at ks i → c ≡ start_at ks j → d ≡ end_at ks j
    → r ≡ same (between t a b) (between t c d) → r ≡ same (text_at ks t i) (text_at ks t j)
unfolding between text_at
texts_same ks t i j a b c d r p q u v h = rw (← p, ← q, ← u, ← v) h

-- ---- sorts
-- a line that is no label and has no target
pub rest_sort : (P : Sort → Type 0) → P if_open → P do_open → P close → P while_close → P plain → (ts : List Token) → P (sort_rest ts)
unfolding sort_rest
rest_sort P a b c d e ts =
    by_cond P (first_is (keyword (txt "if")) ts) (λ z. a)
    (λ z. by_cond P (first_is (keyword (txt "do")) ts) (λ z. b)
    (λ z. by_cond P (first_is (punct (txt "}")) ts) (λ z. c) (λ z. by_cond P (first_is (punct (txt "} ")) ts) (λ z. d) (λ z. e))))

no_label : (s : List ℕ) (o : Option (List ℕ)) (ts : List Token) → is s (label_name (sort_at false o ts)) ≡ false
unfolding sort_at sort_jump label_name is
no_label s none ts = rest_sort (λ z. is s (label_name z) ≡ false) refl refl refl refl refl ts
no_label s (some u) ts = by_test (first_is (keyword (txt "if")) ts) (λ q. rw q refl) (λ q. rw q refl)

module _ (s : List ℕ) (x : Line) where
  named_other : is_label x.toks ≡ false → named s x ≡ false
  unfolding named sort_of
  named_other e = ap (λ (b : Bool). is s (label_name (sort_at b (goto_target x.toks) x.toks))) e ∙ no_label s (goto_target x.toks) x.toks

  named_label : is_label x.toks ≡ true → named s x ≡ same (first_text x.toks) s
  unfolding named sort_of sort_at label_name is
  named_label e = ap (λ (b : Bool). is s (label_name (sort_at b (goto_target x.toks) x.toks))) e

-- ---- numbers
module _ (n i : ℕ) where
  pub number_in : i < n → numbered n i ≡ suc i
  unfolding numbered
  number_in h = rw (lt-ltb i n h)

  pub number_out : n ≤ i → numbered n i ≡ 0
  unfolding numbered
  number_out h = rw (le-ltb i n h)

-- ---- a line in the buffers
module _ (ls ks t : List ℕ) where
  module _ (i a e : ℕ) (first : a ≡ first_of ls i) (last : e ≡ last_of ls i) where
    pub toks_are : (line_in ls ks t i).toks ≡ tokens_in ks t a (e - a)
    unfolding line_in
    toks_are = rw (first, last)

    module _ (p : ℕ) (b : Bool) (test : b ≡ is_label (tokens_in ks t a (e - a))) where
      pub line_other : b ≡ false → false ≡ named (text_at ks t p) (line_in ls ks t i)
      line_other z = sym (named_other (text_at ks t p) (line_in ls ks t i) (ap is_label toks_are ∙ sym test ∙ z))

      within : b ≡ true → Dec (a < e) → a < e
      within z (yes h) = h
      within z (no h) = absurd (false≢true (label_none ks t a e (λ q. omega arith) ∙ sym test ∙ z))

      pub line_named : b ≡ true → (r : Bool) → r ≡ same (text_at ks t a) (text_at ks t p) → r ≡ named (text_at ks t p) (line_in ls ks t i)
      line_named z r h =
          let n = named_label (text_at ks t p) (line_in ls ks t i) (ap is_label toks_are ∙ sym test ∙ z) in
          let f : first_text (line_in ls ks t i).toks ≡ text_at ks t a = ap first_text toks_are ∙ text_first ks t a e (within z (dec_lt a e)) in
          h ∙ sym (n ∙ ap (λ (u : List ℕ). same u (text_at ks t p)) f)

  -- ---- and all of them
  module _ (n : ℕ) where
    pub lines_length : length (lines_in ls ks t n) ≡ n
    unfolding lines_in
    lines_length = below_length (line_in ls ks t) n

    pub line_at_lem : (i : ℕ) → i < n → line_at (lines_in ls ks t n) i ≡ line_in ls ks t i
    unfolding lines_in line_at
    line_at_lem i h = below_at (line_in ls ks t) n i (closer 0) h

    -- the place found is that of the label's name
    pub label_place : (s : List ℕ) (r : Place ℕ) → r ≡ found n (first_place (λ i. named s (line_in ls ks t i)) 0 (n - 0)) → number_of r ≡ label_number s (lines_in ls ks t n)
    unfolding label_number named_at
    label_place s r q =
        let z : n - 0 ≡ n = omega arith in
        let j = first_place (named_at s (lines_in ls ks t n)) 0 n in
        let e : first_place (λ i. named s (line_in ls ks t i)) 0 (n - 0) ≡ j = rw z (place_same (λ i. named s (line_in ls ks t i)) (named_at s (lines_in ls ks t n)) n 0 (λ i h. ap (named s) (sym (line_at_lem i (omega arith))))) in
        ap number_of (q ∙ ap (found n) e) ∙ go j (dec_lt j n) ∙ ap (λ (k : ℕ). numbered k (first_place (named_at s (lines_in ls ks t n)) 0 k)) (sym lines_length)
      where
        go : (j : ℕ) → Dec (j < n) → number_of (found n j) ≡ numbered n j
        go j (yes h) = ap number_of (found_in n j h) ∙ sym (number_in n j h)
        go j (no h) = ap number_of (found_out n j (omega arith)) ∙ sym (number_out n j (omega arith))

-- a label's line is one of the lines
number_le : (n i : ℕ) → Dec (i < n) → numbered n i ≤ n
number_le n i (yes h) = omega (arith, number_in n i h)
number_le n i (no h) = omega (arith, number_out n i (omega arith))

pub label_le : (t : List ℕ) (low : List Line) → label_number t low ≤ length low
unfolding label_number
label_le t low = number_le (length low) (first_place (named_at t low) 0 (length low)) (dec_lt _ (length low))

pub label_most : (ls ks t : List ℕ) (n i : ℕ) (s : List ℕ) → suc i ≡ label_number s (lines_in ls ks t n) → suc i ≤ n
label_most ls ks t n i s e = omega (arith, label_le s (lines_in ls ks t n), lines_length ls ks t n)
