-- Structuring as a whole: the rows that the passes leave come of lowered lines, so what is written is what they stand for; it fits, so the sheet holds it.
use mathlib.Core.Path.{◌≡◌, refl, sym, ap, subst, ◌∙◌}
use mathlib.Core.Bool.{cond}
use mathlib.Core.Option.{none, some}
use mathlib.Core.List.{List}
use Prim.Native.Nat.{ℕ, ◌*◌, ◌≤◌, ◌<◌}
use native.Mathlib.Omega.{arith}
use native.Mathlib.Decide.{dec_lt}
use lib.ListN.{length, take, replicate}
use lib.Seq.{length-take-le}
use Rattle.std.specs.Prelude.{Ok, Err}
use Rattle.passes.specs.Sweeps.{too_deep}
use Rattle.definition.specs.Edition.{Room as Limits}
use Rattle.definition.specs.Lists.{has, at}
use Rattle.definition.specs.Tokens.{Line}
use Rattle.definition.specs.Sorts.{sort}
use Rattle.definition.specs.Passes.{conds, cond_name, closer}
use Rattle.definition.specs.Listing.{Listing, structure, tests, refusal, success, result_of, line_numbers}
use Rattle.definition.proofs.ListLaws.{Each, end, each_take, count_length}
use Rattle.definition.proofs.Structured.{shaped}
use Rattle.definition.proofs.Accepted.{not_eight}
use Rattle.room.specs.Room.{Sheet, sheet_of, write_all, seen_sheet}
use Rattle.room.specs.Blank.{fresh, blank, filled}
use Rattle.room.proofs.Proper.{Proper}
use Rattle.room.proofs.View.{written}
use Rattle.sheet.specs.Buffers.{line_in}
use Rattle.sheet.proofs.Held.{held}
use Rattle.outline.specs.Rows.{origin_of, lines_of}
use Rattle.coding.proofs.Shapes.{map_length}
use Rattle.coding.proofs.Structuring.{Finished, Structured}
use Rattle.coding.proofs.Lowering.{LowRow, lowered}
use Rattle.sorts.specs.Sorted.{sorted, lines_in as lines_read}
use Rattle.sorts.proofs.Ranges.{below_is}
use Rattle.sorts.proofs.RowsLowered.{rows_lowered}
use Rattle.finish.specs.Finishing.{lines_in, HeadedRow, Heads}
use Rattle.finish.proofs.Agree.{agrees}
use Rattle.structure.specs.declared.answers.Kept.{Kept}
use Rattle.structure.specs.Answers.{Passes}
use Rattle.structure.specs.Answers.{Structured as Answer}
use Rattle.structure.specs.Runs.{Ran, ran, ran_of}
use Rattle.structure.specs.Sheets.{counts_of, HeadsLeft, Answered}
use Rattle.structure.specs.Lowered.{Given, Known, Lends, lent, result_in, Finishes}
use Rattle.structure.proofs.Origins.{Below, each_row, zero_below, ran_below, sorted_below}
use Rattle.structure.proofs.Finishing.{rows_proper}
use Rattle.structure.proofs.Said.{Says, says}

-- ---- the rows that are left
module _ (low : List Line) (ls ks t R S : List ℕ) (n : ℕ) (g : Given low ls ks t R S n) (R₁ : List ℕ) (made : R₁ ≡ sorted ls ks t n R) (same : length R₁ ≡ length R)
    (p : Passes) (Z : List ℕ) (passed : ran p Z ≡ ran_of R₁ S n) (long : length Z ≡ length R₁) where
  made_low : R₁ ≡ sorted ls ks t (length low) R
  made_low = made ∙ ap (λ (m : ℕ). sorted ls ks t m R) g.count

  rows_low : (i : ℕ) → i < length low → LowRow low (length S) i (at R₁ i)
  rows_low i h =
      subst (λ (Q : List ℕ). LowRow low (length S) i (at Q i)) (sym made_low)
      (rows_lowered low ls ks t g.held.each g.plain g.few (length S) g.names R (omega (arith, g.room)) i h)

  said : Says low R₁ n p Z
  said =
      says low R₁ S n
      (subst (Structured low R₁ S) (sym g.count) (lowered low R₁ S g.plain (omega (arith, g.short)) (omega (arith, g.room)) rows_low)) p Z passed

  below : 0 < length low → Each (Below (length low)) Z
  below some_line =
      subst (Each (Below (length low))) (sym (ap (λ (x : Ran). x.rows) passed))
      (ran_below (length low) some_line R₁ S n (subst (Each (Below (length low))) (sym made_low) (sorted_below (length low) some_line ls ks t R (omega (arith, g.room)) g.clean)))

  module _ (k : Kept) (e : p ≡ Ok k) where
    fin : Finished low R₁ n Z k.rows k.ifs k.loops
    fin = said.lists k e

    abbrev out : List Line
    out = lines_of low (take k.rows Z)

    abbrev K : Listing
    K = record { lines = out; ifs = k.ifs; loops = k.loops }

    in_table : k.rows ≤ length Z
    in_table = omega (arith, fin.within)

    out_length : length out ≡ k.rows
    unfolding lines_of
    out_length = map_length _ (take k.rows Z) ∙ length-take-le k.rows Z in_table

    -- no row is left of no line
    some_low : 0 < k.rows → 0 < length low
    unfolding conds
    some_low h =
        let s = shaped low K g.plain fin.lists in
        omega (arith, s.line_room, out_length, count_length (λ x. has (cond_name (sort x))) low)

    row_below : (i : ℕ) → i < k.rows → origin_of (at Z i) < length low
    unfolding Below
    row_below i h = let z = some_low (omega arith) in each_row (zero_below (length low) z) (below z) i

    heads : Heads ls ks Z k.rows
    unfolding HeadedRow
    heads = record { each = λ i h. record { rises = λ q. g.rises (origin_of (at Z i)) (row_below i h) } }

    lines_are : lines_in ls ks t Z k.rows ≡ out
    lines_are = agrees ls ks t low g.held Z k.rows in_table (λ i h q. row_below i h)

    proper : Each Proper out
    unfolding lines_of
    proper = go (dec_lt 0 (length low))
      where
        go : Dec (0 < length low) → Each Proper out
        go (yes h) = rows_proper low g.proper (each_take k.rows (below h))
        go (no h) =
            let z : k.rows ≡ 0 = go_zero (dec_lt 0 k.rows) in
            subst (λ (m : ℕ). Each Proper (lines_of low (take m Z))) (sym z) end
          where
            go_zero : Dec (0 < k.rows) → k.rows ≡ 0
            go_zero (yes q) = absurd (h (some_low q))
            go_zero (no q) = omega arith

  pub left_heads : HeadsLeft ls ks Z p
  left_heads = record { heads = heads }

  -- ---- the result
  module _ (l d x : List ℕ) (r : Answer) (l' d' x' : List ℕ) (a : Answered ls ks t Z p l d x r l' d' x') (m : ℕ) (b : Lends low m l d x) where
    same_result : (r₁ : Answer) (u v w : List ℕ) → r ≡ r₁ → l' ≡ u → d' ≡ v → x' ≡ w → result_in r l' d' x' ≡ result_in r₁ u v w
    same_result r₁ u v w e f h i =
        ap (λ (y : Answer). result_in y l' d' x') e ∙ ap (λ (y : List ℕ). result_in r₁ y d' x') f ∙ ap (λ (y : List ℕ). result_in r₁ u y x') h ∙ ap (result_in r₁ u v) i

    deep_result : p ≡ Err too_deep → result_in r l' d' x' ≡ result_of (lent l d x) (structure low)
    unfolding result_in result_of refusal lent
    deep_result e =
        let q = a.deep e in
        same_result (Err too_deep) (replicate (length l) 0) (replicate (length d) 0) (replicate (length x) 0) q.0 (q.1 ∙ b.lines) (q.2 ∙ b.tokens) (q.3 ∙ b.text)
        ∙ ap (result_of (lent l d x)) (sym (said.deep e))

    blank_is : sheet_of l d x fresh ≡ blank (line_numbers * m) (length d) (length x)
    unfolding blank
    blank_is =
        ap (λ (y : List ℕ). sheet_of y d x fresh) (b.lines ∙ ap (λ (j : ℕ). replicate j 0) b.rows)
        ∙ ap (λ (y : List ℕ). sheet_of (replicate (line_numbers * m) 0) y x fresh) b.tokens
        ∙ ap (λ (y : List ℕ). sheet_of (replicate (line_numbers * m) 0) (replicate (length d) 0) y fresh) b.text

    module _ (k : Kept) (e : p ≡ Ok k) where
      abbrev M : Limits
      M = record { lines = m; tokens = length d; bytes = length x }

      abbrev s : Sheet
      s = filled (line_numbers * m) (length d) (length x) (out k e)

      sheet_is : seen_sheet (write_all (sheet_of l d x fresh) (lines_in ls ks t Z k.rows)) ≡ some s
      sheet_is =
          ap (λ (u : Sheet). seen_sheet (write_all u (lines_in ls ks t Z k.rows))) blank_is
          ∙ ap (λ (u : List Line). seen_sheet (write_all (blank (line_numbers * m) (length d) (length x)) u)) (lines_are k e)
          ∙ written M (out k e) b.most (proper k e)
          ∙ ap (λ v. cond v none (some s)) (not_eight M (out k e) (b.room (K k e) (fin k e).lists))

      read_back : lines_read s.lines s.room.tokens s.room.text (length (out k e)) ≡ out k e
      unfolding lines_read filled
      read_back = below_is (line_in s.lines s.room.tokens s.room.text) (out k e) (closer 0) (λ i h. held (line_numbers * m) (length d) (length x) (out k e) (proper k e) (closer 0) i h)

      success_is : result_in (Ok (counts_of s k)) s.lines s.room.tokens s.room.text ≡ success (lent l d x) (K k e)
      unfolding result_in counts_of filled success lent
      success_is = rw (b.rows, ap tests read_back)

      lists_result : result_in r l' d' x' ≡ result_of (lent l d x) (structure low)
      unfolding result_of
      lists_result =
          let q = a.lists k e s sheet_is in
          same_result (Ok (counts_of s k)) s.lines s.room.tokens s.room.text q.0 q.1 q.2 q.3
          ∙ success_is ∙ ap (result_of (lent l d x)) (sym (fin k e).lists)

    pub result_is : result_in r l' d' x' ≡ result_of (lent l d x) (structure low)
    result_is = go p refl
      where
        go : (q : Passes) → p ≡ q → result_in r l' d' x' ≡ result_of (lent l d x) (structure low)
        go (Err e₀) e = deep_result e
        go (Ok k) e = lists_result k e

-- ---- as the function has it
module _ (ls ks t R S : List ℕ) (n : ℕ) (R₁ : List ℕ) (made : R₁ ≡ sorted ls ks t n R) (same : length R₁ ≡ length R) (p : Passes) (Z : List ℕ)
    (passed : ran p Z ≡ ran_of R₁ S n) (long : length Z ≡ length R₁) where
  pub known_heads : Known ls ks t R S n → HeadsLeft ls ks Z p
  known_heads k = left_heads k.low ls ks t R S n k.given R₁ made same p Z passed long

  pub finishes : (l d x : List ℕ) (r : Answer) (l' d' x' R' S₁ S' : List ℕ) → Answered ls ks t Z p l d x r l' d' x' → length S₁ ≡ length S
      → (R' ≡ replicate (length Z) 0) × (S' ≡ replicate (length S₁) 0) → Finishes ls ks t R S n l d x r l' d' x' R' S'
  finishes l d x r l' d' x' R' S₁ S' a names wiped = record {
    result = λ low g m b. result_is low ls ks t R S n g R₁ made same p Z passed long l d x r l' d' x' a m b;
    rows = wiped.0 ∙ ap (λ (j : ℕ). replicate j 0) (long ∙ same);
    spans = wiped.1 ∙ ap (λ (j : ℕ). replicate j 0) names;
  }
