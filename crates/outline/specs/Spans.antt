-- Where a label is aimed at: by its name, the lowest row and the highest row that aim at it, packed in one number; 0 for none.
use Rattle.std.specs.Prelude.{Bool, not, cond, ◌&&◌, ◌||◌, List, ℕ, zero, suc, ◌+◌, ◌*◌, ◌-◌, ◌/◌, ◌%◌, eqb, ltb, set, replicate}
use Rattle.definition.specs.Lists.{at}
use Rattle.outline.specs.Rows.{name_of}
use Rattle.outline.specs.Tests.{is_label, is_goto, some_row}

-- the lowest row, and 1 + the highest
unfoldable pub low_of : ℕ → ℕ
low_of e = e / 4294967296

unfoldable pub high_of : ℕ → ℕ
high_of e = e % 4294967296

-- the span e with row i more, i being above the rows in it; a row that does not fit the field is left out
unfoldable pub widened : ℕ → ℕ → ℕ
widened e i = cond (ltb i 4294967295) (4294967296 * cond (eqb e 0) i (low_of e) + (i + 1)) e

-- with row i, which is w
unfoldable pub note_row : List ℕ → ℕ → ℕ → List ℕ
note_row S w i = cond (is_goto w) (set S (name_of w) (widened (at S (name_of w)) i)) S

-- with f rows from row i on
unfoldable pub note_from : List ℕ → ℕ → ℕ → List ℕ → List ℕ
note_from R i zero S = S
note_from R i (suc f) S = note_from R (suc i) f (note_row S (at R i) i)

-- the spans of the first n rows, for the names below l
unfoldable pub spans_of : ℕ → List ℕ → ℕ → List ℕ
spans_of l R n = note_from R 0 n (replicate l 0)

-- a span that has a row below a, or from b on
unfoldable pub outside : ℕ → ℕ → ℕ → Bool
outside e a b = not (eqb e 0) && (ltb (low_of e) a || ltb b (high_of e))

-- a label that is aimed at from below a, or from b on
unfoldable pub aimed_out : List ℕ → ℕ → ℕ → ℕ → Bool
aimed_out S a b w = is_label w && outside (at S (name_of w)) a b

-- does a row below a, or from b on, aim at a label between i and j
unfoldable pub reached_in : List ℕ → List ℕ → ℕ → ℕ → ℕ → ℕ → Bool
reached_in R S i j a b = some_row (aimed_out S a b) R i (j - i)
