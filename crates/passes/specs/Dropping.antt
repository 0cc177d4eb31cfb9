-- Dropping the labels that nothing aims at: the rows that are kept move together, and zeros stand in place of the others.
use Rattle.std.specs.Prelude.{Bool, not, cond, ◌||◌, List, ◌++◌, ℕ, zero, suc, ◌+◌, ◌-◌, length, take, drop, set, replicate}
use Rattle.definition.specs.Lists.{only, at}
use Rattle.outline.specs.Tests.{is_label}
use Rattle.outline.specs.Spans.{spans_of, aimed_out}

-- no label, or one that is aimed at from some row
unfoldable pub kept_row : List ℕ → ℕ → ℕ → Bool
kept_row S n w = not (is_label w) || aimed_out S n n w

-- the rows that are kept of the first n, with names below l
unfoldable pub kept_rows : List ℕ → ℕ → ℕ → List ℕ
kept_rows R l n = only (kept_row (spans_of l R n) n) (take n R)

-- how many rows are kept, and the table
pub record Gathered : Type 0 where
  pub count : ℕ
  pub rows : List ℕ

-- its value from the two
abbrev pub gathered : ℕ → List ℕ → Gathered
gathered c R = record { count = c; rows = R }

-- w at place c where it is kept
unfoldable pub placed : Bool → List ℕ → ℕ → ℕ → Gathered
placed b R c w = cond b (gathered (c + 1) (set R c w)) (gathered c R)

-- f rows from row i on, with c rows kept before
unfoldable pub gather_from : (ℕ → Bool) → List ℕ → ℕ → ℕ → ℕ → Gathered
gather_from p R i zero c = gathered c R
gather_from p R i (suc f) c =
    let w = at R i in
    let g = placed (p w) R c w in
    gather_from p g.rows (suc i) f g.count

-- the rows kept of the first n, together, and zeros in place of the others
unfoldable pub drop_rows : List ℕ → ℕ → ℕ → Gathered
drop_rows R l n =
    let ws = kept_rows R l n in
    gathered (length ws) (ws ++ (replicate (length (take n R) - length ws) 0 ++ drop n R))
