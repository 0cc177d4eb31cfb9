-- A region on rows: where the one that begins at a row ends, and what the rows are when it is formed.
use Rattle.std.specs.Prelude.{cond, ◌||◌, List, Option, None, Some, ℕ, ◌+◌, ◌*◌, ◌-◌, eqb, set}
use Rattle.definition.specs.Lists.{at}
use Rattle.outline.specs.declared.rows.Seen.{Seen}
use Rattle.outline.specs.declared.rows.Seen.TheVariants.{Pass, Hit, End}
use Rattle.outline.specs.Rows.{CLOSE, indent_of, name_of}
use Rattle.outline.specs.Tests.{is_cond, is_label, verdict, back_verdict, along}
use Rattle.outline.specs.Spans.{outside, reached_in}
use Rattle.outline.specs.Forming.{raised, turned, changed_in, inserted}

-- the row that a search below n came to, where n stands for none
unfoldable pub found : ℕ → ℕ → Option ℕ
found n j = cond (eqb j n) None (Some j)

-- ---- ifs
-- the place of the label, the end n, or what the rows behind say
unfoldable pub onward : Seen → ℕ → ℕ → ℕ → ℕ
onward Pass i n r = r
onward Hit i n r = i
onward End i n r = n

-- the row of the label m at depth d - 1, of f rows from row j on; n where the scan ends without it
unfoldable pub label_from : ℕ → ℕ → ℕ → List ℕ → ℕ → ℕ → ℕ
label_from n m d R j f = along (λ i w r. onward (verdict m d w) i n r) n R j f

-- the label of the if at row k, which the scan found at j; n where no region is formed
unfoldable pub if_goal_at : List ℕ → List ℕ → ℕ → ℕ → ℕ → ℕ
if_goal_at R S n k j = cond (eqb j n || (eqb j (k + 1) || reached_in R S (k + 1) j (k + 1) j)) n j

-- the label of the if at row k; n where no region is formed
unfoldable pub if_goal : List ℕ → List ℕ → ℕ → ℕ → ℕ
if_goal R S n k =
    let w = at R k in
    cond (is_cond w) (if_goal_at R S n k (label_from n (name_of w) (indent_of w) R (k + 1) (n - (k + 1)))) n

-- ---- loops
-- the last back edge: a later one, this one, or none
unfoldable pub latest : Seen → ℕ → ℕ → ℕ → ℕ
latest Pass i n r = r
latest Hit i n r = cond (eqb r n) i r
latest End i n r = n

-- the row of the last conditional jump to m at depth d, of f rows from row j on; n where the search ends without it
unfoldable pub back_from : ℕ → ℕ → ℕ → List ℕ → ℕ → ℕ → ℕ
back_from n m d R j f = along (λ i w r. latest (back_verdict m d w) i n r) n R j f

-- the back edge of the loop at row k, which the search found at j; n where another row aims at the head, or one from outside at the body
unfoldable pub do_goal_at : List ℕ → List ℕ → ℕ → ℕ → ℕ → ℕ
do_goal_at R S n k j = cond (eqb j n || (outside (at S (name_of (at R k))) j (j + 1) || reached_in R S (k + 1) j k (j + 1))) n j

-- the back edge of the loop at row k; n where no region is formed
unfoldable pub do_goal : List ℕ → List ℕ → ℕ → ℕ → ℕ
do_goal R S n k =
    let w = at R k in
    cond (is_label w) (do_goal_at R S n k (back_from n (name_of w) (indent_of w + 1) R (k + 1) (n - (k + 1)))) n

-- ---- forming
-- a conditional jump, 2, as the head of an if, 5, or as the end of a loop, 8; a label, 1, as the head of a loop, 7
unfoldable pub opened : ℕ → ℕ
opened w = turned 3 w

unfoldable pub whiled : ℕ → ℕ
whiled w = turned 6 w

unfoldable pub headed : ℕ → ℕ
headed w = turned 6 (raised w)

-- the closing brace of the if at row w
unfoldable pub close_row : ℕ → ℕ
close_row w = CLOSE + 16 * indent_of w

-- the if at row k, with its label at j
unfoldable pub formed_if : List ℕ → ℕ → ℕ → ℕ → List ℕ
formed_if R n k j = inserted (changed_in raised (set R k (opened (at R k))) (k + 1) j) n j (close_row (at R k))

-- the loop at row k, with its back edge at j
unfoldable pub formed_do : List ℕ → ℕ → ℕ → List ℕ
formed_do R k j = set (changed_in raised (set R k (headed (at R k))) (k + 1) j) j (whiled (at R j))
