-- The table's first i rows are those of the first i lines, the others as they were; at the end i is the lesser of n and the table's length.
use Rattle.sorts.proofs.RowsMade.{Filled}
use Rattle.sorts.specs.Sorted.{row_of, lines_in}
use Rattle.sorts.proofs.sorts.Given as goal

abbrev pub invariant-loop-i : goal.invariant-loop-i
invariant-loop-i l = Filled (row_of (lines_in l.lines l.tokens l.text l.n)) l.initial.rows l.i l.rows
