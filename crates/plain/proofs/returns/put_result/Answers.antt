-- A function without a result or a Return without a value puts nothing; otherwise a space and the expression are the definition's pieces.
use Rattle.plain.proofs.Writing.{result_none, result_empty, result_put}
use Rattle.plain.proofs.returns.put_result.Goals as goal
use Rattle.plain.proofs.returns.put_result.Goals.{then-word_at-ne1-via-then-word_at-ne1, then-word_at-ne1-via-else-word_at-ne1+then-stmt_field-ne1}

pub returns-then-word_at-ne1 : goal.returns-then-word_at-ne1
returns-then-word_at-ne1 c = λ E s.
    elim c.then-word_at-ne1.branch [
      | then-word_at-ne1-via-then-word_at-ne1 w ↦ result_none E _ _ _ c.word_at.ensures _ w.if-word_at-ne1.true
      | then-word_at-ne1-via-else-word_at-ne1+then-stmt_field-ne1 w ↦ result_empty E _ _ _ c.word_at.ensures _ w.stmt_field.ensures _ w.if-stmt_field-ne1.true
    ]

pub returns : goal.returns
returns c = λ E s. result_put E _ _ _ c.word_at.ensures _ c.stmt_field.ensures _ _ _ _ c.if-word_at-ne1.false c.if-stmt_field-ne1.false c.stmt_field-n.ensures c.put-out.ensures (c.put_expr.ensures E s)
