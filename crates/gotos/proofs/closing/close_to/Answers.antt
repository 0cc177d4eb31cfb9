-- Left out by the definition's test there is no line; otherwise the goto's tokens are put, and their line ends at no address.
use Rattle.gotos.proofs.Ends.{closing_out, closing_put}
use Rattle.gotos.proofs.closing.close_to.Goals as goal

pub returns-then-is_left_out : goal.returns-then-is_left_out
returns-then-is_left_out c = λ E. closing_out E _ _ _ _ (c.is_left_out.ensures E) _ c.if-is_left_out.true

pub returns : goal.returns
returns c = λ E. closing_put E _ _ _ _ (c.is_left_out.ensures E) _ _ _ _ _ _ _ c.if-is_left_out.false c.put_goto-out.ensures c.end_line.ensures
