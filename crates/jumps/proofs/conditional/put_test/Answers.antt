-- The if with what it tests, a bracket, and the goto to the name of where it aims: the pieces in order are the test's tokens.
use Rattle.jumps.proofs.Testing.{test_put}
use Rattle.jumps.proofs.conditional.put_test.Goals as goal

pub returns : goal.returns
returns c = λ E s. test_put E _ _ _ _ _ _ _ _ c.aim-a.ensures (c.put_if-out.ensures E s) c.put-out.ensures (c.put_goto_name.ensures E s)
