-- `return ` where the result is returned, the name with its arguments, and `;` behind them are the call's tokens.
use Rattle.gotos.proofs.Leaving.{call_put}
use Rattle.gotos.proofs.named.put_call.Goals as goal

pub returns : goal.returns
returns c = λ E s. call_put E _ _ _ _ _ _ _ _ c.put_return_if-out.ensures (c.put_named-out.ensures E s) c.put.ensures
