-- What set the block's flags, with the code's text, makes the definition's condition, rendered behind the last statement.
use Rattle.jumps.proofs.Testing.{tested_put}
use Rattle.jumps.proofs.conditional.put_tested.Goals as goal

pub put_condition-requires : goal.put_condition-requires
put_condition-requires c = c.requires.fits

pub returns : goal.returns
returns c = λ E s. tested_put E _ _ _ c.args.src.now.told.ground.counts _ s _ c.requires _ _ _ _ c.stmt_field-start.ensures c.stmt_field-len.ensures (c.put_condition.ensures E s)
