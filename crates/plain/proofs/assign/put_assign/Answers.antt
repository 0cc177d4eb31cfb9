-- The table's code at the value's number is that of the variable defined, so its name and ` = E;` behind it are the definition's tokens.
use Rattle.plain.proofs.Assigning.{assign_put}
use Rattle.plain.proofs.Searching.{stmts_low}
use Rattle.plain.proofs.assign.put_assign.Goals as goal

pub number_of-m-requires : goal.number_of-m-requires
number_of-m-requires c = stmts_low _ c.args.src.now.of.bytes _ c.args.src.now.told.ground.where_all

pub returns : goal.returns
returns c = λ E s. assign_put _ c.args.src.now.of.bytes _ _ _ _ _ _ c.args.src.now.told _ c.requires.0 c.requires.1 _ c.number_of-m.ensures E _ _ _ _ c.put_name-out.ensures c.stmt_field-n.ensures (c.put_within.ensures E s)
