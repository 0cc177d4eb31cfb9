-- None, one or more variables are found as the definition lists none, one or more, since the tables say who is read and by what name.
use Rattle.plain.proofs.Printing.{other_put}
use Rattle.plain.proofs.Setting.{other_is}
use Rattle.plain.proofs.other.put_other.Goals as goal

pub returns : goal.returns
returns c = λ E s. other_put _ _ E _ _ _ _ _ c.stmt_field.ensures c.stmt_field-2.ensures (other_is _ c.args.src.now.of.bytes _ _ _ _ _ _ _ _ c.args.src.now.told c.requires.live_reads.0 c.requires.live_reads.1 _ c.requires.i_bound.0 E _ c.sets_of-s.ensures) (c.put_asm.ensures E s)
