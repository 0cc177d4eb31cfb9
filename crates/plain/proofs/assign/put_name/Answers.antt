-- Width, register and code are those of the file and of the table at the value's number, and the name of the three is one token.
use Rattle.plain.proofs.Assigning.{name_put}
use Rattle.plain.proofs.assign.put_name.Goals as goal

pub returns : goal.returns
returns c = name_put _ _ _ _ _ _ _ _ _ c.bits_of-width.ensures c.stmt_field-reg.ensures c.get-code.ensures c.put_code.ensures
