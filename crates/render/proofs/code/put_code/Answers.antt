-- Codes 0 and 1 say the register's own name; above them an even code is a parameter and an odd one a local, each of half the code.
use Rattle.render.proofs.Coded.{own_name, letter_a, letter_v}
use Rattle.room.proofs.Laws.{piece_as}
use Rattle.render.proofs.code.put_code.Goals as goal

pub returns-then-code-lt2 : goal.returns-then-code-lt2
returns-then-code-lt2 c = piece_as _ _ 1 _ _ c.put_reg.ensures (own_name _ _ _ c.if-code-lt2.true)

pub returns-then-code-eq0 : goal.returns-then-code-eq0
returns-then-code-eq0 c = piece_as _ _ 1 _ _ c.put_param.ensures (letter_a _ _ _ c.if-code-lt2.false c.if-code-eq0.true)

pub returns : goal.returns
returns c = piece_as _ _ 1 _ _ c.put_local.ensures (letter_v _ _ _ c.if-code-lt2.false c.if-code-eq0.false)
