-- The name's token, then ` = `: the two tokens asked for.
use Rattle.room.proofs.Laws.{next, one}
use Rattle.calling.specs.Written.{setting_of}
use Rattle.calling.proofs.result.put_setting.Goals as goal

pub returns : goal.returns
unfolding setting_of
returns c = next _ _ _ _ c.put_code-out.ensures (one _ _ _ c.put.ensures)
