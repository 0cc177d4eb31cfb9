-- The last marked statement is the definition's last setter, and its kind says the setting; where none is marked nothing is set.
use Rattle.std.proofs.Common.{rules}
use Rattle.flags.proofs.Settings.{set_last, none_set}
use Rattle.flags.proofs.setter.setter.Goals as goal

pub returns-in_err-last_marked : goal.returns-in_err-last_marked
returns-in_err-last_marked c = λ E e. none_set E _ _ _ c.last_marked.ensures _ (search rules) c.in_err-last_marked.was

pub returns : goal.returns
returns c = λ E e. set_last E _ _ _ c.last_marked.ensures _ _ c.in_ok-last_marked.was (c.setting_at.ensures E e)
