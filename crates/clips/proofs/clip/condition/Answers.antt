-- Fewer than two tokens before `goto` make no condition; else the first is trimmed and the last cut, which keeps rising ends rising.
use Rattle.clips.proofs.Orders.{orderly_none, orderly_is}
use Rattle.clips.proofs.Clips.{condition_none, condition_is}
use Prim.Native.Nat.{◌≤◌}
use native.Mathlib.Omega.{arith}
use Rattle.clips.proofs.clip.condition.Goals as goal

pub returns-then-m-lt2 : goal.returns-then-m-lt2
returns-then-m-lt2 c = let a = c.args in (condition_none a.tokens.now a.text.now a.a a.n c.before_goto-m.result c.before_goto-m.ensures c.if-m-lt2.true, λ h. orderly_none a.tokens.now a.text.now a.a a.n)

pub returns : goal.returns
returns c = let a = c.args in let h : 2 ≤ c.before_goto-m.result = omega arith in (condition_is a.tokens.now a.text.now a.a a.n c.before_goto-m.result c.before_goto-m.ensures _ _ _ _ _ _ h c.token_start.ensures c.token_end.ensures c.after_opens-from.ensures c.clip_from-start.ensures c.token_end-2.ensures c.before_close-to.ensures, orderly_is a.tokens.now a.text.now a.a a.n c.before_goto-m.result _ _ _ _ _ _ c.before_goto-m.ensures h c.token_start.ensures c.token_end.ensures c.after_opens-from.ensures c.clip_from-start.ensures c.token_end-2.ensures c.before_close-to.ensures)
