-- No text, and the room stops; else the place gets eight times the text's end and the kind, which fits as that end is at most 2^32.
use native.Mathlib.Omega.{arith}
use Rattle.room.proofs.Placing.{token_end, token_none, token_set}
use Rattle.room.proofs.place.token.Goals as goal

pub returns-in_default : goal.returns-in_default
returns-in_default c = token_none _ _ _ _ _ c.stop.ensures c.in_default.is

pub overflow_add-end : goal.overflow_add-end
overflow_add-end c = let n = c.in-Ok.n in omega (arith, token_end _ _ _ _ n c.requires c.in-Ok.is)

pub overflow_mul-tokens : goal.overflow_mul-tokens
overflow_mul-tokens c = let n = c.in-Ok.n in omega (arith, token_end _ _ _ _ n c.requires c.in-Ok.is)

pub overflow_add-tokens : goal.overflow_add-tokens
overflow_add-tokens c = let n = c.in-Ok.n in omega (arith, token_end _ _ _ _ n c.requires c.in-Ok.is)

pub returns : goal.returns
returns c = token_set _ c.args.out _ _ _ _ _ c.in-Ok.is c.slot_at-i.ensures c.from.ensures
