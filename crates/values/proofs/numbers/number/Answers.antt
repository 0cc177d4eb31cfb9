-- Key 0 has number 0; where the walk ends at a place it is the key's first; else place i is, and heads its chain from now on.
use native.Mathlib.Omega.{arith}
use mathlib.Core.Path.{refl}
use Rattle.values.proofs.Chaining.{number_zero, number_found, number_new}
use Rattle.values.proofs.numbers.number.Goals as goal

pub returns-then-k-eq0 : goal.returns-then-k-eq0
returns-then-k-eq0 c = number_zero _ _ _ _ c.requires.chained c.requires.i_in_bounds.0 _ c.get-k.ensures c.if-k-eq0.true

pub returns-then-x-gt0 : goal.returns-then-x-gt0
returns-then-x-gt0 c = number_found _ _ _ _ c.requires.chained c.requires.i_in_bounds.0 _ c.get-k.ensures c.if-k-eq0.false _ _ _ refl c.get-top.ensures c.walk-x.ensures c.if-x-gt0.true

pub returns : goal.returns
returns c = number_new _ _ _ _ c.requires.chained c.requires.i_in_bounds.0 _ c.get-k.ensures c.if-k-eq0.false _ _ _ refl c.get-top.ensures c.walk-x.ensures c.if-x-gt0.false (omega arith) c.requires.i_in_bounds.3 _ _ c.put.ensures c.put-2.ensures
