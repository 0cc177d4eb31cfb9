-- What is before the first old word, the new word and what is behind the old one are the range replaced; three Punct pieces join to one.
use native.Mathlib.Omega.{arith}
use Rattle.comparisons.proofs.Comparing.{replaced_fits, replaced_is}
use Rattle.comparisons.proofs.signs.put_replaced.Goals as goal

pub overflow_add-behind : goal.overflow_add-behind
overflow_add-behind c = let a = c.args in let f = replaced_fits a.source.now a.from a.to a.old.now c.place_between-p.result c.requires c.place_between-p.ensures in omega arith

pub returns : goal.returns
returns c = let a = c.args in replaced_is a.source.now a.from a.to a.old.now c.place_between-p.result c.requires c.place_between-p.ensures a.new.now _ _ _ _ c.put_between-out.ensures c.put-out.ensures c.put_between.ensures
