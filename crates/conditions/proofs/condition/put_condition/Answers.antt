-- Nothing found prints the flags by their name, a pair its comparison; the code's bytes are the text at the section's offset.
use Rattle.conditions.proofs.Pairing.{by_nothing, by_pair, pair_fits}
use Rattle.conditions.proofs.condition.put_condition.Goals as goal

pub returns-in_default : goal.returns-in_default
returns-in_default c = λ E e. by_nothing _ _ _ _ _ _ c.offset_of.ensures E e _ _ c.in_default.is c.put_flags.ensures

pub put_compared-requires : goal.put_compared-requires
put_compared-requires c = pair_fits _ _ _ c.requires c.in-Some.is

pub returns : goal.returns
returns c = λ E e. by_pair _ _ _ _ _ _ c.offset_of.ensures E e _ _ _ c.in-Some.is (c.put_compared.ensures E e)
