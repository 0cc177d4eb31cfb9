-- The keys fill a table of the same length, so the chains still fit; the numbers made from them leave both tables of the chains as zeros.
use Rattle.analyses.proofs.Gathered.{chains_fit, all_valued}
use Rattle.analyses.proofs.number_values.Goals as goal

pub numbers-requires : goal.numbers-requires
numbers-requires c = chains_fit _ _ _ _ _ c.keys.new.keys c.requires c.keys.auto.keys

pub returns : goal.returns
returns c = all_valued _ _ _ _ _ _ _ _ c.keys.ensures c.numbers.ensures
