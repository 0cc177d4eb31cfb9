-- From zeros the table becomes that of the file's offsets; what check 7 answers over it is then the definition's refusal.
use Rattle.tables.proofs.Staging.{unstacked, stacked}
use Rattle.tables.proofs.steps.stack.Goals as goal

pub offsets-requires : goal.offsets-requires
offsets-requires c = let q = unstacked _ _ c.requires.grounded _ _ c.requires.keys_value c.requires.offs_value in record { keys_value = q.1.0; tab_value = q.1.1 }

pub returns : goal.returns
returns c = stacked _ _ c.requires.grounded _ _ c.offsets.ensures c.refused7.ensures
