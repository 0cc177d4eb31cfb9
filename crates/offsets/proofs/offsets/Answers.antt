-- At the start the table knows RSP at entry alone; closed for RSP's own definitions, then for the others, it is the definition's.
use Rattle.definition.proofs.ListLaws.{zeros_long}
use Rattle.offsets.proofs.Closed.{offsets_are}
use Rattle.offsets.proofs.Beginning.{begun}
use mathlib.Core.Path.{◌∙◌}
use Rattle.offsets.proofs.offsets.Goals as goal

pub close-requires : goal.close-requires
close-requires c = record { tab_len = c.put.auto.l ∙ zeros_long _ _ c.requires.tab_value }

pub close-requires-2 : goal.close-requires-2
close-requires-2 c = record { tab_len = c.close.auto.tab ∙ (c.put.auto.l ∙ zeros_long _ _ c.requires.tab_value) }

pub returns : goal.returns
returns c = λ E s. offsets_are E _ _ _ _ _ (begun _ _ _ c.args.of.now.ground _ _ _ _ c.requires.keys_value c.requires.tab_value c.first_of.ensures c.put.ensures) (λ k e. c.close.ensures E k s e) (λ k e. c.close-2.ensures E k s e)
