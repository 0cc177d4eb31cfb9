-- The search answers a block exactly where one begins at the address.
use Rattle.std.proofs.Common.{◌∙◌, ap}
use Rattle.std.specs.Prelude.{is_some}
use Rattle.labels.proofs.Finding.{block_some}
use Rattle.calls.proofs.targets.is_block.Goals as goal

pub returns : goal.returns
returns c = λ E. c.is_some.ensures ∙ ap is_some c.block_of.ensures ∙ block_some E _ _
