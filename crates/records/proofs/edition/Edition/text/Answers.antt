-- The text is the last section: one less than their count, which for no sections is 0, as the definition subtracts.
use Rattle.records.proofs.Editions.{text_is}
use Rattle.records.proofs.edition.Edition.text.Goals as goal

pub returns : goal.returns
returns c = text_is _ _ c.saturating_sub.ensures
