-- Read as the definition's, these numbers are edition 1: nine sections are taken from the tables, and their tenth entries are not.
use mathlib.Core.Path.{refl}
use Rattle.records.specs.Editions.{edition_of}
use Rattle.definition.specs.Lists.{at, range}
use Rattle.definition.specs.Edition.{edition1}
use Rattle.records.proofs.edition.Edition.first.Goals as goal

pub returns : goal.returns
unfolding edition_of at range edition1
returns c = refl
