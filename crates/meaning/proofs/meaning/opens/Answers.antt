-- A text of no byte opens nothing; else its first byte is the one at the text's offset in the file.
use Rattle.std.proofs.Common.{arith}
use Rattle.std.proofs.lemmas.Bool.Decides.{nat_tests}
use Rattle.records.specs.Editions.{edition_of}
use Rattle.meaning.proofs.Opening.{opens_not, opens_at}
use Rattle.meaning.proofs.meaning.opens.Goals as goal

pub returns-then-n-ne0 : goal.returns-then-n-ne0
returns-then-n-ne0 c = opens_at _ _ _ _ _ _ _ c.if-n-ne0.true c.text.ensures c.offset_of.ensures c.begins_at.ensures

pub returns-else-n-ne0 : goal.returns-else-n-ne0
returns-else-n-ne0 c = let e = opens_not (edition_of c.args.e) c.args.f.now c.args.start _ c.if-n-ne0.false in grind (arith, nat_tests)
