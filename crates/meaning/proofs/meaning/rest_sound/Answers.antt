-- Seven tests, each made where those before hold.
use Rattle.std.proofs.Common.{arith}
use Rattle.std.proofs.lemmas.Bool.Decides.{nat_tests}
use Rattle.meaning.specs.Parts.{rest_sound}
use Rattle.meaning.proofs.meaning.rest_sound.Goals as goal

pub returns-then-names_rise : goal.returns-then-names_rise
unfolding rest_sound
returns-then-names_rise c = grind (arith, nat_tests)

pub returns-else-names_rise : goal.returns-else-names_rise
unfolding rest_sound
returns-else-names_rise c = grind (arith, nat_tests)
