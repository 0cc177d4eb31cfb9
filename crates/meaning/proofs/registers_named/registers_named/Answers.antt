-- Arguments, phis and Assigns, Calls and Others, Uses: each is tested where those before hold.
use Rattle.std.proofs.Common.{arith}
use Rattle.std.proofs.lemmas.Bool.Decides.{nat_tests}
use Rattle.definition.specs.Meaning.{registers}
use Rattle.meaning.proofs.registers_named.registers_named.Goals as goal

pub returns-then-loose_named : goal.returns-then-loose_named
unfolding registers
returns-then-loose_named c = grind (arith, nat_tests)

pub returns-else-loose_named : goal.returns-else-loose_named
unfolding registers
returns-else-loose_named c = grind (arith, nat_tests)
