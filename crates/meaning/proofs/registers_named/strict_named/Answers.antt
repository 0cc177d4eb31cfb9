-- The list is that of the phis, then that of the Assigns: where the phis fail all fails, else the Assigns decide.
use Rattle.std.proofs.Common.{arith}
use Rattle.std.proofs.lemmas.Bool.Decides.{nat_tests}
use Rattle.each.specs.Rules.{named}
use Rattle.defined.proofs.Tested.{strict_parts}
use Rattle.meaning.proofs.registers_named.strict_named.Goals as goal

pub returns-then-phis_named : goal.returns-then-phis_named
returns-then-phis_named c = let e = strict_parts c.args.f.now named in grind (arith, nat_tests)

pub returns-else-phis_named : goal.returns-else-phis_named
returns-else-phis_named c = let e = strict_parts c.args.f.now named in grind (arith, nat_tests)
