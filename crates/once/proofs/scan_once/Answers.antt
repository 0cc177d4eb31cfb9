-- What must be lone is the list of the phis, then that of the Assigns: where the first fails all fails, else the second decides.
use Rattle.std.proofs.Common.{arith}
use Rattle.std.proofs.lemmas.Bool.Decides.{nat_tests}
use Rattle.defined.specs.Defined.{lone}
use Rattle.defined.proofs.Defining.{once_is}
use Rattle.defined.proofs.Tested.{strict_parts}
use Rattle.once.proofs.scan_once.Goals as goal

pub returns-then-phis_lone : goal.returns-then-phis_lone
returns-then-phis_lone c = let e = strict_parts c.args.f.now (lone c.args.f.now) in let d = once_is c.args.f.now in grind (arith, nat_tests)

pub returns-else-phis_lone : goal.returns-else-phis_lone
returns-else-phis_lone c = let e = strict_parts c.args.f.now (lone c.args.f.now) in let d = once_is c.args.f.now in grind (arith, nat_tests)
