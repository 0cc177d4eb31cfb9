-- A value of version 0 is never lone; of another the hits among phis and statements are its count in the file, which must be 1.
use Rattle.std.proofs.Common.{arith}
use Rattle.std.proofs.lemmas.Bool.Decides.{nat_tests}
use Rattle.defined.specs.Defined.{value_of}
use Rattle.defined.proofs.Defining.{lone_is}
use Rattle.once.proofs.is_lone.Goals as goal

pub returns-then-v-ne0 : goal.returns-then-v-ne0
returns-then-v-ne0 c = let e = lone_is c.args.f.now (value_of c.args.v) in grind (arith, nat_tests)

pub returns-else-v-ne0 : goal.returns-else-v-ne0
returns-else-v-ne0 c = let e = lone_is c.args.f.now (value_of c.args.v) in grind (arith, nat_tests)
