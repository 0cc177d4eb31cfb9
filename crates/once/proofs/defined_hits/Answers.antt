-- Nothing counts 0, and one value counts 1 where it equals v: the count over a list of none or one, at most 1.
use Rattle.std.proofs.Common.{rules}
use borrow.Author.Tests.{tests}
use native.Mathlib.Omega.{arith}
use Rattle.defined.specs.Defined.{value_of}
use Rattle.defined.proofs.Defining.{defined_count, defined_few}
use Rattle.once.proofs.defined_hits.Goals as goal

pub returns : goal.returns
returns c =
    let v = value_of c.args.v in
    let e = defined_count v c.args.d {n = c.map_or.result} c.map_or.ensures (λ w q. search (rules, tests)) in
    (e, omega (arith, e, defined_few v c.args.d))
