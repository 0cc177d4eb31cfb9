use mathlib.Core.Path.{◌∙◌}
use Prim.Native.Nat.{ℕ, ◌≤◌}
use native.Mathlib.Omega.{arith}
use Rattle.std.proofs.Common.{rules}
use Rattle.std.proofs.iter.Serving.{serving}
use borrow.Author.Tests.{tests}
use lib.Dec.{ltb}
use Rattle.mentions.specs.Named.{child_at}
use Rattle.mentions.proofs.Naming.{count_few}
use Rattle.records.proofs.Below.{all_upto}
use Rattle.references.proofs.Named.{lower_is}
use Rattle.references.proofs.children_lower.Goals as goal

pub all-requires-clause-callable : goal.all-requires-clause-callable
all-requires-clause-callable c = let h : c.child_count.result ≤ 2 = omega (arith, c.child_count.ensures, count_few c.args.f.now c.args.i) in grind (serving, h)

pub returns : goal.returns
returns c =
    all_upto (λ (k : ℕ). ltb (child_at c.args.f.now c.args.i k) c.args.i) c.child_count.result c.all.ensures.ran (cc) (λ x b q k. search (rules, tests))
    ∙ lower_is _ _ _ c.child_count.ensures
