use mathlib.Core.Path.{◌∙◌}
use Prim.Native.Nat.{ℕ}
use Rattle.std.proofs.Common.{rules}
use borrow.Author.Tests.{tests}
use lib.Dec.{ltb}
use Rattle.mentions.specs.Named.{root_at}
use Rattle.records.proofs.Below.{all_upto}
use Rattle.references.proofs.Named.{inside_is}
use Rattle.references.proofs.roots_inside.Goals as goal

pub returns : goal.returns
returns c =
    all_upto (λ (k : ℕ). ltb (root_at c.args.f.now c.args.i c.args.first k) c.size_of-expressions.result) c.root_count.result c.all.ensures.ran (cc) (λ x b q k. search (rules, tests))
    ∙ inside_is _ _ _ _ _ c.requires.first_value c.size_of-expressions.ensures c.root_count.ensures
