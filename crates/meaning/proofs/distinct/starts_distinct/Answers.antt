-- The keys are the addresses of the blocks.
use mathlib.Core.Path.{ap, ◌∙◌}
use mathlib.Core.List.{map}
use Prim.Native.Nat.{ℕ}
use Rattle.std.proofs.Common.{rules}
use Rattle.definition.specs.Lists.{distinct, range}
use Rattle.definition.specs.Contents.{block_long}
use Rattle.definition.specs.Meaning.{starts}
use Rattle.meaning.proofs.distinct.starts_distinct.Goals as goal

pub returns : goal.returns
unfolding starts
returns c =
    let g = λ (i : ℕ). block_long c.args.f.now i 0 in
    c.keys_distinct.ensures.says g (λ j x q. search rules) ∙ ap (λ (m : ℕ). distinct (map g (range 0 m))) c.size_of.ensures
