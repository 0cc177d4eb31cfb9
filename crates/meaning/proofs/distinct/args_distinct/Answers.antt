-- The keys are the registers of the arguments.
use mathlib.Core.Path.{ap, ◌∙◌}
use mathlib.Core.List.{map}
use Prim.Native.Nat.{ℕ}
use Rattle.std.proofs.Common.{rules}
use Rattle.definition.specs.Lists.{distinct, range}
use Rattle.definition.specs.Contents.{arg_at}
use Rattle.definition.specs.Meaning.{arg_regs}
use Rattle.meaning.proofs.distinct.args_distinct.Goals as goal

pub returns : goal.returns
unfolding arg_regs
returns c =
    let g = arg_at c.args.f.now in
    c.keys_distinct.ensures.says g (λ j x q. search rules) ∙ ap (λ (m : ℕ). distinct (map g (range 0 m))) c.size_of.ensures
