-- What is found so far, carried on over the values from k on, is what all of them give; with none left it is the answer.
use Rattle.plain.specs.Asm.{tables, sets_from}
use Rattle.plain.specs.declared.sets.Sets.TheVariants.{Nothing}
use Prim.Native.Nat.{◌-◌}
use mathlib.Core.Path.{◌≡◌}
use Rattle.plain.proofs.sets.sets_from.Given as goal

abbrev pub invariant-loop-k : goal.invariant-loop-k
invariant-loop-k l = sets_from l.f (tables l.numbers l.names l.live l.phi) l.base l.from (l.to - l.from) Nothing ≡ sets_from l.f (tables l.numbers l.names l.live l.phi) l.base l.k (l.to - l.k) l.s
