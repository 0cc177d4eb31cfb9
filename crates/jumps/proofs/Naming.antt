-- A jump's target has the name that the file's blocks and supplied names give it.
use mathlib.Core.Path.{◌≡◌, ap, ◌∙◌}
use mathlib.Core.List.{List}
use Prim.Native.Nat.{ℕ}
use Rattle.definition.specs.Edition.{Edition}
use Rattle.definition.specs.Ssa.{Name}
use Rattle.definition.specs.Read.{read}
use Rattle.definition.specs.Lookup.{order, target_name}
use Rattle.lowering.specs.Lowered.{lowering_of}
use Rattle.lowering.proofs.Gen.{gen_supplied, lowering_starts}
use Rattle.gotos.specs.Written.{name_of}

module _ (E : Edition) (f : List ℕ) where
  pub name_is : (a : ℕ) → target_name (lowering_of E f).starts (lowering_of E f).gen.supplied a ≡ name_of E f a
  unfolding name_of
  name_is a =
      ap (λ (ss : List ℕ). target_name ss (lowering_of E f).gen.supplied a) (lowering_starts E f)
      ∙ ap (λ (ns : List Name). target_name (order (read E f)) ns a) (gen_supplied E f)
