-- The registers that the file names, section by section.
use mathlib.Core.Path.{◌≡◌}
use mathlib.Core.Bool.{Bool}
use mathlib.Core.List.{List, ◌++◌, map}
use Prim.Native.Nat.{ℕ}
use Rattle.definition.specs.Edition.{args, phis, statements}
use Rattle.definition.specs.Lists.{all, gather, range, all_below}
use Rattle.definition.specs.Contents.{size, arg_at}
use Rattle.definition.specs.Meaning.{is_register, arg_regs, phi_value, assigned, call_returns, item_values, loose}
use Rattle.defined.proofs.Ranges.{all_map, all_gather}
use Rattle.defined.proofs.Tested.{loose_all}
use Rattle.each.specs.Rules.{named}

module _ (f : List ℕ) where
  abbrev pub arg_named : ℕ → Bool
  arg_named i = is_register (arg_at f i)

  abbrev pub phi_named : ℕ → Bool
  phi_named i = named (phi_value f i)

  abbrev pub assign_named : ℕ → Bool
  assign_named i = all named (assigned f i)

  abbrev pub loose_named : ℕ → Bool
  loose_named i = all named (call_returns f i ++ item_values f i)

  pub args_named : all is_register (arg_regs f) ≡ all_below (size f args) arg_named
  unfolding arg_regs
  args_named = all_map is_register (arg_at f) (size f args)

  pub phis_named : all named (map (phi_value f) (range 0 (size f phis))) ≡ all_below (size f phis) phi_named
  phis_named = all_map named (phi_value f) (size f phis)

  pub assigns_named : all named (gather (assigned f) (range 0 (size f statements))) ≡ all_below (size f statements) assign_named
  assigns_named = all_gather named (assigned f) (size f statements)

  pub loose_named_lem : all named (loose f) ≡ all_below (size f statements) loose_named
  loose_named_lem = loose_all f named
