-- Each public contract of this crate is an equation for the answer, so no second answer meets it.
use mathlib.Core.Path.{◌≡◌, sym, ◌∙◌}
use mathlib.Core.Bool.{Bool}
use mathlib.Core.List.{List}
use Prim.Native.Nat.{ℕ}
use Rattle.std.specs.Prelude.{Option}
use Rattle.definition.specs.Lists.{all}
use Rattle.definition.specs.Meaning.{is_register, use_register}
use Rattle.defined.specs.declared.value.Value.{Value}
use Rattle.defined.specs.Defined.{list_of}
use Rattle.each.specs.Rules.{named}

module _ (r s : Bool) where
  pub is_register_lem : (n : ℕ) → r ≡ is_register n → s ≡ is_register n → r ≡ s
  is_register_lem n p q = p ∙ sym q

  pub defined_named : (d : Option Value) → r ≡ all named (list_of d) → s ≡ all named (list_of d) → r ≡ s
  defined_named d p q = p ∙ sym q

  pub use_named : (f : List ℕ) (i : ℕ) → r ≡ use_register f i → s ≡ use_register f i → r ≡ s
  use_named f i p q = p ∙ sym q
