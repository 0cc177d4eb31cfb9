-- An expression whose tag was read: a Use names the register of its word 1, any other names none.
use mathlib.Core.Path.{◌≡◌, ap, ◌∙◌}
use mathlib.Core.Bool.{Bool, true}
use mathlib.Core.List.{List}
use Prim.Native.Nat.{ℕ}
use borrow.Author.Tests.{eq-eqb, ne_eqb}
use Rattle.definition.specs.Contents.{expr_word}
use Rattle.definition.specs.Meaning.{is_register, use_register}

module _ (f : List ℕ) where
  pub use_not : (i w : ℕ) → w ≡ expr_word f i 0 → (w ≡ 2 → ⊥) → true ≡ use_register f i
  unfolding use_register
  use_not i w e h = rw (← e, ne_eqb w 2 h)

  pub use_is : (i w r : ℕ) (t : Bool) → w ≡ expr_word f i 0 → w ≡ 2 → r ≡ expr_word f i 1 → t ≡ is_register r → t ≡ use_register f i
  unfolding use_register
  use_is i w r t e h k l = rw (← e, eq-eqb w 2 h) (l ∙ ap is_register k)
