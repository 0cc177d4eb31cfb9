-- The contract of this crate fixes the tables that are left, so no second ones meet it.
use mathlib.Core.Path.{◌≡◌, sym, ◌∙◌}
use mathlib.Core.List.{List}
use Prim.Native.Nat.{ℕ}
use Rattle.definition.specs.Edition.{Edition}
use Rattle.definition.specs.Values.{Value}
use Rattle.naming.specs.Given.{Told, NamesAll}

pub naming : (E : Edition) (p : Value → ℕ) (f : List ℕ) (n : ℕ) (roots places entry a b s t : List ℕ) → Told E p f n roots places entry
    → NamesAll f n roots places entry a s → NamesAll f n roots places entry b t → (a ≡ b) × (s ≡ t)
naming E p f n roots places entry a b s t told x y = (x.says E p told ∙ sym (y.says E p told), x.cleared ∙ sym y.cleared)
