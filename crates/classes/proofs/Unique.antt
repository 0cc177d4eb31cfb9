-- The public contract says the table exactly: it is an equation for every edition, and there is one.
use mathlib.Core.Path.{◌≡◌, sym, ◌∙◌}
use mathlib.Core.List.{List}
use Prim.Native.Nat.{ℕ}
use Rattle.definition.specs.Edition.{Edition, edition1}
use Rattle.definition.specs.Read.{read}
use Rattle.definition.specs.Classes.{find, classes}
use Rattle.places.specs.Keys.{key_of, keyed}
use Rattle.values.specs.Tables.{number_of, table}

-- the contract, of a table r of n places
abbrev Says : List ℕ → ℕ → List ℕ → Type 0
Says f n r = (E : Edition) → r ≡ table f n (λ v. number_of (keyed f n) (key_of (find (classes (read E f)) v)))

pub classes_said : (f : List ℕ) (n : ℕ) (r s : List ℕ) → Says f n r → Says f n s → r ≡ s
classes_said f n r s p q = p edition1 ∙ sym (q edition1)
