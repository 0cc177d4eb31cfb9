-- The contract is an equation for the answer, so no second one meets it.
use mathlib.Core.Path.{◌≡◌, sym, ◌∙◌}
use mathlib.Core.List.{List}
use Prim.Native.Nat.{ℕ}
use Rattle.std.specs.Prelude.{Option}
use Rattle.later.specs.Search.{later_read}

pub later_read_lem : (f : List ℕ) (i end reader loads : ℕ) (r s : Option ℕ) → r ≡ later_read f i end reader loads → s ≡ later_read f i end reader loads → r ≡ s
later_read_lem f i end reader loads r s p q = p ∙ sym q
