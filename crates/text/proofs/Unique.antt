-- The writers have the one contract of writers, which no second result meets (`leaf`, in the crate of that name). The other functions' contracts are
-- equations for the answer.
use mathlib.Core.Path.{◌≡◌}
use mathlib.Core.Bool.{Bool}
use mathlib.Core.List.{List}
use Prim.Native.Nat.{ℕ}
use Rattle.definition.specs.Registers.{callee_saved}
use Rattle.definition.proofs.Unique.{equation}
use Rattle.std.specs.Prelude.{Option}
use Rattle.records.specs.Options.{answer_of}
use Rattle.text.specs.Supplied.{name_index, is_global}

pub name_for_lem : (f : List ℕ) (a : ℕ) (r s : Option ℕ) → r ≡ answer_of (name_index f a) → s ≡ answer_of (name_index f a) → r ≡ s
name_for_lem f a = equation (answer_of (name_index f a))

pub is_global_lem : (c : ℕ) (r s : Bool) → r ≡ is_global c → s ≡ is_global c → r ≡ s
is_global_lem c = equation (is_global c)

pub callee_saved_lem : (n : ℕ) (r s : Bool) → r ≡ callee_saved n → s ≡ callee_saved n → r ≡ s
callee_saved_lem n = equation (callee_saved n)
