-- Numbers that differ, and names that rise: what the tests of all numbers say.
use mathlib.Core.Path.{◌≡◌, refl}
use mathlib.Core.Bool.{Bool, not}
use mathlib.Core.List.{List}
use Prim.Native.Nat.{ℕ, ◌+◌, ◌-◌}
use lib.Dec.{eqb, ltb}
use Rattle.definition.specs.Edition.{args, names}
use Rattle.definition.specs.Lists.{all_below, among}
use Rattle.definition.specs.Contents.{size, arg_at, name_long}
use Rattle.definition.specs.Values.{RSP}
use Rattle.definition.specs.Meaning.{arg_regs, rising}
use Rattle.meaning.proofs.Twice.{among_below}

module _ (f : List ℕ) where
  abbrev pub arg_spares : ℕ → Bool
  arg_spares i = not (eqb RSP (arg_at f i))

  abbrev pub name_rises : ℕ → Bool
  name_rises i = ltb (name_long f i 0) (name_long f (i + 1) 0)

  pub args_spare : (n : ℕ) → n ≡ size f args → all_below n arg_spares ≡ not (among RSP (arg_regs f))
  unfolding arg_regs
  args_spare n e = rw (e, among_below RSP (arg_at f) (size f args)) refl

  pub names_rise : (n : ℕ) → n ≡ size f names → all_below (n - 1) name_rises ≡ rising f
  unfolding rising
  names_rise n e = rw e refl
