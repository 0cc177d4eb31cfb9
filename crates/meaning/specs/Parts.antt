-- Check 6 but for what is defined once.
use Rattle.std.specs.Prelude.{Bool, not, ◌&&◌, ◌||◌, List, ℕ, eqb}
use Rattle.definition.specs.Edition.{Edition, statements}
use Rattle.definition.specs.Lists.{all_below, among, distinct}
use Rattle.definition.specs.Contents.{size}
use Rattle.definition.specs.Values.{RSP}
use Rattle.definition.specs.Meaning.{bits, arg_regs, starts, rising, registers, targeted}

unfoldable pub rest_sound : Edition → List ℕ → Bool
rest_sound E f =
    (eqb (bits f) 32 || eqb (bits f) 64) && registers f && distinct (arg_regs f) && not (among RSP (arg_regs f))
    && distinct (starts f) && rising f && all_below (size f statements) (targeted E f)
