-- The text's bytes are a part of the file, and the definition's test of all of a list is the library's.
use mathlib.Core.Path.{◌≡◌, refl, ap, ◌∙◌}
use mathlib.Core.Bool.{Bool, ◌&&◌}
use mathlib.Core.List.{List, [], ◌∷◌}
use Prim.Native.Nat.{ℕ, ◌+◌}
use native.Mathlib.Omega.{arith}
use Rattle.std.specs.List.{list_all}
use Rattle.definition.specs.Edition.{Edition}
use Rattle.definition.specs.Words.{part}
use Rattle.definition.specs.Contents.{offset, size, text, text_at}
use Rattle.definition.specs.Lists.{all}
use Rattle.definition.specs.References.{printable}

pub all_listed : (p : ℕ → Bool) (l : List ℕ) → list_all p l ≡ all p l
unfolding all
all_listed p [] = refl
all_listed p (x ∷ l) = ap (λ (b : Bool). p x && b) (all_listed p l)

pub text_part : (E : Edition) (f : List ℕ) (s o n : ℕ) (r : Bool) → s ≡ text E → o ≡ offset f s → n ≡ size f s
    → r ≡ all printable (part f o n) → r ≡ all printable (text_at E f 0 (size f (text E)))
unfolding text_at
text_part E f s o n r p q u h =
    let z : o + 0 ≡ o = omega arith in
    h ∙ rw (← p, ← q, ← u, z)
