-- Tests joined by `&&`: in another order, and where the first decides.
use mathlib.Core.Path.{◌≡◌, refl}
use mathlib.Core.Bool.{Bool, true, false, not, ◌&&◌}
use borrow.Author.Tests.{not-true, not-false}

pub and_cross : (a b c d : Bool) → (a && b && (c && d)) ≡ (a && c && (b && d))
and_cross true true c d = refl
and_cross true false true d = refl
and_cross true false false d = refl
and_cross false b c d = refl

-- one test behind the other; shut, so that a proof that cites the laws need not write the tests
unfoldable pub also : Bool → Bool → Bool
also a b = a && b

pub also_stop : {a t : Bool} (b : Bool) → t ≡ a → not t ≡ true → false ≡ also a b
unfolding also
also_stop {a} {t} b e h = rw (← e, not-true t h)

pub also_go : {a b t u : Bool} → t ≡ a → not t ≡ false → u ≡ b → u ≡ also a b
unfolding also
also_go {a} {b} {t} e h k = rw (← e, not-false t h) k

pub also_four : (a b c d : Bool) → also a (also b (also c d)) ≡ (a && b && c && d)
unfolding also
also_four false b c d = refl
also_four true false c d = refl
also_four true true c d = refl
