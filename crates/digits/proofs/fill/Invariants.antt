-- Filling i digits of what is left of v gives at every turn what filling n digits of v gives; with none left it is done.
use Rattle.digits.specs.Numeral.{ten_of, filled}
use mathlib.Core.Path.{◌≡◌}
use Rattle.digits.proofs.fill.Given as goal

abbrev pub invariant-loop-i : goal.invariant-loop-i
invariant-loop-i l = filled l.b (ten_of l.x) l.n l.v l.initial.dst ≡ filled l.b (ten_of l.x) l.i l.r l.dst
