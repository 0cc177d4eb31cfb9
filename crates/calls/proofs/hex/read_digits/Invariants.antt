-- The whole is v with the digits from the loop's index on behind it; a digit that does not fit makes it no number, and at the end none is left.
use mathlib.Core.Option.{some}
use mathlib.Core.Path.{◌≡◌}
use lib.ListN.{drop}
use Rattle.definition.specs.Numbers.{read_digits}
use Rattle.calls.proofs.hex.read_digits.Given as goal

abbrev pub invariant-loop-b : goal.invariant-loop-b
invariant-loop-b l = read_digits (some 0) l.digits ≡ read_digits (some l.v) (drop l.b-index l.digits)
