-- Only a Use names a value, of a register that is one of the sixteen as all that the file names; any other tag has key 0.
use Rattle.places.proofs.Reading.{use_is, use_none}
use Rattle.places.proofs.Registers.{use_small}
use native.Mathlib.Omega.{arith}
use mathlib.Core.Path.{sym, ◌∙◌}
use Rattle.places.proofs.key.expr_key.Goals as goal

pub returns-then-expr_word-ne-USE : goal.returns-then-expr_word-ne-USE
returns-then-expr_word-ne-USE c = use_none _ _ _ c.expr_word.ensures c.if-expr_word-ne-USE.true

pub value_key-requires : goal.value_key-requires
value_key-requires c = omega (arith, use_small _ c.requires.f_value _ c.requires.i_bound (sym c.expr_word.ensures ∙ c.if-expr_word-ne-USE.false))

pub returns : goal.returns
returns c = use_is _ _ _ _ _ c.value_key.ensures _ c.expr_word.ensures c.if-expr_word-ne-USE.false c.expr_word-2.ensures c.expr_word-3.ensures
