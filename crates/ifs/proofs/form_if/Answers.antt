-- The head turned, the body raised, the closing brace put in at the head's indent: these changes in order are the if formed.
use Rattle.outline.proofs.Moves.{indent_small}
use Rattle.passes.proofs.Forms.{form_if_lem}
use lib.ListN.{length-set}
use mathlib.Core.Path.{refl}
use native.Mathlib.Omega.{arith}
use Rattle.ifs.proofs.form_if.Goals as goal

pub raise-requires : goal.raise-requires
raise-requires c = (omega arith, omega (arith, length-set c.args.rows.now c.args.k c.turn.result))

pub overflow_mul-indent_of : goal.overflow_mul-indent_of
overflow_mul-indent_of c = omega (arith, indent_small c.get-w.result)

pub overflow_add-indent_of : goal.overflow_add-indent_of
overflow_add-indent_of c = omega (arith, indent_small c.get-w.result)

pub insert_row-requires : goal.insert_row-requires
insert_row-requires c = (omega arith, omega (arith, c.raise.auto.rows, length-set c.args.rows.now c.args.k c.turn.result))

pub returns : goal.returns
returns c = form_if_lem _ _ _ _ _ _ _ _ _ _ c.get-w.ensures c.turn.ensures c.indent_of.ensures refl c.raise.ensures c.insert_row.ensures
