-- A node has its own register and version, and expressions' places begin where the table says.
use Rattle.naming.proofs.Walking.{use_spot_lem}
use Rattle.naming.proofs.Small.{exprs_small}
use Rattle.places.specs.declared.Places.{Places}
use native.Mathlib.Omega.{arith}
use mathlib.Core.Path.{ap}
use Rattle.naming.proofs.runs.use_mention.Goals as goal

pub overflow_add-result : goal.overflow_add-result
overflow_add-result c = omega (arith, exprs_small c.args.of.now.f.now c.args.of.now.bytes, ap (λ (p : Places). p.exprs) c.args.of.now.laid.are)

pub returns : goal.returns
returns c = use_spot_lem _ _ _ _ c.args.of.now.laid.are _ _ _ c.get-n.ensures c.expr_word.ensures c.expr_word-2.ensures
