-- The expressions of a statement stand before its values; all items are few, so the sums fit.
use native.Mathlib.Omega.{arith}
use mathlib.Core.Path.{refl, ap₂}
use Prim.Native.Nat.{◌+◌}
use Rattle.defined.specs.Defined.{first_value}
use Rattle.records.proofs.Laws.{both_items}
use Rattle.records.proofs.Items.{items_fit, exprs_fit}
use Rattle.defined.proofs.statement.Statement.first_value.Goals as goal

pub overflow_add-result : goal.overflow_add-result
overflow_add-result c = let s = c.args.self in omega (arith, c.expr_items.ensures, exprs_fit s.f.now s.few s.i refl s.inside s.begins)

pub returns-clause-place : goal.returns-clause-place
unfolding first_value
returns-clause-place c = ap₂ ◌+◌ c.args.self.begins c.expr_items.ensures

pub returns-clause-fits : goal.returns-clause-fits
returns-clause-fits c = let s = c.args.self in omega (arith, items_fit s.f.now s.few s.i refl s.inside s.begins, both_items s.f.now s.i _ _ c.expr_items.ensures refl)
