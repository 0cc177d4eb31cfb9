-- An item has its own value, and items' places begin where the table says.
use Rattle.naming.proofs.Walking.{item_spot_lem}
use Rattle.naming.proofs.Small.{items_small}
use Rattle.places.specs.declared.Places.{Places}
use native.Mathlib.Omega.{arith}
use mathlib.Core.Path.{ap}
use mathlib.Core.List.{[]}
use Rattle.naming.proofs.runs.item_mention.Goals as goal

pub overflow_add-result : goal.overflow_add-result
overflow_add-result c = omega (arith, items_small c.args.of.now.f.now c.args.of.now.bytes, ap (λ (p : Places). p.items) c.args.of.now.laid.are)

pub returns : goal.returns
returns c = item_spot_lem _ [] _ _ c.args.of.now.laid.are _ c.item_value.ensures
