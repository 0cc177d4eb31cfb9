-- Blocks are few, so that the number behind b fits.
use native.Mathlib.Omega.{arith}
use Rattle.definition.specs.Edition.{blocks}
use Rattle.records.proofs.Items.{size_small}
use Rattle.labels.proofs.is_next.Goals as goal

pub overflow_add-c : goal.overflow_add-c
overflow_add-c c = omega (arith, size_small c.args.f.now c.type_inv.f blocks, c.requires)
