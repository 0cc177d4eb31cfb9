-- The target is there where the field says so.
use Rattle.ssa.proofs.Views.{option_by}
use Rattle.jumps.proofs.targets.own.Goals as goal

pub returns : goal.returns
returns c = rw (c.then_some.ensures, c.stmt_field.ensures, c.stmt_long.ensures) (option_by (λ x. x) _ _)
