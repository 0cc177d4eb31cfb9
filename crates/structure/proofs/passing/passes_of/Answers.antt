-- Each pass starts from the rows that the one before it left; a refusal ends the run there, else what the third leaves is the answer.
use mathlib.Core.Path.{ap, ◌∙◌}
use Rattle.passes.proofs.Turns.{refused}
use Rattle.structure.specs.Answers.{Passes}
use Rattle.structure.specs.Runs.{ran}
use Rattle.structure.proofs.Running.{ifs_refused, loops_refused, all_left}
use Rattle.structure.proofs.passing.passes_of.Goals as goal

pub returns-in_err-ifs : goal.returns-in_err-ifs
returns-in_err-ifs c = ap (λ (r : Passes). ran r c.structure_ifs.new.rows) (refused _ c.from_residual.ensures.0) ∙ ifs_refused _ _ _ _ _ _ c.structure_ifs.ensures c.in_err-ifs.was

pub returns-in_err-loops : goal.returns-in_err-loops
returns-in_err-loops c = ap (λ (r : Passes). ran r c.structure_do_while.new.rows) (refused _ c.from_residual-in_err-loops.ensures.0)
    ∙ loops_refused _ _ _ _ _ _ c.structure_ifs.ensures _ c.in_ok-ifs.was _ _ _ c.structure_do_while.ensures c.in_err-loops.was

pub returns : goal.returns
returns c = all_left _ _ _ _ _ _ c.structure_ifs.ensures _ c.in_ok-ifs.was _ _ _ c.structure_do_while.ensures _ c.in_ok-loops.was _ _ c.drop_unused_labels-left.ensures
