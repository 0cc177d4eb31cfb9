-- What the passes answer, and structuring as a whole: the one refusal, or what is left.
use Rattle.std.specs.Prelude.{Result}
use Rattle.passes.specs.declared.sweeps.TooDeep.{TooDeep}
use Rattle.structure.specs.declared.answers.Kept.{Kept}
use Rattle.structure.specs.declared.answers.Counts.{Counts}

abbrev pub Passes : Type 0
Passes = Result Kept TooDeep

abbrev pub Structured : Type 0
Structured = Result Counts TooDeep
