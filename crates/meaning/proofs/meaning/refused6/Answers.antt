-- Where the rest fails, the file is refused and the scratch is still zeros; else what is defined once decides, and leaves zeros.
use mathlib.Core.Path.{◌∙◌}
use Rattle.std.proofs.Common.{arith}
use Rattle.std.proofs.lemmas.Bool.Decides.{nat_tests}
use Rattle.definition.specs.Meaning.{refused6}
use Rattle.meaning.specs.Parts.{rest_sound}
use Rattle.meaning.proofs.meaning.refused6.Goals as goal
use Rattle.meaning.proofs.meaning.refused6.Goals.{then-rest_sound, else-rest_sound}

pub returns : goal.returns
unfolding refused6 rest_sound
returns c = elim c.if-rest_sound.branch [
  | then-rest_sound w ↦ (grind (arith, nat_tests), w.scratch-is ∙ w.defined_once.ensures.1)
  | else-rest_sound w ↦ (grind (arith, nat_tests), w.scratch-is ∙ c.requires.scratch_value)
]
