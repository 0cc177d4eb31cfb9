-- The definition compares exactly where the range has a sign to flip.
use Rattle.comparisons.proofs.Comparing.{sign_compares}
use mathlib.Core.Path.{◌∙◌}
use Rattle.comparisons.proofs.signs.compares.Goals as goal

pub returns : goal.returns
returns c = c.is_some.ensures ∙ sign_compares _ _ c.first_sign.ensures
