-- Where w begins at i it is there; else what stands behind i decides, and at the end only the empty text is there.
use Rattle.definition.specs.Texts.{contains}
use mathlib.Core.Path.{◌≡◌}
use lib.ListN.{drop}
use Rattle.words.proofs.contains_text.Given as goal

abbrev pub invariant-loop-i : goal.invariant-loop-i
invariant-loop-i l = contains l.w l.s ≡ contains l.w (drop l.i l.s)
