-- Behind every leading sub_ is what the definition reads: where it spells no number there is no name, else the number's name is looked up.
use native.Mathlib.Omega.{arith}
use Rattle.words.proofs.Parts.{size_most}
use Rattle.calls.proofs.Naming.{index_none, index_found}
use mathlib.Core.Path.{◌∙◌}
use Rattle.calls.proofs.direct.name_of.Goals as goal

pub overflow_add-at : goal.overflow_add-at
overflow_add-at c = let a = c.args in omega (arith, size_most a.f.now a.at a.n, c.trim_sub-k.ensures.within)

pub overflow_sub-n : goal.overflow_sub-n
overflow_sub-n c = let a = c.args in omega (arith, size_most a.f.now a.at a.n, c.trim_sub-k.ensures.within)

pub returns-in_err-a : goal.returns-in_err-a
returns-in_err-a c = c.from_residual.ensures ∙ index_none _ _ _ _ c.trim_sub-k.ensures _ c.read_hex.ensures c.in_err-a.was

pub returns : goal.returns
returns c = index_found _ _ _ _ c.trim_sub-k.ensures _ c.read_hex.ensures _ _ c.in_ok-a.was c.name_for.ensures
