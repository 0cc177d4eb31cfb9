-- The two searches end where the definition's recursions do: no `goto`, or no Symbol behind it, is no target, else that Symbol is.
use Rattle.sorts.proofs.Searches.{found_is, found_none}
use Rattle.sorts.proofs.Targets.{target_none, target_found}
use Rattle.sorts.specs.Places.{target_text}
use native.Mathlib.Omega.{arith}
use mathlib.Core.Path.{refl, sym, ap, ◌∙◌}
use Rattle.sorts.proofs.lines.goto_target.Goals as goal

pub returns-in_err-g : goal.returns-in_err-g
returns-in_err-g c = let a = c.args in ap (target_text a.tokens.now a.text.now) c.from_residual.ensures ∙ target_none a.tokens.now a.text.now a.a a.e _ refl (found_none _ _ c.in_err-g.ensures)

pub overflow_add-g : goal.overflow_add-g
overflow_add-g c = let f = found_is _ _ _ c.in_ok-g.ensures in omega (arith, f.0, f.1)

pub returns : goal.returns
returns c = let a = c.args in let f = found_is _ _ _ c.in_ok-g.ensures in target_found a.tokens.now a.text.now a.a a.e _ (sym f.0) (omega (arith, f.0, f.1)) _ refl _ c.symbol_at.ensures
