-- Each number alone, joined phi by phi, its link made its root, only values' numbers kept: the table of the definition's roots.
use mathlib.Core.Path.{sym, subst}
use Rattle.classes.specs.Given.{Given}
use Rattle.classes.proofs.Whole.{classes_are}
use Rattle.classes.proofs.classes.Goals as goal

pub join_phis-requires : goal.join_phis-requires
join_phis-requires c = subst (Given _ _ _) (sym c.reset.auto.roots) c.requires

pub returns : goal.returns
returns c = classes_are _ _ _ _ c.type_inv.f c.requires _ _ _ _ c.reset.ensures c.join_phis.ensures c.flatten.ensures c.spare.ensures
