-- By the lookup's answer: a name that is found is the global's text; where there is none, the size's prefix and the address are.
use Rattle.text.proofs.Lookups.{global_unnamed, global_named}
use Rattle.leaf.proofs.Leaves.{leaf_as}
use Rattle.text.proofs.names.global_name.Goals as goal

pub returns-in-Some : goal.returns-in-Some
returns-in-Some c = leaf_as c.name_text.ensures (global_named _ _ _ _ _ c.name_for.ensures _ c.in-Some.is)

pub returns-in-None : goal.returns-in-None
returns-in-None c = leaf_as c.behind.ensures (global_unnamed _ _ _ _ _ c.name_for.ensures _ c.size_prefix.ensures c.in-None.is)
