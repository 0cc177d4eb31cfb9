-- The finds change no root and answer the roots of a and b; a link from the greater to the lesser makes one class of the two.
use Rattle.unions.proofs.Labels.{union_is}
use Rattle.unions.proofs.union.Goals as goal

pub returns : goal.returns
returns c = union_is _ _ _ _ _ _ _ _ _ c.requires c.find-x.auto.roots c.find-y.auto.roots c.find-x.ensures c.find-y.ensures c.link.ensures
