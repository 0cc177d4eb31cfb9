-- By the tag: a Use puts itself, any other what its children put, left first; a child is bounded by x, which is below b, so b falls.
use Rattle.uses.proofs.order.+write_uses.Given as goal

abbrev pub decreases-write_uses : goal.decreases-write_uses
decreases-write_uses l = l.b
