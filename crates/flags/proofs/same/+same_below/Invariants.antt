-- Trees are equal where the heads are the same and the children equal; a node that has children is below its bound, so the bound falls.
use Rattle.flags.proofs.same.+same_below.Given as goal

abbrev pub decreases-same_below : goal.decreases-same_below
decreases-same_below l = l.m
