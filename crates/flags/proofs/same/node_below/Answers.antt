-- Below the bound it is the record's node; any other is an Opaque without text, as the definition has it.
use Rattle.flags.specs.Nodes.{no_text}
use Rattle.flags.proofs.Nodes.{node_in, node_out}
use Rattle.flags.proofs.same.node_below.Goals as goal

pub returns-then-a-m : goal.returns-then-a-m
returns-then-a-m c = node_in _ _ _ _ c.if-a-m.true c.node_at.ensures

pub returns : goal.returns
unfolding no_text
returns c = node_out _ _ _ c.if-a-m.false
