-- A node is rendered behind all statements, an assigned value by its statement; either is what is to be printed of the operand.
use Rattle.conditions.proofs.Pairing.{operand_assigns, operand_node, operand_assigned}
use Rattle.conditions.proofs.operands.put_operand.Goals as goal

pub put_assigned-requires : goal.put_assigned-requires
put_assigned-requires c = operand_assigns _ _ _ c.requires c.in-Assigned.is

pub returns-in-Node : goal.returns-in-Node
returns-in-Node c = λ E e. operand_node _ _ E _ _ _ _ c.in-Node.is c.size_of-pos.ensures (c.expr.ensures E e)

pub returns-in-Assigned : goal.returns-in-Assigned
returns-in-Assigned c = λ E e. operand_assigned _ _ E _ _ _ c.in-Assigned.is (c.put_assigned.ensures E e)
