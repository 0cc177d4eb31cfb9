-- A dead one has no line; with a condition its lines are the conditional's, without one the plain branch's, as its record says.
use Rattle.jumps.proofs.Branching.{branch_dead, branch_if_lem, branch_plain}
use Rattle.jumps.proofs.branch.branch.Goals as goal

pub returns-then-is_dead : goal.returns-then-is_dead
returns-then-is_dead c = λ E pend set s regs. branch_dead E _ _ _ _ _ c.requires.branch_at set regs pend _ _ c.is_dead.ensures _ c.if-is_dead.true

pub conditional-requires : goal.conditional-requires
conditional-requires c = record { block_bound = c.requires.branch_at.inside; set = c.requires.set }

pub returns-then-stmt_field-eq1 : goal.returns-then-stmt_field-eq1
returns-then-stmt_field-eq1 c = λ E pend set s regs. branch_if_lem E _ _ _ _ _ c.requires.branch_at set regs pend _ _ c.is_dead.ensures _ _ c.if-is_dead.false _ c.stmt_field.ensures c.if-stmt_field-eq1.true (c.conditional.ensures E s)

pub returns : goal.returns
returns c = λ E pend set s regs. branch_plain E _ _ _ _ _ c.requires.branch_at set regs pend _ _ c.is_dead.ensures _ _ c.if-is_dead.false _ c.stmt_field.ensures c.if-stmt_field-eq1.false (c.plain_branch.ensures E s)
