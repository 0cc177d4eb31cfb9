-- Past the expressions, no Load, or a child that is not lower: no slot; otherwise the offset of the lower child decides.
use mathlib.Core.Path.{◌∙◌}
use borrow.Author.Tests.{le-ltb}
use Rattle.plain.proofs.Loading.{load_past, load_other, load_high, load_low}
use Rattle.plain.proofs.assign.is_stack_load.Goals as goal
use Rattle.plain.proofs.assign.is_stack_load.Goals.{then-n-size_of-via-then-n-size_of, then-n-size_of-via-else-n-size_of+then-expr_word-ne-LOAD}

pub returns-then-n-size_of : goal.returns-then-n-size_of
returns-then-n-size_of c = λ E s.
    elim c.then-n-size_of.branch [
      | then-n-size_of-via-then-n-size_of w ↦ load_past E _ _ _ c.size_of.ensures w.if-n-size_of.true
      | then-n-size_of-via-else-n-size_of+then-expr_word-ne-LOAD w ↦ load_other E _ _ _ c.size_of.ensures w.if-n-size_of.false _ w.expr_word.ensures w.if-expr_word-ne-LOAD.true
    ]

pub returns-then-a-n : goal.returns-then-a-n
returns-then-a-n c = λ E s. load_low E _ _ _ c.size_of.ensures c.if-n-size_of.false _ c.expr_word.ensures c.if-expr_word-ne-LOAD.false _ c.expr_word-a.ensures _ c.if-a-n.true (c.stack_off.ensures E _ s (c.args.src.now.told.known E s))

pub returns-else-a-n : goal.returns-else-a-n
returns-else-a-n c = λ E s. le-ltb _ _ c.if-a-n.false ∙ (load_high E _ _ _ c.size_of.ensures c.if-n-size_of.false _ c.expr_word.ensures c.if-expr_word-ne-LOAD.false _ c.expr_word-a.ensures c.if-a-n.false)
