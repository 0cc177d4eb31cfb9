-- By the tag: each of the five picks its own case, and a number that is none of them falls through every test to an Opaque.
use native.Mathlib.Omega.{arith}
use Rattle.ssa.specs.Node.{node_by}
use Rattle.ssa.proofs.Laws.{by_tag, by_none}
use Rattle.ssa.proofs.node.node_at.Goals as goal

pub returns-in-1 : goal.returns-in-1
unfolding node_by
returns-in-1 c = let e = by_tag _ _ _ 1 c.expr_word.ensures c.in-1.is in cc

pub returns-in-2 : goal.returns-in-2
unfolding node_by
returns-in-2 c = let e = by_tag _ _ _ 2 c.expr_word.ensures c.in-2.is in cc

pub returns-in-3 : goal.returns-in-3
unfolding node_by
returns-in-3 c = let e = by_tag _ _ _ 3 c.expr_word.ensures c.in-3.is in cc

pub returns-in-4 : goal.returns-in-4
unfolding node_by
returns-in-4 c = let e = by_tag _ _ _ 4 c.expr_word.ensures c.in-4.is in cc

pub returns-in-5 : goal.returns-in-5
unfolding node_by
returns-in-5 c = let e = by_tag _ _ _ 5 c.expr_word.ensures c.in-5.is in cc

pub returns-in_default : goal.returns-in_default
returns-in_default c = by_none _ _ _ _ _ c.expr_word-a.ensures c.expr_word-b.ensures c.expr_word.ensures (λ e. omega arith) (λ e. omega arith) (λ e. omega arith) (λ e. omega arith) (λ e. omega arith)
