use Rattle.std.proofs.Common.{rules, ◌+◌}
use Rattle.reads.specs.Counts.{placed}
use Rattle.reads.proofs.LastReader.{readers_start, readers_turn, readers_end}
use Rattle.reads.proofs.Visits.{exprs_low}
use mathlib.Core.Path.{refl, ap, ◌∙◌}
use Rattle.places.specs.declared.Places.{Places}
use native.Mathlib.Omega.{arith}
use Rattle.reads.proofs.readers.Goals as goal

pub loop-i-init : goal.loop-i-init
loop-i-init c = let k = c.requires.numbers in (readers_start _ _ _ k.own k.room k.clear, c.size_of-n.ensures, ap (λ (p : Places). p.exprs) c.places_of-p.ensures, omega arith, refl)

pub visit_stmt-requires-clause-base_bound : goal.visit_stmt-requires-clause-base_bound
visit_stmt-requires-clause-base_bound c = (exprs_low _ c.type_inv.f _ c.loop-i.invariant.2, omega arith)

pub loop-i-preserved : goal.loop-i-preserved
unfolding placed
loop-i-preserved c = let inv = c.loop-i.invariant in let k = c.requires.numbers in
    (readers_turn _ _ k.own k.room c.type_inv.f _ k.are _ inv.2 _ _ _ inv.0 (c.visit_stmt.ensures (placed (c.loop-i.i + 1)) (λ t n u p. search rules)), inv.1, inv.2, omega arith, c.visit_stmt.auto.tab ∙ inv.4)

pub returns : goal.returns
returns c = let inv = c.loop-i.invariant in readers_end _ _ _ _ _ inv.1 inv.3 c.loop-i-test.false inv.0
