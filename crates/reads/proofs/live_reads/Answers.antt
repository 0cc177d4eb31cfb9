use Rattle.std.proofs.Common.{rules}
use Rattle.reads.specs.Counts.{raised}
use Rattle.reads.proofs.Live.{live_done}
use Rattle.reads.proofs.Visits.{exprs_low, live_start, live_turn, live_end}
use mathlib.Core.Path.{refl, ap, ◌∙◌}
use Rattle.places.specs.declared.Places.{Places}
use native.Mathlib.Omega.{arith}
use Rattle.reads.proofs.live_reads.Goals as goal

pub loop-i-init : goal.loop-i-init
loop-i-init c = (live_start _ _ _ _ _ _ c.size_of-n.ensures, c.size_of-n.ensures, ap (λ (p : Places). p.exprs) c.places_of-p.ensures, refl)

pub visit_stmt-requires-clause-base_bound : goal.visit_stmt-requires-clause-base_bound
visit_stmt-requires-clause-base_bound c = (exprs_low _ c.type_inv.f _ c.loop-i.invariant.2, omega arith)

pub loop-i-preserved : goal.loop-i-preserved
loop-i-preserved c = let inv = c.loop-i.invariant in (inv.0 ∙ live_turn _ _ _ _ _ _ _ _ c.loop-i-test.true (c.visit_stmt.ensures raised (λ t n u p. search rules)), inv.1, inv.2, c.visit_stmt.auto.tab ∙ inv.3)

pub returns : goal.returns
returns c = λ E. let inv = c.loop-i.invariant in live_end _ _ _ _ _ _ _ _ c.loop-i-test.false inv.0 ∙ live_done _ _ _ _ _ _ c.requires.numbers c.requires.runs c.type_inv.f c.type_inv.starts inv.2 E
