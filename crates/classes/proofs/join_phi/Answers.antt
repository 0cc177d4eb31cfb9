-- RSP's phi joins nothing; any other joins its number with those at its inputs' places, all of which are inside.
use mathlib.Core.Path.{refl}
use Rattle.classes.proofs.Turns.{phi_count, phi_rsp, phi_joins, run_asks}
use Rattle.classes.proofs.join_phi.Goals as goal

pub returns-then-of_rsp : goal.returns-then-of_rsp
returns-then-of_rsp c = phi_rsp _ _ _ _ _ _ _ c.phi_at-phi.ensures c.of_rsp.ensures c.if-of_rsp.true

pub join_run-requires : goal.join_run-requires
join_run-requires c = run_asks _ _ _ _ c.requires.0 _ _ _ _ refl c.requires.1 c.requires.2 _ (phi_count _ _ _ c.phi_at-phi.ensures)

pub returns : goal.returns
returns c = phi_joins _ _ _ _ _ _ _ c.phi_at-phi.ensures c.of_rsp.ensures _ _ _ _ c.if-of_rsp.false c.requires.2 c.get-a.ensures c.join_run.ensures
