use native.Mathlib.Omega.{arith}
use mathlib.Core.Path.{◌≡◌, refl, ap, ◌∙◌}
use Rattle.definition.specs.Owners.{first_item}
use Rattle.naming.specs.Walk.{walked, stmt_spots}
use Rattle.definition.proofs.Runs.{lists_turn, lists_end}
use Rattle.naming.proofs.Standing.{stands_all, stands_made}
use Rattle.naming.proofs.statements.name_stmts.Goals as goal

pub loop-i-init : goal.loop-i-init
loop-i-init c = (refl, (stands_all _ _ _ _ _ c.requires.2).3, c.requires.0, refl, refl)

pub name_stmt-next-requires : goal.name_stmt-next-requires
name_stmt-next-requires c = (omega (arith, c.loop-i-test.true, c.requires.1), c.loop-i.invariant.1)

pub next_item-item-requires : goal.next_item-item-requires
next_item-item-requires c = (c.args.of.now.laid.own, omega (arith, c.loop-i-test.true, c.requires.1), c.loop-i.invariant.1)

pub loop-i-preserved : goal.loop-i-preserved
unfolding walked
loop-i-preserved c = let inv = c.loop-i.invariant in (inv.0 ∙ lists_turn (walked _) _ (λ S. refl) (λ S x xs. refl) (stmt_spots c.args.of.now.f.now) _ _ _ _ c.loop-i-test.true c.name_stmt-next.ensures, c.next_item-item.ensures, omega (arith, c.loop-i-test.true), c.name_stmt-next.auto.names ∙ inv.3, c.name_stmt-next.auto.seen ∙ inv.4)

pub returns : goal.returns
unfolding walked
returns c = let inv = c.loop-i.invariant in let e : c.loop-i.i ≡ c.args.b = omega (arith, inv.2, c.loop-i-test.false) in record { says = lists_end (walked _) _ (λ S. refl) (λ S x xs. refl) (stmt_spots c.args.of.now.f.now) _ _ _ _ c.loop-i-test.false inv.0; stands = stands_made _ _ _ _ _ _ (stands_all _ _ _ _ _ c.requires.2).2 (inv.1 ∙ ap (first_item c.args.of.now.f.now) e) }
