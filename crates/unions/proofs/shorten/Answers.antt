use native.Mathlib.Omega.{arith}
use mathlib.Core.Path.{refl, sym, ◌∙◌}
use Rattle.unions.proofs.Labels.{short_table, short_on}
use Rattle.unions.proofs.Orders.{less_falls}
use Rattle.unions.proofs.shorten.Goals as goal

pub loop-roots-init : goal.loop-roots-init
loop-roots-init c = (refl, refl, c.requires, c.get-p.ensures, omega arith, omega arith)

pub loop-roots-smaller : goal.loop-roots-smaller
loop-roots-smaller c = less_falls _ _ _ (sym c.less.ensures ∙ c.loop-roots-test.true)

pub loop-roots-preserved : goal.loop-roots-preserved
loop-roots-preserved c = let inv = c.loop-roots.invariant in
    let down = sym c.less.ensures ∙ c.loop-roots-test.true in (
      short_table _ _ _ _ _ inv.3 down inv.2 _ c.put.ensures ∙ inv.0,
      c.put.auto.l ∙ inv.1,
      short_on _ _ _ _ _ inv.3 down inv.2 _ c.put.ensures,
      c.get-p-in-loop-roots.ensures,
      omega arith,
      omega arith,
    )

pub returns : goal.returns
returns c = c.loop-roots.invariant.0
