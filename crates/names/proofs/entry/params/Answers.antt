use Rattle.names.proofs.Entered.{params_count}
use Rattle.names.proofs.Params.{is_read, last_found, last_turn, last_none}
use Rattle.names.specs.Spots.{up_to}
use Rattle.definition.specs.Edition.{Edition}
use mathlib.Core.Path.{◌≡◌, sym, ap, ◌∙◌}
use Prim.Native.Nat.{◌+◌, ◌-◌}
use native.Mathlib.Omega.{arith}
use Rattle.names.proofs.entry.params.Goals as goal

pub loop-i-init : goal.loop-i-init
loop-i-init c = (ap (up_to (is_read c.args.numbers.now c.args.entry.now)) (sym c.size_of-i.ensures), omega (arith, c.size_of-i.ensures))

pub returns-then-get-ne0 : goal.returns-then-get-ne0
returns-then-get-ne0 c = let inv = c.loop-i.invariant in
    let q : c.loop-i.i - 1 + 1 ≡ c.loop-i.i = omega (arith, c.loop-i-test.true) in
    record { few = omega (arith, inv.1); says = λ (E : Edition) e. q ∙ sym (sym (params_count c.args.f.now c.type_inv.f c.args.numbers.now c.requires E c.args.entry.now e) ∙ inv.0 ∙ last_found _ _ _ _ _ c.loop-i-test.true c.get.ensures c.get-in-loop-i.ensures c.if-get-ne0.true) }

pub loop-i-preserved : goal.loop-i-preserved
loop-i-preserved c = let inv = c.loop-i.invariant in (inv.0 ∙ last_turn _ _ _ _ _ c.loop-i-test.true c.get.ensures c.get-in-loop-i.ensures c.if-get-ne0.false, omega (arith, inv.1))

pub returns : goal.returns
returns c = let inv = c.loop-i.invariant in let z : c.loop-i.i ≡ 0 = omega arith in record { few = omega arith; says = λ (E : Edition) e. sym (sym (params_count c.args.f.now c.type_inv.f c.args.numbers.now c.requires E c.args.entry.now e) ∙ inv.0 ∙ last_none _ _ _ z) }
