-- A phi of RSP and a dead one name nothing; any other names itself, then its inputs, which begin where the contract says.
use Rattle.naming.specs.Walk.{input_spot}
use Rattle.std.proofs.Common.{rules}
use native.Mathlib.Omega.{arith}
use mathlib.Core.Path.{ap}
use Rattle.places.specs.declared.Places.{Places}
use Rattle.naming.proofs.Walking.{phi_rsp, phi_dead, phi_live}
use Rattle.naming.proofs.Small.{phis_small}
use Rattle.naming.proofs.phis.name_phi.Goals as goal

pub returns-then-v-eq-RSP : goal.returns-then-v-eq-RSP
returns-then-v-eq-RSP c = phi_rsp _ _ _ _ _ _ c.phi_value-v.ensures c.if-v-eq-RSP.true

pub returns-then-phi_word-eq1 : goal.returns-then-phi_word-eq1
returns-then-phi_word-eq1 c = phi_dead _ _ _ _ _ _ c.phi_value-v.ensures c.if-v-eq-RSP.false _ c.phi_word.ensures c.if-phi_word-eq1.true

pub overflow_add-p : goal.overflow_add-p
overflow_add-p c = omega (arith, phis_small c.args.of.now.f.now c.args.of.now.bytes, ap (λ (p : Places). p.phis) c.args.of.now.laid.are)

pub returns : goal.returns
returns c = phi_live _ _ _ _ _ _ c.phi_value-v.ensures c.if-v-eq-RSP.false _ c.phi_word.ensures c.if-phi_word-eq1.false _ _ _ _ _ c.args.of.now.laid.are c.requires.0 c.phi_inputs.ensures c.name_key-next.ensures (c.name_run.ensures (input_spot c.args.of.now.f.now c.args.i) (λ k m p. search rules))
