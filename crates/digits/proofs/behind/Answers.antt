-- Without room for the front, or for the digits behind it, nothing is touched; where the digits fit behind it, so does the front.
use lib.ListN.{length}
use Prim.Native.Nat.{◌+◌, ◌≤◌}
use Rattle.leaf.proofs.Leaves.{no_front, no_end, end_count, front_told, both_told}
use Rattle.digits.specs.Numeral.{numeral}
use native.Mathlib.Omega.{arith}
use mathlib.Core.Path.{refl}
use Rattle.digits.proofs.behind.Goals as goal

pub returns-then-dst-n : goal.returns-then-dst-n
returns-then-dst-n c = let a = c.args in no_front a.front.now (numeral a.x a.v) _ _ refl c.if-dst-n.true

pub returns-in_err-m : goal.returns-in_err-m
returns-in_err-m c = let a = c.args in
    no_end a.front.now (numeral a.x a.v) _ _ refl _ _ _ c.if-dst-n.false c.digits.ensures c.in_err-m.was c.from_residual.ensures.0

pub overflow_add-result : goal.overflow_add-result
overflow_add-result c = let a = c.args in
    let k : length a.front.now + c.in_ok-m.m ≤ length a.dst.now =
    end_count a.front.now (numeral a.x a.v) a.dst.now _ refl _ _ _ c.if-dst-n.false c.digits.ensures c.in_ok-m.was in
    omega arith

pub returns-in_err-copy : goal.returns-in_err-copy
returns-in_err-copy c = let a = c.args in
    front_told a.front.now (numeral a.x a.v) _ _ refl _ _ _ _ _ c.if-dst-n.false c.digits.ensures c.in_ok-m.was c.copy.ensures c.in_err-copy.was

pub returns : goal.returns
returns c = let a = c.args in
    both_told a.front.now (numeral a.x a.v) _ _ refl _ _ _ _ _ c.if-dst-n.false c.digits.ensures c.in_ok-m.was c.copy.ensures
