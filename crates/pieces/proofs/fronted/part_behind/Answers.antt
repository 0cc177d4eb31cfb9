-- Where the front, or the part behind it, does not fit, nothing is touched; where both do, the two written are one text.
use mathlib.Core.Path.{refl}
use native.Mathlib.Omega.{arith}
use Rattle.definition.specs.Words.{part}
use Rattle.leaf.proofs.Leaves.{no_front, no_end, end_count, front_told, both_told}
use Prim.Native.Nat.{◌+◌, ◌≤◌}
use lib.ListN.{length}
use Rattle.pieces.proofs.fronted.part_behind.Goals as goal

pub returns-then-dst-k : goal.returns-then-dst-k
returns-then-dst-k c = let a = c.args in no_front a.front.now (part a.f.now a.at a.n) _ _ refl c.if-dst-k.true

pub returns-in_err-m : goal.returns-in_err-m
returns-in_err-m c = let a = c.args in
    no_end a.front.now (part a.f.now a.at a.n) _ _ refl _ _ _ c.if-dst-k.false c.copy_part.ensures c.in_err-m.was c.from_residual.ensures.0

pub overflow_add-result : goal.overflow_add-result
overflow_add-result c = let a = c.args in
    let k : length a.front.now + c.in_ok-m.m ≤ length a.dst.now =
    end_count a.front.now (part a.f.now a.at a.n) a.dst.now _ refl _ _ _ c.if-dst-k.false c.copy_part.ensures c.in_ok-m.was in
    omega arith

pub returns-in_err-copy : goal.returns-in_err-copy
returns-in_err-copy c = let a = c.args in
    front_told a.front.now (part a.f.now a.at a.n) _ _ refl _ _ _ _ _ c.if-dst-k.false c.copy_part.ensures c.in_ok-m.was c.copy.ensures c.in_err-copy.was

pub returns : goal.returns
returns c = let a = c.args in
    both_told a.front.now (part a.f.now a.at a.n) _ _ refl _ _ _ _ _ c.if-dst-k.false c.copy_part.ensures c.in_ok-m.was c.copy.ensures
