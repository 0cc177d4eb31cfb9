-- Front and digits are one text, the end another behind it: one of them has no room and nothing is touched, or both are written.
use lib.ListN.{length}
use mathlib.Core.Path.{◌≡◌, ap, ◌∙◌}
use Prim.Native.Nat.{ℕ, ◌+◌, ◌*◌, ◌≤◌}
use Rattle.digits.proofs.Texts.{pointer_size, pointer_is}
use Rattle.leaf.proofs.Leaves.{leaf_as, no_front, no_end, end_count, both_told, front_told}
use Rattle.digits.specs.Numeral.{numeral}
use Rattle.digits.specs.declared.Radix.TheVariants.{Decimal}
use Rattle.definition.specs.Texts.{txt}
use native.Mathlib.Omega.{arith}
use mathlib.Core.List.{List, ◌++◌}
use Rattle.digits.proofs.pointer.Goals as goal

-- the front, with its digits
abbrev front : ℕ → List ℕ
front n = txt "*(uint" ++ numeral Decimal (8 * n)

-- how long it is
size : (n v w : ℕ) → v ≡ n → w ≡ length (numeral Decimal (8 * v)) → 6 + w ≡ length (front n)
size n v w e h = pointer_size _ _ (h ∙ ap (λ m. length (numeral Decimal (8 * m))) e)

pub returns-then-dst-n : goal.returns-then-dst-n
returns-then-dst-n c = let n = c.args.size in
    leaf_as (no_front (front n) (txt "_t *)") _ _ (size n _ _ c.from-v.ensures c.width-n.ensures.0) c.if-dst-n.true) (pointer_is n)

pub returns-in_err-m : goal.returns-in_err-m
returns-in_err-m c = let n = c.args.size in
    leaf_as (no_end (front n) (txt "_t *)") _ _ (size n _ _ c.from-v.ensures c.width-n.ensures.0) _ _ _ c.if-dst-n.false c.copy.ensures c.in_err-m.was c.from_residual.ensures.0) (pointer_is n)

pub returns-in_err-behind : goal.returns-in_err-behind
returns-in_err-behind c = let n = c.args.size in
    front_told (front n) (txt "_t *)") _ _ (size n _ _ c.from-v.ensures c.width-n.ensures.0) _ _ _ _ _ c.if-dst-n.false c.copy.ensures c.in_ok-m.was (leaf_as c.behind.ensures (ap front c.from-v.ensures)) c.in_err-behind.was

pub overflow_add-result : goal.overflow_add-result
overflow_add-result c = let a = c.args in
    let k : 6 + c.width-n.result + c.in_ok-m.m ≤ length a.dst.now =
    end_count (front a.size) (txt "_t *)") a.dst.now _ (size a.size _ _ c.from-v.ensures c.width-n.ensures.0) _ _ _ c.if-dst-n.false c.copy.ensures c.in_ok-m.was in
    omega arith

pub returns : goal.returns
returns c = let n = c.args.size in
    leaf_as (both_told (front n) (txt "_t *)") _ _ (size n _ _ c.from-v.ensures c.width-n.ensures.0) _ _ _ _ _ c.if-dst-n.false c.copy.ensures c.in_ok-m.was (leaf_as c.behind.ensures (ap front c.from-v.ensures))) (pointer_is n)
