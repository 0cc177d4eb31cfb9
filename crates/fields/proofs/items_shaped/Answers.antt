-- A statement's items end below 2^32, and those that are expressions come first.
use Rattle.std.proofs.Common.{rules}
use borrow.Author.Tests.{tests}
use Prim.Native.Nat.{ℕ}
use lib.Dec.{eqb}
use native.Mathlib.Omega.{arith}
use Rattle.definition.specs.Contents.{item_word}
use Rattle.definition.specs.Owners.{items}
use Rattle.definition.specs.Shape.{items_shaped}
use Rattle.records.proofs.Below.{all_between}
use Rattle.fields.proofs.items_shaped.Goals as goal

pub overflow_add-first : goal.overflow_add-first
unfolding items
overflow_add-first c = let h = c.requires.within in omega arith

pub returns : goal.returns
unfolding items_shaped
returns c =
    let first = c.requires.first in
    let n = c.expr_items.ensures in
    let e = all_between (λ (k : ℕ). eqb (item_word c.args.f.now k 1) 0) c.args.at c.expr_items.result c.all.ensures.ran (cc) (λ x b q k. search (rules, tests)) in
    rw (← n, ← first) e
