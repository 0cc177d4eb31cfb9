-- The slice holds the first n entries, and each is 1 where the test of its number is true.
use Rattle.std.proofs.Common.{rules}
use borrow.Author.Tests.{tests}
use Rattle.std.proofs.lemmas.Iterator.{YieldsList-from_slice}
use Rattle.std.proofs.lemmas.Iterator.Search.{all_from_yields_List}
use lib.Dec.{eqb}
use lib.ListN.{take}
use Prim.Native.Nat.{ℕ}
use mathlib.Core.Path.{◌∙◌}
use Rattle.owned.proofs.Tally.{front_all}
use Rattle.owned.proofs.all_once.Goals as goal

pub returns : goal.returns
returns c =
    all_from_yields_List {all = take c.args.n c.args.table.now} (λ (x : ℕ). eqb x 1) _ _ _ c.all.ensures.ran (YieldsList-from_slice _ (cc)) (λ x b q k. search (rules, tests))
    ∙ front_all (λ (x : ℕ). eqb x 1) c.args.table.now c.args.n c.requires
