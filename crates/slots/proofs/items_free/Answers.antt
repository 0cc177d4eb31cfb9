-- One item after the other is tested; the place from + k fits, as from + n does.
use Prim.Native.Nat.{ℕ, ◌+◌}
use Rattle.std.proofs.Common.{rules}
use borrow.Author.Tests.{tests}
use Rattle.slots.specs.Slots.{free}
use Rattle.defined.specs.Defined.{item_value}
use Rattle.records.proofs.Below.{all_upto}
use Rattle.slots.proofs.items_free.Goals as goal

pub returns : goal.returns
returns c = all_upto (λ (k : ℕ). free c.args.table.now (item_value c.args.f.now (c.args.from + k))) c.args.n c.all.ensures.ran (cc) (λ x b q k. search (rules, tests))
