-- None agree on nothing; else what is agreed is the first one's, where all have it.
use Rattle.std.proofs.Common.{◌≡◌, Bool, ℕ, ◌∙◌, ap, sym, nat_eq, rules}
use mathlib.Core.Bool.{cond}
use borrow.Author.Tests.{tests}
use Rattle.definition.specs.Lists.{all_below}
use Rattle.records.proofs.Below.{all_upto}
use Rattle.sums.specs.Address.{value_at}
use Rattle.rounds.proofs.Agreeing.{agree_none, agree_both}
use Rattle.rounds.proofs.rules.agreed.Goals as goal
use Rattle.rounds.proofs.rules.agreed.Goals.{After-all}

pub returns-then-n-eq0 : goal.returns-then-n-eq0
returns-then-n-eq0 c = agree_none _ _ c.if-n-eq0.true

tested : (c : After-all) → c.all.result ≡ all_below c.args.n (λ (i : ℕ). nat_eq (value_at c.args.tab.now c.args.numbers.now c.args.from i) c.value_at-x.result)
tested c = all_upto (λ (i : ℕ). nat_eq (value_at c.args.tab.now c.args.numbers.now c.args.from i) c.value_at-x.result) c.args.n c.all.ensures.ran (cc) (λ x b q k. search (rules, tests))

pub returns-then-all : goal.returns-then-all
returns-then-all c =
    ap (λ (b : Bool). cond b c.value_at-x.result 0) (sym c.if-all.true) ∙ agree_both _ _ _ c.if-n-eq0.false c.value_at-x.ensures _ (tested (goal.at.returns-then-all c).After-all)

pub returns-else-all : goal.returns-else-all
returns-else-all c =
    ap (λ (b : Bool). cond b c.value_at-x.result 0) (sym c.if-all.false) ∙ agree_both _ _ _ c.if-n-eq0.false c.value_at-x.ensures _ (tested (goal.at.returns-else-all c).After-all)
