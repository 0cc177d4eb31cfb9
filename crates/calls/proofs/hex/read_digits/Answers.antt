-- The digits that are lent are the part's, so what was read of them is what the definition reads.
use mathlib.Core.Path.{ap, ◌∙◌}
use mathlib.Core.Option.{some}
use Rattle.records.specs.Options.{answer_of}
use Rattle.definition.specs.Numbers.{read_digits}
use Rattle.calls.proofs.Digits.{digits_stop, digits_more, digits_end, lent_is}
use Rattle.calls.proofs.hex.read_digits.Goals as goal

pub returns-in_err-v : goal.returns-in_err-v
returns-in_err-v c = let a = c.args in
    c.from_residual.ensures ∙ digits_stop _ _ _ _ c.loop-b.invariant c.loop-b-test.true _ c.push_digit.ensures c.in_err-v.was
    ∙ ap (λ s. answer_of (read_digits (some 0) s)) (lent_is a.f.now a.at a.n)

pub loop-b-preserved : goal.loop-b-preserved
loop-b-preserved c = digits_more _ _ _ _ c.loop-b.invariant c.loop-b-test.true _ c.push_digit.ensures _ c.in_ok-v.was

pub returns : goal.returns
returns c = let a = c.args in
    digits_end _ _ _ _ c.loop-b.invariant c.loop-b-test.false ∙ ap (λ s. answer_of (read_digits (some 0) s)) (lent_is a.f.now a.at a.n)
