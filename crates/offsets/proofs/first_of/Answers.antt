-- The search ends at the first place that has the key, and without one the length is the answer: the definition's count of what stands before.
use Rattle.std.proofs.Common.{◌≡◌, ◌≢◌, ◌∙◌, sym, rules}
use borrow.Author.Tests.{tests}
use Rattle.std.proofs.lemmas.Iterator.{IsFirst-from_position, YieldsList-from_slice}
use Rattle.offsets.proofs.Beginning.{first_index}
use Rattle.offsets.proofs.first_of.Goals as goal

pub returns : goal.returns
returns c =
    c.unwrap_or.ensures
    ∙ sym (first_index _ _ _
    (IsFirst-from_position _ _ _ (λ x. x ≡ c.args.k) (λ x. x ≢ c.args.k) c.position.ensures.ran (YieldsList-from_slice c.args.keys.now cc) (λ x q k. search (rules, tests)) (λ x q k. search (rules, tests))))
