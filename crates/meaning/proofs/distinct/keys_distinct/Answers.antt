-- Each key is none of those before it: that no key stands twice.
use mathlib.Core.Path.{sym, ◌∙◌}
use Rattle.std.proofs.Common.{rules}
use Rattle.records.proofs.Below.{all_upto}
use Rattle.meaning.proofs.Twice.{distinct_below, new_among, is_new}
use Rattle.meaning.proofs.distinct.keys_distinct.Goals as goal

pub returns : goal.returns
returns g c = record {
  says = λ h told.
      all_upto (is_new h) c.args.n c.all.ensures.ran (cc) (λ x b q k. (search rules, search (rules, new_among h told))) ∙ sym (distinct_below h c.args.n);
}
