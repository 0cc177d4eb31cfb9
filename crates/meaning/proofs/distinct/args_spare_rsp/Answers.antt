-- No argument is RSP: to be among them is to equal one of them.
use mathlib.Core.Path.{◌∙◌}
use Rattle.std.proofs.Common.{arith, rules}
use Rattle.std.proofs.lemmas.Bool.Decides.{nat_tests}
use Rattle.records.proofs.Below.{all_upto}
use Rattle.meaning.proofs.Apart.{arg_spares, args_spare}
use Rattle.meaning.proofs.distinct.args_spare_rsp.Goals as goal

pub returns : goal.returns
returns c = all_upto (arg_spares c.args.f.now) c.size_of.result c.all.ensures.ran (cc) (λ x b q k. (search rules, grind (arith, nat_tests))) ∙ args_spare _ _ c.size_of.ensures
