-- Key i is compared with each key before it.
use Prim.Native.Nat.{ℕ}
use mathlib.Core.Bool.{not}
use mathlib.Core.Path.{◌≡◌}
use lib.Dec.{eqb}
use Rattle.std.proofs.Common.{rules, arith}
use Rattle.std.proofs.lemmas.Bool.Decides.{nat_tests}
use Rattle.records.proofs.Below.{all_upto}
use Rattle.meaning.proofs.distinct.key_new.Goals as goal

pub returns : goal.returns
returns g c = record {
  says = λ h told.
      let e : c.key-x.result ≡ h c.args.i = told _ _ c.key-x.ensures in
      all_upto (λ (j : ℕ). not (eqb (h c.args.i) (h j))) c.args.i c.all.ensures.ran (cc) (λ x b q k. (search rules, grind (arith, nat_tests, told, k)));
}
