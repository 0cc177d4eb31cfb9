-- Each return is the first check that refuses, all before it having passed; the scratch was cleared, and a check that uses it leaves zeros.
use mathlib.Core.Path.{◌≡◌}
use mathlib.Core.Bool.{false}
use native.Mathlib.Omega.{arith}
use lib.ListN.{length}
use Rattle.definition.specs.Edition.{edition1}
use Rattle.definition.specs.Shape.{refused2, refused3, refused4}
use Rattle.definition.specs.References.{refused5}
use Rattle.definition.specs.Meaning.{refused6}
use Rattle.records.proofs.Items.{shape_owned}
use Rattle.file.proofs.Verdicts.{seen, few_expressions, by_2, by_3, by_4, by_5, by_6, by_none, not_lent, answered, untouched, zeros_again}
use Rattle.file.proofs.check_file.Goals as goal
use Rattle.file.proofs.check_file.Goals.{Else-refused2, Else-refused3, Else-refused4, Else-refused5, Else-refused6}

pass2 : (c : Else-refused2) → refused2 edition1 c.args.f.now ≡ false
pass2 c = seen refused2 _ _ _ _ c.first-e.ensures c.refused2.ensures c.if-refused2.false

pass3 : (c : Else-refused3) → refused3 edition1 c.args.f.now ≡ false
pass3 c = seen refused3 _ _ _ _ c.first-e.ensures c.refused3.ensures c.if-refused3.false

pass4 : (c : Else-refused4) → refused4 edition1 c.args.f.now ≡ false
pass4 c = seen refused4 _ _ _ _ c.first-e.ensures c.refused4.ensures c.if-refused4.false

pass5 : (c : Else-refused5) → refused5 edition1 c.args.f.now ≡ false
pass5 c = seen refused5 _ _ _ _ c.first-e.ensures c.refused5.ensures.says c.if-refused5.false

pass6 : (c : Else-refused6) → refused6 edition1 c.args.f.now ≡ false
pass6 c = seen refused6 _ _ _ _ c.first-e.ensures c.refused6.ensures.0 c.if-refused6.false

pub returns-then-owners-ne-OWNERS : goal.returns-then-owners-ne-OWNERS
returns-then-owners-ne-OWNERS c =
    not_lent _ _ _ c.clear.ensures (λ q. omega arith)

pub returns-then-refused2 : goal.returns-then-refused2
returns-then-refused2 c =
    let t = c.args.owners.now in
    let u = c.clear.new.table in
    let e = c.clear.ensures in
    let k : length u ≡ 2048 = omega arith in
    answered _ t u u _ e k (untouched c.args.f.now t u e)
    (by_2 _ (seen refused2 _ _ _ _ c.first-e.ensures c.refused2.ensures c.if-refused2.true))

pub returns-then-refused3 : goal.returns-then-refused3
returns-then-refused3 c =
    let t = c.args.owners.now in
    let u = c.clear.new.table in
    let e = c.clear.ensures in
    let k : length u ≡ 2048 = omega arith in
    answered _ t u u _ e k (untouched c.args.f.now t u e)
    (by_3 _ (pass2 (goal.at.returns-then-refused3 c).Else-refused2) (seen refused3 _ _ _ _ c.first-e.ensures c.refused3.ensures c.if-refused3.true))

pub returns-then-refused4 : goal.returns-then-refused4
returns-then-refused4 c =
    let t = c.args.owners.now in
    let u = c.clear.new.table in
    let e = c.clear.ensures in
    let k : length u ≡ 2048 = omega arith in
    answered _ t u u _ e k (untouched c.args.f.now t u e)
    (by_4 _ (pass2 (goal.at.returns-then-refused4 c).Else-refused2) (pass3 (goal.at.returns-then-refused4 c).Else-refused3) (seen refused4 _ _ _ _ c.first-e.ensures c.refused4.ensures c.if-refused4.true))

pub refused5-requires : goal.refused5-requires
refused5-requires c = record { f_value = shape_owned edition1 _ (pass4 (goal.at.refused5-requires c).Else-refused4); expressions_in_bounds = (let m = few_expressions _ (pass3 (goal.at.refused5-requires c).Else-refused3) in omega arith) }

pub returns-then-refused5 : goal.returns-then-refused5
returns-then-refused5 c =
    let t = c.args.owners.now in
    let u = c.clear.new.table in
    let k : length u ≡ 2048 = omega arith in
    answered _ t u _ _ c.clear.ensures k c.refused5.ensures.left
    (by_5 _ (pass2 (goal.at.returns-then-refused5 c).Else-refused2) (pass3 (goal.at.returns-then-refused5 c).Else-refused3) (pass4 (goal.at.returns-then-refused5 c).Else-refused4) (seen refused5 _ _ _ _ c.first-e.ensures c.refused5.ensures.says c.if-refused5.true))

pub refused6-requires : goal.refused6-requires
refused6-requires c = record { f_value = shape_owned edition1 _ (pass4 (goal.at.refused6-requires c).Else-refused4); scratch_value = untouched c.args.f.now c.clear.new.table _ c.refused5.ensures.left }

pub returns-then-refused6 : goal.returns-then-refused6
returns-then-refused6 c =
    let t = c.args.owners.now in
    let u = c.clear.new.table in
    let k : length u ≡ 2048 = omega arith in
    answered _ t u _ _ c.clear.ensures k (zeros_again c.args.f.now u _ _ c.refused5.ensures.left c.refused6.ensures.1)
    (by_6 _ (pass2 (goal.at.returns-then-refused6 c).Else-refused2) (pass3 (goal.at.returns-then-refused6 c).Else-refused3) (pass4 (goal.at.returns-then-refused6 c).Else-refused4) (pass5 (goal.at.returns-then-refused6 c).Else-refused5) (seen refused6 _ _ _ _ c.first-e.ensures c.refused6.ensures.0 c.if-refused6.true))

pub returns : goal.returns
returns c =
    let t = c.args.owners.now in
    let u = c.clear.new.table in
    let k : length u ≡ 2048 = omega arith in
    answered _ t u _ _ c.clear.ensures k (zeros_again c.args.f.now u _ _ c.refused5.ensures.left c.refused6.ensures.1)
    (by_none _ (pass2 (goal.at.returns c).Else-refused2) (pass3 (goal.at.returns c).Else-refused3) (pass4 (goal.at.returns c).Else-refused4) (pass5 (goal.at.returns c).Else-refused5) (pass6 (goal.at.returns c).Else-refused6))
