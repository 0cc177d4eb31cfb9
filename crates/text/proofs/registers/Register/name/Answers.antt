-- By width and number: a name is a part of its table at three times the number, by a test of all registers; past the last it is empty.
use Rattle.text.proofs.Tables.{name_32, name_two, name_other}
use Rattle.leaf.proofs.Leaves.{leaf_as}
use Rattle.text.proofs.registers.Register.name.Goals as goal

pub returns-then-v-lt8 : goal.returns-then-v-lt8
returns-then-v-lt8 c = leaf_as c.copy_part.ensures (name_32 _ _ c.if-bits-eq32.true c.if-v-lt8.true)

pub returns-then-v-eq8 : goal.returns-then-v-eq8
returns-then-v-eq8 c = leaf_as c.copy_part-then-v-eq8.ensures (name_two _ _ c.then-v-eq8.either)

pub returns : goal.returns
returns c = leaf_as c.copy_part-2.ensures (name_other _ _ c.else-bits-eq32.either c.if-v-eq8.false c.if-v-eq9.false)
