-- By what the text is made of: each writer writes what is spelled there; labels, raw addresses, parameters and locals are a front and digits.
use mathlib.Core.Path.{refl}
use Rattle.definition.specs.Texts.{txt}
use Rattle.digits.proofs.Texts.{label_is, outward_is}
use Rattle.pieces.specs.Spelled.{made}
use Rattle.pieces.proofs.Spelling.{spells, counted_is}
use Rattle.pieces.proofs.piece.write_made.Goals as goal

pub returns-in-Num : goal.returns-in-Num
returns-in-Num c = spells made _ _ _ _ _ _ c.in-Num.is c.num.ensures refl

pub returns-in-Slot : goal.returns-in-Slot
returns-in-Slot c = spells made _ _ _ _ _ _ c.in-Slot.is c.slot.ensures refl

pub returns-in-Label : goal.returns-in-Label
returns-in-Label c = spells made _ _ _ _ _ _ c.in-Label.is c.behind.ensures (label_is _)

pub returns-in-Outward : goal.returns-in-Outward
returns-in-Outward c = spells made _ _ _ _ _ _ c.in-Outward.is c.behind-in-Outward.ensures (outward_is _)

pub returns-in-Pointer : goal.returns-in-Pointer
returns-in-Pointer c = spells made _ _ _ _ _ _ c.in-Pointer.is c.pointer.ensures refl

pub returns-in-Register : goal.returns-in-Register
returns-in-Register c = spells made _ _ _ _ _ _ c.in-Register.is c.reg_name.ensures refl

pub returns-in-Param : goal.returns-in-Param
returns-in-Param c = spells made _ _ _ _ _ _ c.in-Param.is c.behind-in-Param.ensures (counted_is (txt "a") _)

pub returns-in-Local : goal.returns-in-Local
returns-in-Local c = spells made _ _ _ _ _ _ c.in-Local.is c.behind-in-Local.ensures (counted_is (txt "v") _)
