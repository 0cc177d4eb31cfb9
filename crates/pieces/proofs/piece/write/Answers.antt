-- By which piece it is: the writer that is called writes what this piece spells.
use mathlib.Core.Path.{refl}
use Rattle.pieces.specs.Spelled.{spelled}
use Rattle.pieces.proofs.Spelling.{spells}
use Rattle.pieces.proofs.piece.write.Goals as goal

pub returns-in-Made : goal.returns-in-Made
returns-in-Made c = spells (spelled c.args.f.now) _ _ _ _ _ _ c.in-Made.is c.write_made.ensures refl

pub returns-in-Whole : goal.returns-in-Whole
returns-in-Whole c = spells (spelled c.args.f.now) _ _ _ _ _ _ c.in-Whole.is c.copy.ensures refl

pub returns-in-Part : goal.returns-in-Part
returns-in-Part c = spells (spelled c.args.f.now) _ _ _ _ _ _ c.in-Part.is c.copy_part.ensures refl

pub returns-in-Name : goal.returns-in-Name
returns-in-Name c = spells (spelled c.args.f.now) _ _ _ _ _ _ c.in-Name.is c.name_text.ensures refl

pub returns-in-Global : goal.returns-in-Global
returns-in-Global c = spells (spelled c.args.f.now) _ _ _ _ _ _ c.in-Global.is c.global_name.ensures refl

pub returns-in-Flags : goal.returns-in-Flags
returns-in-Flags c = spells (spelled c.args.f.now) _ _ _ _ _ _ c.in-Flags.is c.part_behind.ensures refl
