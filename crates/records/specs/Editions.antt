-- The code's edition, read as the definition's.
use Rattle.std.specs.Prelude.{map, ℕ}
use Rattle.definition.specs.Edition.{Section, Room as DRoom, Edition as DEdition}
use Rattle.definition.specs.Lists.{at, range}
use Rattle.records.specs.declared.edition.Edition.{Edition}
use Rattle.records.specs.declared.edition.Room.{Room}

abbrev pub words_at : Edition → ℕ → ℕ
words_at e s = at e.words s

abbrev pub limit_at : Edition → ℕ → ℕ
limit_at e s = at e.limits s

abbrev pub section_at : Edition → ℕ → Section
section_at e s = record { words = words_at e s; most = limit_at e s }

abbrev room_of : Room → DRoom
room_of r = record { lines = r.lines; tokens = r.tokens; bytes = r.bytes }

unfoldable pub edition_of : Edition → DEdition
edition_of e = record {
  number = e.number;
  sections = map (section_at e) (range 0 e.sections);
  most = e.most;
  lowered = room_of e.lowered;
  lent = room_of e.lent;
}
