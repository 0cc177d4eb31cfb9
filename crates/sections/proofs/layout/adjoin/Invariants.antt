-- The sections from s on decide, from the byte reached; one that begins elsewhere fails, as does one past the end: nothing follows there.
use mathlib.Core.Path.{◌≡◌}
use Rattle.records.specs.Editions.{edition_of}
use Rattle.definition.specs.Shape.{adjoin}
use Rattle.definition.specs.Contents.{contents}
use Rattle.sections.proofs.Sections.{sections_from}
use Rattle.sections.proofs.layout.adjoin.Given as goal

abbrev pub invariant-loop-s : goal.invariant-loop-s
invariant-loop-s l = adjoin l.f (contents (edition_of l.e)) 0 (edition_of l.e).sections ≡ adjoin l.f l.at l.s (sections_from l.e l.s)
