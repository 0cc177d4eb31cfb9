-- Each section's places begin where those of the section before it end, so that they are sums of the sizes, as in the definition.
use Rattle.places.proofs.Reading.{places_are}
use Rattle.places.proofs.places_of.Goals as goal

pub returns : goal.returns
returns c = places_are _ _ _ _ _ _ _ c.size_of-phis.ensures c.size_of.ensures c.size_of-2.ensures c.size_of-3.ensures c.size_of-4.ensures c.size_of-5.ensures
