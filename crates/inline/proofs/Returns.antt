-- Where a value's number stands.
use mathlib.Core.Path.{◌≡◌, ap, ◌∙◌}
use mathlib.Core.List.{List}
use Prim.Native.Nat.{ℕ, ◌+◌, ◌<◌}
use native.Mathlib.Omega.{arith}
use lib.ListN.{get_or}
use mir.Syntax.{w8}
use mir.Val.{Fits}
use Rattle.definition.specs.Edition.{args, phis, inputs}
use Rattle.definition.specs.Lists.{at}
use Rattle.records.proofs.Items.{size_small}
use Rattle.places.specs.Keys.{places_of}
use Rattle.places.specs.declared.Places.{Places}

-- ---- where the value's number stands
pub places_small : (f : List ℕ) (p : Places) → ((k : ℕ) → Fits w8 (get_or f k 0)) → p ≡ places_of f → p.stmts < 12884901888
unfolding places_of
places_small f p bytes e = rw e (omega (arith, size_small f bytes args, size_small f bytes phis, size_small f bytes inputs))

pub number_is : (f l : List ℕ) (i r : ℕ) (p : Places) → p ≡ places_of f → r ≡ at l (p.stmts + i) → r ≡ at l ((places_of f).stmts + i)
number_is f l i r p e h = h ∙ ap (λ (q : Places). at l (q.stmts + i)) e
