-- A place behind all tokens reads as nothing, as a + k does there; in the last case the place is a + k itself.
use native.Mathlib.Omega.{arith}
use mathlib.Core.Path.{refl}
use Rattle.sheet.proofs.Reading.{place_past, place_is}
use Rattle.sheet.proofs.tokens.place.Goals as goal

pub returns-then-n-a : goal.returns-then-n-a
returns-then-n-a c = place_past _ _ _ c.if-n-a.true (omega arith)

pub returns-then-n-a-2 : goal.returns-then-n-a-2
returns-then-n-a-2 c = place_past c.args.tokens.now _ _ (omega arith) (omega arith)

pub returns : goal.returns
returns c = place_is _ _ _ refl
