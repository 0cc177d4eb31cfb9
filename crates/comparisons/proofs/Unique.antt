-- Each contract of this crate is an equation for the answer, or for what is seen of the room, so no second answer meets it.
use mathlib.Core.Path.{◌≡◌}
use mathlib.Core.Bool.{Bool}
use mathlib.Core.Option.{Option}
use mathlib.Core.List.{List, [], ◌∷◌}
use Prim.Native.Nat.{ℕ}
use lib.Dec.{eqb}
use Rattle.definition.specs.Lists.{count}
use Rattle.definition.specs.Tokens.{Token, tok}
use Rattle.definition.specs.Negate.{flips, flip_in, compares as compares_in}
use Rattle.definition.proofs.Unique.{equation}
use Rattle.room.specs.Room.{Room, emit_all, seen}
use Rattle.sheet.specs.Ranges.{between}
use Rattle.clips.proofs.Unique.{pieces}
use Rattle.comparisons.specs.declared.looks.Look.{Look}
use Rattle.comparisons.specs.Looks.{unseen, looked}

pub count_between : (t : List ℕ) (f e b r s : ℕ) → r ≡ count (eqb b) (between t f e) → s ≡ count (eqb b) (between t f e) → r ≡ s
count_between t f e b = equation (count (eqb b) (between t f e))

pub compares : (t : List ℕ) (f e : ℕ) (r s : Bool) → r ≡ compares_in (between t f e) → s ≡ compares_in (between t f e) → r ≡ s
compares t f e = equation (compares_in (between t f e))

pub put_opposite : (x : Room) (t : List ℕ) (f e : ℕ) (r s : Option Room) → r ≡ seen (emit_all x (tok 6 (flip_in flips (between t f e)) ∷ []))
    → s ≡ seen (emit_all x (tok 6 (flip_in flips (between t f e)) ∷ [])) → r ≡ s
put_opposite x t f e = pieces x (tok 6 (flip_in flips (between t f e)) ∷ [])

pub look_over : (us : List Token) (r s : Look) → r ≡ looked unseen 1 us → s ≡ looked unseen 1 us → r ≡ s
look_over us = equation (looked unseen 1 us)
