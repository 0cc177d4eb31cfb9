-- Inside the file both words are read; where the high word is not inside, it is 0.
use Rattle.words.proofs.Laws.{long_read, long_low}
use mathlib.Core.Path.{◌∙◌}
use lib.ListN.{length}
use native.Mathlib.Omega.{arith}
use Prim.Native.Nat.{◌≤◌}
use Rattle.words.proofs.long_at.Goals as goal
use Rattle.words.proofs.long_at.Goals.{in_default-via-in-Some+else-i-last, in_default-via-in_default}

pub returns-in-Some : goal.returns-in-Some
returns-in-Some c = long_read c.args.f.now c.args.i _ _ (c.from.ensures ∙ c.four-low.ensures) (c.from-in-Some.ensures ∙ c.four-high.ensures)

pub returns-in_default : goal.returns-in_default
returns-in_default c = let low = c.from-in_default.ensures ∙ c.word_at.ensures in
    let f = c.args.f.now in
    let i = c.args.i in
    elim c.in_default.branch [
      | in_default-via-in-Some+else-i-last w ↦ let last = w.in-Some.ensures in long_low f i _ (omega arith) low
      | in_default-via-in_default w ↦ let short : 8 ≤ length f → ⊥ = w.in_default.ensures in long_low f i _ (omega arith) low
    ]
