-- Structuring is two sweeps: what the second asks of the lines, the ifs formed keep.
use mathlib.Core.Path.{◌≡◌, refl, ap, ◌∙◌}
use mathlib.Core.List.{List, ◌∷◌}
use Prim.Native.Nat.{ℕ}
use Rattle.definition.specs.Tokens.{Line}
use Rattle.definition.specs.Passes.{if_try, do_try, Passed, structure_ifs, structure_do_while}
use Rattle.definition.specs.Passes.Passed.{done, too_deep}
use Rattle.definition.specs.Listing.{Outcome, after_loops, after_ifs, structure}
use Rattle.definition.specs.Listing.Outcome.{refused}
use Rattle.definition.proofs.Steps.{ifs_done, if_steps_keep}
use Rattle.definition.proofs.Plain.{Distinct, Good}
use Rattle.definition.proofs.Sweep.{sweep}
use Rattle.definition.proofs.SweepIf.{distinct_if, ifs_swept}
use Rattle.definition.proofs.SweepDo.{loops_swept}

-- the loop pass over the lines of the if pass
pub loops_swept_after : (low mid : List Line) (n : ℕ) → Good low → structure_ifs low ≡ done n mid → structure_do_while mid ≡ sweep do_try mid
loops_swept_after low mid n g e =
    loops_swept mid (if_steps_keep Distinct (λ pre l mid goal rest t i f s. distinct_if pre l mid (goal ∷ rest) t i.jump f)
    (ifs_done low mid n g.0 e).0 g.0 g.1)

-- the two sweeps, one behind the other
unfoldable pub after_if_sweep : Passed → Outcome
after_if_sweep too_deep = refused 9
after_if_sweep (done n mid) = after_loops n (sweep do_try mid)

pub structure_swept : (low : List Line) → Good low → structure low ≡ after_if_sweep (sweep if_try low)
unfolding structure after_ifs after_if_sweep
structure_swept low g = go (structure_ifs low) refl ∙ ap after_if_sweep (ifs_swept low g)
  where
    go : (r : Passed) → structure_ifs low ≡ r → after_ifs r ≡ after_if_sweep r
    go too_deep e = refl
    go (done n mid) e = ap (after_loops n) (loops_swept_after low mid n g e)
