-- What the phis of the function that a file holds join, phi by phi of the file: those of all blocks are the file's, in its order.
use mathlib.Core.Path.{◌≡◌, refl, ap}
use mathlib.Core.Bool.{true, not, cond}
use mathlib.Core.List.{List, [], ◌++◌, map}
use Prim.Native.Nat.{ℕ, suc, ◌+◌}
use lib.Dec.{eqb}
use Rattle.definition.specs.Edition.{Edition, phis}
use Rattle.definition.specs.Lists.{only, gather, range}
use Rattle.definition.specs.Contents.{size, phi_word}
use Rattle.definition.specs.Shape.{owned}
use Rattle.definition.specs.Values.{RSP}
use Rattle.definition.specs.Ssa.{Phi}
use Rattle.definition.specs.Read.{phi_at, read}
use Rattle.definition.specs.Classes.{Pair, pairs, unions, alone, classes}
use Rattle.definition.proofs.Bools.{by_test}
use Rattle.records.proofs.Parts.{phis_are}

-- ---- what they join
-- the pairs of phi i, none where it is RSP's
unfoldable pub pairs_at : List ℕ → ℕ → List Pair
pairs_at f i = cond (eqb (phi_word f i 0) RSP) [] (pairs (phi_at f i))

-- the pairs of n phis from i on
unfoldable pub pairs_from : List ℕ → ℕ → ℕ → List Pair
pairs_from f i n = gather pairs (only (λ p. not (eqb p.var RSP)) (map (phi_at f) (range i n)))

pub pairs_none : (f : List ℕ) (i : ℕ) → pairs_from f i 0 ≡ []
unfolding pairs_from gather only range
pairs_none f i = refl

pub pairs_next : (f : List ℕ) (i n : ℕ) → pairs_from f i (suc n) ≡ pairs_at f i ++ pairs_from f (i + 1) n
unfolding pairs_from pairs_at gather only range phi_at
pairs_next f i n = by_test (eqb (phi_word f i 0) RSP) (λ e. rw e) (λ e. rw e)

pub classes_read : (E : Edition) (f : List ℕ) → owned f ≡ true
    → classes (read E f) ≡ unions (gather alone (pairs_from f 0 (size f phis))) (pairs_from f 0 (size f phis))
unfolding classes pairs_from
classes_read E f own =
    ap (λ (l : List Phi). unions (gather alone (gather pairs (only (λ p. not (eqb p.var RSP)) l))) (gather pairs (only (λ p. not (eqb p.var RSP)) l)))
    (phis_are f own E)
