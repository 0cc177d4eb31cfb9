-- Classes joined phi by phi, and what a table of roots keeps of them: ns has the numbers of the values, by their places.
use Rattle.std.specs.Prelude.{cond, not, ◌&&◌, List, map, ℕ, zero, suc, ◌+◌, eqb, length}
use Rattle.definition.specs.Lists.{range, at}
use Rattle.definition.specs.Contents.{phi_word}
use Rattle.definition.specs.Owners.{phi_inputs, first_input}
use Rattle.definition.specs.Values.{RSP}
use Rattle.places.specs.Keys.{places_of}
use Rattle.unions.specs.Roots.{join}

-- a and the numbers that stand at n places from k on in one class
unfoldable pub join_run : List ℕ → List ℕ → List ℕ → ℕ → ℕ → ℕ → List ℕ
join_run ks ns t a k zero = t
join_run ks ns t a k (suc n) = join_run ks ns (join ks t a (at ns k)) a (k + 1) n

-- phi i with its inputs, unless it is RSP's
unfoldable pub join_phi : List ℕ → List ℕ → List ℕ → List ℕ → ℕ → List ℕ
join_phi f ks ns t i =
    cond (eqb (phi_word f i 0) RSP) t
    (join_run ks ns t (at ns ((places_of f).phis + i)) ((places_of f).inputs + first_input f i) (phi_inputs f i))

-- n phis from i on
unfoldable pub join_phis : List ℕ → List ℕ → List ℕ → List ℕ → ℕ → ℕ → List ℕ
join_phis f ks ns t i zero = t
join_phis f ks ns t i (suc n) = join_phis f ks ns (join_phi f ks ns t i) (i + 1) n

-- what place i keeps: x where it is a value's number, else nothing
unfoldable pub kept : List ℕ → List ℕ → ℕ → ℕ → ℕ
kept ks ns x i = cond (not (eqb (at ks i) 0) && eqb (at ns i) i) x 0

-- of every place
unfoldable pub spared : List ℕ → List ℕ → List ℕ → List ℕ
spared ks ns t = map (λ i. kept ks ns (at t i) i) (range 0 (length t))
