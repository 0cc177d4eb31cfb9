-- Classes of value numbers: the root of a number is the one of its class with the least key. Links lead from a number to one of its class with a
-- lesser key; a number whose link does not is a root.
use Rattle.std.specs.Prelude.{Bool, cond, List, map, ℕ, zero, suc, eqb, ltb, length, set}
use Rattle.definition.specs.Lists.{range, at}

-- place i has a lesser key than place j
unfoldable pub under : List ℕ → ℕ → ℕ → Bool
under ks i j = ltb (at ks i) (at ks j)

-- up to k links from i
unfoldable pub climb : List ℕ → List ℕ → ℕ → ℕ → ℕ
climb ks l zero i = i
climb ks l (suc k) i = cond (under ks (at l i) i) (climb ks l k (at l i)) i

-- the root of i; the key falls with every link, so that these are enough
unfoldable pub root_at : List ℕ → List ℕ → ℕ → ℕ
root_at ks l i = climb ks l (at ks i) i

-- the root of every number
unfoldable pub roots_of : List ℕ → List ℕ → List ℕ
roots_of ks l = map (root_at ks l) (range 0 (length l))

-- of two roots the greater gets a link to the lesser
unfoldable pub linked : List ℕ → List ℕ → ℕ → ℕ → List ℕ
linked ks l x y = cond (under ks y x) (set l x y) (cond (under ks x y) (set l y x) l)

-- y for x, wherever it stands
unfoldable pub renamed : ℕ → ℕ → List ℕ → List ℕ
renamed x y t = map (λ z. cond (eqb z x) y z) t

-- of two roots the greater gives way to the lesser
unfoldable pub merged : List ℕ → ℕ → ℕ → List ℕ → List ℕ
merged ks x y t = cond (under ks y x) (renamed x y t) (cond (under ks x y) (renamed y x t) t)

-- the root of i in a table of roots; what is outside is its own
unfoldable pub root_in : List ℕ → ℕ → ℕ
root_in t i = cond (ltb i (length t)) (at t i) i

-- the roots t, where a and b come into one class
unfoldable pub join : List ℕ → List ℕ → ℕ → ℕ → List ℕ
join ks t a b = merged ks (root_in t a) (root_in t b) t
