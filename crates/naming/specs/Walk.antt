-- The walk that names: the values that a function's blocks mention, each with a place that names it, are gone through in order.
use Rattle.std.specs.Prelude.{cond, ◌||◌, List, [], ◌∷◌, ◌++◌, map, ℕ, zero, suc, ◌+◌, ◌*◌, eqb, set}
use Rattle.definition.specs.Edition.{blocks}
use Rattle.definition.specs.Lists.{gather, range, at}
use Rattle.definition.specs.Contents.{size, phi_word, input_at}
use Rattle.definition.specs.Owners.{expr_items, value_items, block_phis, block_stmts, phi_inputs, first_phi, first_stmt, first_input, first_item}
use Rattle.definition.specs.Values.{value, RSP}
use Rattle.definition.specs.Meaning.{phi_value, assigned, call_returns}
use Rattle.definition.specs.Read.{marked}
use Rattle.defined.specs.Defined.{item_value}
use Rattle.places.specs.Keys.{places_of}
use Rattle.names.specs.Spots.{Spot, spot, Known, State, named, use_spots}

-- all spots, one behind the other
unfoldable pub walked : Known → State → List Spot → State
walked K S [] = S
walked K S (x ∷ xs) = walked K (named K S x) xs

-- a live phi that is not RSP's, then its inputs
unfoldable pub input_spot : List ℕ → ℕ → ℕ → Spot
input_spot f i k = spot ((places_of f).inputs + k) (value (phi_word f i 0) (input_at f k))

unfoldable pub phi_spots : List ℕ → ℕ → List Spot
phi_spots f i =
    cond (eqb (phi_word f i 0) RSP || eqb (phi_word f i 2) 1) []
    (spot ((places_of f).phis + i) (phi_value f i) ∷ map (input_spot f i) (range (first_input f i) (phi_inputs f i)))

-- what statement i defines by its fields, what its list items define, and what it reads
unfoldable pub field_spots : List ℕ → ℕ → List Spot
field_spots f i = map (spot ((places_of f).stmts + i)) (assigned f i) ++ map (spot ((places_of f).stmts + i)) (call_returns f i)

unfoldable pub item_spot : List ℕ → ℕ → Spot
item_spot f k = spot ((places_of f).items + k) (item_value f k)

unfoldable pub item_spots : List ℕ → ℕ → List Spot
item_spots f i = map (item_spot f) (range (first_item f i + expr_items f i) (value_items f i))

-- a live statement: definitions, then reads
unfoldable pub stmt_spots : List ℕ → ℕ → List Spot
stmt_spots f i = cond (marked f i 1) [] (field_spots f i ++ (item_spots f i ++ use_spots f i))

unfoldable pub block_spots : List ℕ → ℕ → List Spot
block_spots f b =
    gather (phi_spots f) (range (first_phi f b) (block_phis f b)) ++ gather (stmt_spots f) (range (first_stmt f b) (block_stmts f b))

unfoldable pub spots : List ℕ → List Spot
spots f = gather (block_spots f) (range 0 (size f blocks))

-- the classes of the first n parameters get their codes, the last of them first, by numbers ns and roots rs
unfoldable pub params_seen : List ℕ → List ℕ → ℕ → List ℕ → List ℕ
params_seen ns rs zero s = s
params_seen ns rs (suc n) s = params_seen ns rs n (set s (at rs (at ns n)) (2 * suc n))
