-- Naming by numbers: a value that is mentioned, with a place that names it, is met, and the tables say by a value's number what naming says of the
-- value.
use Rattle.std.specs.Prelude.{Bool, not, cond, ◌&&◌, ◌||◌, List, [], ◌∷◌, map, ℕ, zero, suc, ◌+◌, ◌*◌, eqb, ltb, set}
use Rattle.definition.specs.Codes.{k_call, k_branch}
use Rattle.definition.specs.Owners.{stmt_kind}
use Rattle.definition.specs.Values.{Value, RSP}
use Rattle.definition.specs.Read.{marked}
use Rattle.definition.specs.Lists.{at}
use Rattle.places.specs.Keys.{places_of}
use Rattle.uses.specs.Uses.{stmt_uses, use_value}

-- a value that is mentioned, and a place that names it
pub record Spot : Type 0 where
  pub place : ℕ
  pub of : Value

abbrev pub spot : ℕ → Value → Spot
spot p v = record { place = p; of = v }

-- what is known of the values: their numbers by place, their classes' roots, and which are written in place
pub record Known : Type 0 where
  pub numbers : List ℕ
  pub roots : List ℕ
  pub places : List ℕ

abbrev pub known : List ℕ → List ℕ → List ℕ → Known
known n r p = record { numbers = n; roots = r; places = p }

-- the codes of values and of classes so far, and the next `v`
pub record State : Type 0 where
  pub names : List ℕ
  pub seen : List ℕ
  pub next : ℕ

abbrev pub state : List ℕ → List ℕ → ℕ → State
state n s k = record { names = n; seen = s; next = k }

-- value n and its class r get the code c
unfoldable pub noted : State → ℕ → ℕ → ℕ → ℕ → State
noted S n r c k = state (set S.names n c) (set S.seen r c) k

-- value n of class r is met, its version being ver; codes have 32 bits
unfoldable pub met : State → ℕ → ℕ → ℕ → State
met S n r ver =
    cond (eqb (at S.seen r) 0)
    (cond (eqb ver 0 && eqb r n) (noted S n r 1 S.next)
    (cond (ltb S.next 2147483648) (noted S n r (2 * S.next + 1) (S.next + 1)) S))
    (state (set S.names n (at S.seen r)) S.seen S.next)

-- one spot
unfoldable pub named : Known → State → Spot → State
named K S x =
    let n = at K.numbers x.place in
    cond (eqb x.of.reg RSP || not (eqb (at S.names n) 0) || not (eqb (at K.places n) 0)) S (met S n (at K.roots n) x.of.ver)

-- what statement i reads
unfoldable pub use_spot : List ℕ → ℕ → Spot
use_spot f n = spot ((places_of f).exprs + n) (use_value f n)

unfoldable pub use_spots : List ℕ → ℕ → List Spot
use_spots f i = map (use_spot f) (stmt_uses f i)

-- a live statement that reads by no convention: its reads
unfoldable pub entry_spots : List ℕ → ℕ → List Spot
entry_spots f i = cond (marked f i 1 || (eqb (stmt_kind f i) k_call || eqb (stmt_kind f i) k_branch)) [] (use_spots f i)

-- these are marked by 1
unfoldable pub ticked : List ℕ → List ℕ → List Spot → List ℕ
ticked ns t [] = t
ticked ns t (x ∷ xs) = ticked ns (set t (at ns x.place) 1) xs

-- the argument registers up to the last of which the test holds, n of them being there
unfoldable pub up_to : (ℕ → Bool) → ℕ → ℕ
up_to p zero = 0
up_to p (suc n) = cond (p n) (suc n) (up_to p n)
