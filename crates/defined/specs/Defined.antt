-- What the file defines, place by place: the code's values read as the definition's, and how often a value is defined, as sums over places.
use Rattle.std.specs.Prelude.{Option, Some, None, Bool, not, cond, ◌&&◌, List, [], ◌∷◌, ◌++◌, ℕ, ◌+◌, eqb}
use Rattle.definition.specs.Edition.{phis, statements, lists, item_words}
use Rattle.definition.specs.Lists.{count, sum_below}
use Rattle.definition.specs.Contents.{size}
use Rattle.definition.specs.Owners.{expr_items, value_items, first_item}
use Rattle.definition.specs.Values.{Value as DValue, value, eqv}
use Rattle.definition.specs.Meaning.{value_at, phi_value, assigned, call_returns, strict, loose}
use Rattle.defined.specs.declared.value.Value.{Value}

abbrev pub value_of : Value → DValue
value_of v = value v.reg v.ver

-- nothing, or one value
abbrev pub list_of : Option Value → List DValue
list_of None = []
list_of (Some v) = value_of v ∷ []

-- a value of a version above 0 that is defined at one place
unfoldable pub lone : List ℕ → DValue → Bool
lone f v = not (eqb v.ver 0) && eqb (count (eqv v) (strict f ++ loose f)) 1

-- the value at place k of the lists, and where those of statement i begin
abbrev pub item_value : List ℕ → ℕ → DValue
item_value f k = value_at f lists item_words k

unfoldable pub first_value : List ℕ → ℕ → ℕ
first_value f i = first_item f i + expr_items f i

-- 1 where the two are equal
unfoldable pub hit : DValue → DValue → ℕ
hit v w = cond (eqv v w) 1 0

-- how many phis define v; how many of n items from place `from` on; how often statement i does, and all statements
unfoldable pub phi_hits : List ℕ → DValue → ℕ → ℕ
phi_hits f v n = sum_below n (λ i. hit v (phi_value f i))

unfoldable pub item_hits : List ℕ → DValue → ℕ → ℕ → ℕ
item_hits f v from n = sum_below n (λ k. hit v (item_value f (from + k)))

unfoldable pub stmt_hits : List ℕ → DValue → ℕ → ℕ
stmt_hits f v i = count (eqv v) (assigned f i) + (count (eqv v) (call_returns f i) + item_hits f v (first_value f i) (value_items f i))

unfoldable pub hits : List ℕ → DValue → ℕ
hits f v = phi_hits f v (size f phis) + sum_below (size f statements) (stmt_hits f v)
