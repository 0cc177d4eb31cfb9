-- Tables by value number, written at the numbers of the places that are visited; who reads a value last.
use Rattle.std.specs.Prelude.{◌≡◌, Bool, true, not, cond, ◌&&◌, ◌||◌, List, [], ◌∷◌, map, ℕ, zero, suc, ◌+◌, ◌-◌, ◌≤◌, eqb, ltb, length, set, replicate}
use Rattle.definition.specs.Edition.{Edition, statements}
use Rattle.definition.specs.Lists.{count, range, at}
use Rattle.definition.specs.Contents.{size}
use Rattle.definition.specs.Shape.{owned}
use Rattle.definition.specs.Values.{Value, eqv, within}
use Rattle.definition.specs.Read.{marked, read}
use Rattle.definition.specs.Inline.{reads, phi_reads}
use Rattle.definition.specs.Listing.{padded}
use Rattle.places.specs.Keys.{places_of}
use Rattle.values.specs.Tables.{numbered, table}
use Rattle.uses.specs.Uses.{stmt_uses, use_order, use_starts, use_value}

-- one more at place i, where the greatest u32 stays; x there
unfoldable pub raised : List ℕ → ℕ → List ℕ
raised l i = cond (ltb (at l i) 4294967295) (set l i (at l i + 1)) l

unfoldable pub placed : ℕ → List ℕ → ℕ → List ℕ
placed x l i = set l i x

-- such a step at each of these places
unfoldable pub visit : (List ℕ → ℕ → List ℕ) → List ℕ → List ℕ → List ℕ
visit step l [] = l
visit step l (i ∷ is) = visit step (step l i) is

-- the value numbers of places behind `base`; the entries of a list from a to b
unfoldable pub slots : List ℕ → ℕ → List ℕ → List ℕ
slots numbers base ns = map (λ n. at numbers (base + n)) ns

unfoldable pub between : List ℕ → ℕ → ℕ → List ℕ
between l a b = map (at l) (range a (b - a))

-- the Use nodes of statement i, where it is live
unfoldable pub live_uses : List ℕ → ℕ → List ℕ
live_uses f i = cond (marked f i 1) [] (stmt_uses f i)

-- does statement i, which is live, read v
unfoldable pub reads_at : List ℕ → Value → ℕ → Bool
reads_at f v i = not (marked f i 1) && within v (map (use_value f) (stmt_uses f i))

-- 1 more than the last live statement below n that reads v, or 0
unfoldable pub reader_below : List ℕ → ℕ → Value → ℕ
reader_below f zero v = 0
reader_below f (suc n) v = cond (reads_at f v n) (suc n) (reader_below f n v)

unfoldable pub last_reader : List ℕ → Value → ℕ
last_reader f v = reader_below f (size f statements) v

-- is value m read, by the tables of what live statements and phis read
unfoldable pub read_by : List ℕ → List ℕ → ℕ → Bool
read_by live phi m = not (eqb (at live m) 0) || not (eqb (at phi m) 0)

-- what is asked: value numbers, and a table of zeros that goes by them
pub record Numbers (f numbers tab : List ℕ) : Type 0 where
  pub own : owned f ≡ true
  pub are : numbers ≡ numbered f (length numbers)
  pub room : (places_of f).total ≤ length numbers
  pub clear : tab ≡ replicate (length numbers) 0

-- and the Use nodes of all statements
pub record Runs (f order starts : List ℕ) : Type 0 where
  pub nodes : order ≡ padded (length order) (use_order f)
  pub begins : starts ≡ padded (length starts) (use_starts f)
  pub long : suc (size f statements) ≤ length starts

-- t, of n numbers, says how often live statements read each value; whether a phi does
abbrev pub LiveReads : List ℕ → ℕ → List ℕ → Type 0
LiveReads f n t = (E : Edition) → t ≡ table f n (λ v. count (eqv v) (reads (read E f)))

abbrev pub PhiReads : List ℕ → ℕ → List ℕ → Type 0
PhiReads f n t = (E : Edition) → t ≡ table f n (λ v. cond (within v (phi_reads (read E f))) 1 0)
