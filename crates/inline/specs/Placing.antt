-- The values written in place with the numbers of the statements that define them, and what the tables of the analyses before say.
use Rattle.std.specs.Prelude.{◌≡◌, true, cond, List, [], ◌∷◌, map, ℕ, suc, ◌+◌, ◌-◌, ◌≤◌, length}
use Rattle.definition.specs.Edition.{Edition, blocks}
use Rattle.definition.specs.Lists.{gather, range}
use Rattle.definition.specs.Contents.{size}
use Rattle.definition.specs.Owners.{block_stmts, first_stmt}
use Rattle.definition.specs.Shape.{owned}
use Rattle.definition.specs.Values.{Value, eqv}
use Rattle.definition.specs.Ssa.{Stmt}
use Rattle.definition.specs.Read.{all_trees, stmt_at, read}
use Rattle.definition.specs.Inline.{InPlace, reads_of, place_kind}
use Rattle.places.specs.Keys.{places_of}
use Rattle.values.specs.Tables.{numbered, table}
use Rattle.reads.specs.Counts.{last_reader, LiveReads, PhiReads}
use Rattle.uses.specs.Loads.{Loads}

-- a value written in place, and the statement that defines it
pub record Placed : Type 0 where
  pub stmt : ℕ
  pub is : InPlace

-- the statements behind i, in a block that ends before statement `end`
unfoldable pub behind : Edition → List ℕ → ℕ → ℕ → List Stmt
behind E f end i = map (stmt_at E f (all_trees E f)) (range (i + 1) (end - (i + 1)))

-- the value that statement i defines, if it is written in place
unfoldable pub placed_at : Edition → List ℕ → ℕ → ℕ → List Placed
placed_at E f end i =
    let s = stmt_at E f (all_trees E f) i in
    map (λ p. record { stmt = i; is = p }) (cond s.dead [] (place_kind (reads_of (read E f)) s.kind (behind E f end i)))

-- those of block b, and all
unfoldable pub placed_in : Edition → List ℕ → ℕ → List Placed
placed_in E f b = gather (placed_at E f (first_stmt f b + block_stmts f b)) (range (first_stmt f b) (block_stmts f b))

unfoldable pub all_placed : Edition → List ℕ → List Placed
all_placed E f = gather (placed_in E f) (range 0 (size f blocks))

-- 1 and the statement of v, the last where there are more, or else n
unfoldable pub place_in : List Placed → Value → ℕ → ℕ
place_in [] v n = n
place_in (p ∷ ps) v n = place_in ps v (cond (eqv p.is.of v) (suc p.stmt) n)

-- 1 and the statement whose expression is written in place of v, 0 where v is not written in place
unfoldable pub place_of : Edition → List ℕ → Value → ℕ
place_of E f v = place_in (all_placed E f) v 0

-- a table of places before and after these are placed
unfoldable pub Adds : List ℕ → ℕ → (Edition → List Placed) → List ℕ → List ℕ → Type 0
Adds f n ps t u = (E : Edition) (g : Value → ℕ) → t ≡ table f n g → u ≡ table f n (λ v. place_in (ps E) v (g v))

-- what the file and the tables before it say: how often live statements read a value, whether a phi does, its last reader, which expressions load
pub record Told (f numbers live phi readers loads : List ℕ) : Type 0 where
  pub own : owned f ≡ true
  pub room : (places_of f).total ≤ length numbers
  pub number : numbers ≡ numbered f (length numbers)
  pub times : LiveReads f (length numbers) live
  pub flows : PhiReads f (length numbers) phi
  pub reader : readers ≡ table f (length numbers) (last_reader f)
  pub loaded : Loads f (length loads) loads
