-- The Use nodes that each statement reads, from left to right: `Kind::uses` of ssa.rs by the numbers of the nodes.
use Rattle.std.specs.Prelude.{cond, List, [], ◌∷◌, ◌++◌, map, ℕ, zero, suc, eqb, length, get_or}
use Rattle.definition.specs.Codes.{t_use, t_bin, t_un, t_load}
use Rattle.definition.specs.Edition.{statements, expressions}
use Rattle.definition.specs.Lists.{gather, range, sum_below}
use Rattle.definition.specs.Contents.{size, expr_word}
use Rattle.definition.specs.Values.{Value, value}
use Rattle.definition.specs.References.{roots}

abbrev uses_at : List (List ℕ) → ℕ → List ℕ
uses_at t i = get_or t i []

-- those of expression n, where t has those of the expressions below it
unfoldable pub node_uses : List ℕ → List (List ℕ) → ℕ → List ℕ
node_uses f t n =
    let g = expr_word f n 0 in
    cond (eqb g t_use) (n ∷ [])
    (cond (eqb g t_bin) (uses_at t (expr_word f n 3) ++ uses_at t (expr_word f n 4))
    (cond (eqb g t_un) (uses_at t (expr_word f n 3))
    (cond (eqb g t_load) (uses_at t (expr_word f n 2)) [])))

unfoldable pub uses_below : List ℕ → ℕ → List (List ℕ)
uses_below f zero = []
uses_below f (suc n) = let t = uses_below f n in t ++ (node_uses f t n ∷ [])

-- those of expression n of the file
unfoldable pub uses_in : List ℕ → ℕ → List ℕ
uses_in f n = uses_at (uses_below f (size f expressions)) n

-- those of statement i
unfoldable pub stmt_uses : List ℕ → ℕ → List ℕ
stmt_uses f i = gather (uses_in f) (roots f i)

-- all of them, and how many stand before statement i
unfoldable pub use_order : List ℕ → List ℕ
use_order f = gather (stmt_uses f) (range 0 (size f statements))

unfoldable pub use_start : List ℕ → ℕ → ℕ
use_start f i = sum_below i (λ j. length (stmt_uses f j))

unfoldable pub use_starts : List ℕ → List ℕ
use_starts f = map (use_start f) (range 0 (suc (size f statements)))

-- the value that a Use node reads
unfoldable pub use_value : List ℕ → ℕ → Value
use_value f n = value (expr_word f n 1) (expr_word f n 2)
