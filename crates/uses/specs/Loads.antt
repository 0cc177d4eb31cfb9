-- Whether each expression holds a Load: 1 where it does, from the lowest up.
use Rattle.std.specs.Prelude.{◌≡◌, cond, List, [], ◌∷◌, ◌++◌, map, ℕ, zero, suc, eqb}
use Rattle.definition.specs.Codes.{t_bin, t_un, t_load}
use Rattle.definition.specs.Edition.{Edition}
use Rattle.definition.specs.Contents.{expr_word}
use Rattle.definition.specs.Ssa.{Expr}
use Rattle.definition.specs.Read.{all_trees}
use Rattle.definition.specs.Inline.{has_load}
use Rattle.definition.specs.Listing.{padded}
use Rattle.definition.specs.Lists.{at}

-- of expression i, where l has the answers for those below it
unfoldable pub load_of : List ℕ → List ℕ → ℕ → ℕ
load_of f l i =
    let t = expr_word f i 0 in
    cond (eqb t t_load) 1
    (cond (eqb t t_un) (at l (expr_word f i 3))
    (cond (eqb t t_bin) (cond (eqb (at l (expr_word f i 3)) 1) 1 (at l (expr_word f i 4))) 0))

unfoldable pub loads_below : List ℕ → ℕ → List ℕ
loads_below f zero = []
loads_below f (suc n) = let l = loads_below f n in l ++ (load_of f l n ∷ [])

-- 1 for a tree that holds a Load
unfoldable pub load_bit : Expr → ℕ
load_bit x = cond (has_load x) 1 0

-- t, of n numbers, says it of every expression
abbrev pub Loads : List ℕ → ℕ → List ℕ → Type 0
Loads f n t = (E : Edition) → t ≡ padded n (map (λ x. cond (has_load x) 1 0) (all_trees E f))
