-- Expressions with `, ` between them, by their numbers.
use Rattle.std.specs.Prelude.{Bool, true, List, [], ◌∷◌, ◌++◌, map, ℕ}
use Rattle.definition.specs.Edition.{Edition}
use Rattle.definition.specs.Texts.{txt}
use Rattle.definition.specs.Lists.{range}
use Rattle.definition.specs.Contents.{item_word}
use Rattle.definition.specs.Ssa.{Expr}
use Rattle.definition.specs.Read.{tree_at, all_trees}
use Rattle.definition.specs.Tokens.{Token, punct}
use Rattle.pieces.specs.Spelled.{piece_if}
use Rattle.lowering.specs.Lowered.{expr_of}

-- expression n behind others or as the first; and such expressions
unfoldable pub arg_of : Edition → List ℕ → Bool → ℕ → List Token
arg_of E f more n = piece_if more (punct (txt ", ")) ++ expr_of E f n

unfoldable pub args_of : Edition → List ℕ → Bool → List ℕ → List Token
args_of E f more [] = []
args_of E f more (n ∷ ns) = arg_of E f more n ++ args_of E f true ns

-- the trees of these expressions
unfoldable pub trees_of : Edition → List ℕ → List ℕ → List Expr
trees_of E f ns = map (tree_at (all_trees E f)) ns

-- the expressions that n list items from a on are
unfoldable pub listed : List ℕ → ℕ → ℕ → List ℕ
listed f a n = map (λ k. item_word f k 0) (range a n)
