-- The pieces and the lines of gotos, computed jumps and jumps out of the function, by the numbers of blocks, statements and list items.
use Rattle.std.specs.Prelude.{Bool, cond, List, [], ◌∷◌, ◌++◌, ℕ, eqb}
use Rattle.std.proofs.Math.Option.{some}
use Rattle.definition.specs.Edition.{Edition}
use Rattle.definition.specs.Words.{word}
use Rattle.definition.specs.Texts.{txt, begins}
use Rattle.definition.specs.Contents.{stmt_long}
use Rattle.definition.specs.Ssa.{Expr}
use Rattle.definition.specs.Read.{read}
use Rattle.definition.specs.Numbers.{label}
use Rattle.definition.specs.Lookup.{order, is_next, target_name}
use Rattle.definition.specs.Tokens.{Token, Line, textual, keyword, symbol, address, punct, line}
use Rattle.definition.specs.Lower.{goto_tokens, comma_list, first_of}
use Rattle.labels.specs.Labels.{next_at}
use Rattle.lowering.specs.Lowered.{lowering_of}
use Rattle.lowering.specs.Commas.{trees_of, listed}

-- the trees of n list items from a on
unfoldable pub uses_of : Edition → List ℕ → ℕ → ℕ → List Expr
uses_of E f a n = trees_of E f (listed f a n)

-- ---- gotos, and the line of statement i
-- `goto `
unfoldable pub go_tokens : List Token
go_tokens = keyword (txt "goto") ∷ textual (txt " ") ∷ []

-- what is at address a, by name
unfoldable pub name_of : Edition → List ℕ → ℕ → List ℕ
name_of E f a = target_name (order (read E f)) (read E f).names a

unfoldable pub stmt_line : List ℕ → ℕ → List Token → List Line
stmt_line f i ts = line 1 (some (stmt_long f i 0)) ts ∷ []

-- ---- a jump from block b to the one that starts at a, and a computed jump
unfoldable pub to_block : List ℕ → ℕ → ℕ → ℕ → List Line
to_block f b i a = cond (is_next (next_at f b) a) [] (stmt_line f i (goto_tokens (symbol (label a))))

unfoldable pub computed_tokens : Edition → List ℕ → ℕ → ℕ → List Token
computed_tokens E f item n = keyword (txt "goto") ∷ punct (txt " *") ∷ (first_of (lowering_of E f) (uses_of E f item n) ++ (punct (txt ";") ∷ []))

-- ---- a jump out of the function
-- `NAME(ARGS)`
unfoldable pub name_tokens : Edition → List ℕ → ℕ → List Expr → List Token
name_tokens E f a xs = symbol (name_of E f a) ∷ punct (txt "(") ∷ (comma_list (lowering_of E f) xs ++ (punct (txt ")") ∷ []))

-- `return `, where the result is returned
unfoldable pub return_if : Bool → List Token
return_if returns = cond returns (keyword (txt "return") ∷ textual (txt " ") ∷ []) []

-- `return NAME(ARGS);`, or `NAME(ARGS);`
unfoldable pub call_tokens : Edition → List ℕ → ℕ → Bool → List Expr → List Token
call_tokens E f a returns xs = return_if returns ++ (name_tokens E f a xs ++ (punct (txt ";") ∷ []))

-- and behind the latter `return;`
unfoldable pub end_tokens : List Token
end_tokens = keyword (txt "return") ∷ punct (txt ";") ∷ []

unfoldable pub return_line : List ℕ → ℕ → Bool → List Line
return_line f i returns = cond returns [] (stmt_line f i end_tokens)

unfoldable pub tail_by : Edition → List ℕ → ℕ → ℕ → Bool → List Expr → List Line
tail_by E f i a returns xs = stmt_line f i (call_tokens E f a returns xs) ++ return_line f i returns

-- by whether the function returns something
unfoldable pub tail_of : Edition → List ℕ → ℕ → ℕ → List Expr → List Line
tail_of E f i a xs = tail_by E f i a (eqb (word f 8) 1) xs

unfoldable pub leave_of : Edition → List ℕ → ℕ → ℕ → List Expr → List Line
leave_of E f i a xs = cond (begins (txt "*") (name_of E f a)) (stmt_line f i (goto_tokens (address (name_of E f a)))) (tail_of E f i a xs)
