-- The pieces of each kind's line, by the number of its statement, and the tests that leave a line out.
use Rattle.std.specs.Prelude.{Bool, not, ◌&&◌, ◌||◌, List, ◌∷◌, [], ◌++◌, ℕ, eqb}
use Rattle.definition.specs.Edition.{Edition}
use Rattle.definition.specs.Texts.{txt}
use Rattle.definition.specs.Lists.{any}
use Rattle.definition.specs.Owners.{stmt_field}
use Rattle.definition.specs.Values.{Value, value, RSP}
use Rattle.definition.specs.Meaning.{bits}
use Rattle.definition.specs.Read.{when, tree_at, all_trees, kind_at, marked, read}
use Rattle.definition.specs.Offsets.{Known, offsets, stack_off}
use Rattle.definition.specs.Inline.{in_place}
use Rattle.definition.specs.Registers.{callee_saved}
use Rattle.definition.specs.Tokens.{Token, register, keyword, punct}
use Rattle.definition.specs.Render.{variable, slot_or, through}
use Rattle.definition.specs.Lower.{takes, return_tokens}
use Rattle.definition.specs.Blocks.{is_save}
use Rattle.inline.specs.Placing.{behind}
use Rattle.lowering.specs.Lowered.{lowering_of, expr_of, within_of}

-- ` = E;`
abbrev pub becomes : Edition → List ℕ → ℕ → List Token
becomes E f n = within_of E f (txt " = ") n (txt ";")

-- ---- a Return: what it gives back, and all of it
unfoldable pub result_of : Edition → List ℕ → ℕ → List Token
result_of E f i = return_tokens (lowering_of E f) (when (stmt_field f i 0) (tree_at (all_trees E f) (stmt_field f i 1)))

unfoldable pub return_of : Edition → List ℕ → ℕ → List Token
return_of E f i = keyword (txt "return") ∷ (result_of E f i ++ (punct (txt ";") ∷ []))

-- ---- a Store: is it a 32-bit push that a call behind it takes along, or by the offsets k a save
unfoldable pub is_taken : Edition → List ℕ → ℕ → ℕ → Bool
is_taken E f end i = eqb (bits f) 32 && marked f i 4 && any takes (behind E f end i)

unfoldable pub is_silent : Edition → List ℕ → List Known → ℕ → ℕ → Bool
is_silent E f k end i = is_taken E f end i || is_save k (kind_at E f (all_trees E f) i)

-- m bytes through the address n, which is no slot
unfoldable pub through_of : Edition → List ℕ → ℕ → ℕ → List Token
through_of E f m n = through m (expr_of E f n)

-- where it stores
unfoldable pub destination_of : Edition → List ℕ → ℕ → List Token
destination_of E f i =
    slot_or (stack_off (offsets (read E f)) (tree_at (all_trees E f) (stmt_field f i 1))) (through_of E f (stmt_field f i 0) (stmt_field f i 1))

unfoldable pub store_of : Edition → List ℕ → ℕ → List Token
store_of E f i = destination_of E f i ++ becomes E f (stmt_field f i 2)

-- ---- an Assign
abbrev pub target : List ℕ → ℕ → Value
target f i = value (stmt_field f i 0) (stmt_field f i 1)

-- is it dead, RSP's, or written in place
unfoldable pub is_gone : Edition → List ℕ → ℕ → Bool
is_gone E f i = marked f i 1 || eqb (stmt_field f i 0) RSP || in_place (lowering_of E f).places (target f i)

-- the code's tests of it, where the table of places says p of its value; where the table of classes says q, and its expression loads from a slot or not
unfoldable pub gone_by : List ℕ → ℕ → ℕ → Bool
gone_by f i p = marked f i 1 || eqb (stmt_field f i 0) RSP || not (eqb p 0)

unfoldable pub restored_by : List ℕ → ℕ → ℕ → Bool → Bool
restored_by f i q loads = callee_saved (stmt_field f i 0) && eqb q 0 && loads

unfoldable pub assign_of : Edition → List ℕ → ℕ → List Token
assign_of E f i = register (variable (lowering_of E f).gen (target f i)) ∷ becomes E f (stmt_field f i 2)
