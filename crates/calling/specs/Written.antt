-- The pieces of a call's line, by the numbers of its records.
use Rattle.std.specs.Prelude.{min, Bool, cond, ◌&&◌, List, [], ◌∷◌, ◌++◌, ℕ, ◌+◌, ◌-◌, eqb, ltb}
use Rattle.definition.specs.Codes.{k_store, t_const, t_load}
use Rattle.definition.specs.Edition.{Edition, expressions}
use Rattle.definition.specs.Texts.{txt}
use Rattle.definition.specs.Contents.{size, expr_word, expr_long, text_at}
use Rattle.definition.specs.Owners.{stmt_kind, stmt_field}
use Rattle.definition.specs.Values.{value}
use Rattle.definition.specs.Meaning.{bits}
use Rattle.definition.specs.Read.{when, marked}
use Rattle.definition.specs.Registers.{reg_name}
use Rattle.definition.specs.Lookup.{name_or}
use Rattle.definition.specs.Tokens.{Token, register, punct}
use Rattle.definition.specs.Lower.{result_tokens, direct, indirect, is_indirect, comma_list}
use Rattle.text.specs.Supplied.{is_global, global_text}
use Rattle.names.specs.Codes.{name_text}
use Rattle.lowering.specs.Lowered.{lowering_of}
use Rattle.lowering.specs.Commas.{arg_of, trees_of, listed}
use Rattle.calls.specs.Waiting.{pushed_nodes}

-- ---- the pushes
-- does statement i push a value: a Store marked as a push; and that value
unfoldable pub is_push : List ℕ → ℕ → Bool
is_push f i = marked f i 4 && eqb (stmt_kind f i) k_store

unfoldable pub push_of : Edition → List ℕ → Bool → ℕ → List Token
push_of E f more i = cond (is_push f i) (arg_of E f more (stmt_field f i 2)) []

-- ---- the result: `NAME = `, of a value in register r whose name has the code c
unfoldable pub setting_of : ℕ → ℕ → ℕ → List Token
setting_of b r c = register (name_or (reg_name b r) (name_text b r c)) ∷ punct (txt " = ") ∷ []

unfoldable pub result_of : Edition → List ℕ → ℕ → List Token
result_of E f i = result_tokens (lowering_of E f) (when (stmt_field f i 3) (value (stmt_field f i 4) (stmt_field f i 5)))

-- ---- the target
-- does expression n load a constant that names a global; and that global
unfoldable pub is_slot : List ℕ → ℕ → Bool
is_slot f n =
    let c = expr_word f n 2 in
    ltb n (size f expressions) && eqb (expr_word f n 0) t_load && ltb c n && eqb (expr_word f c 0) t_const && is_global (expr_long f c 1)

unfoldable pub slot_text : List ℕ → ℕ → ℕ → List ℕ
slot_text f t n = global_text f t (expr_long f (expr_word f n 2) 1) (expr_word f n 1)

unfoldable pub target_text : Edition → List ℕ → ℕ → List ℕ
target_text E f i = text_at E f (stmt_field f i 0) (stmt_field f i 1)

unfoldable pub target_of : Edition → List ℕ → ℕ → ℕ → List Token
target_of E f i item =
    cond (is_indirect (target_text E f i)) (indirect (lowering_of E f) (trees_of E f (listed f item (stmt_field f i 2)))) (direct (lowering_of E f) (target_text E f i))

-- ---- the arguments
-- how many of n list items stand before them: the address of a computed call
unfoldable pub skip : Bool → ℕ → ℕ
skip computed n = cond (computed && ltb 0 n) 1 0

-- of 64 bits, and of 32
unfoldable pub counted : List ℕ → Bool → ℕ → ℕ → ℕ → List ℕ
counted f computed item n count = listed f (item + skip computed n) (min count (n - skip computed n))

unfoldable pub waiting_nodes : List ℕ → ℕ → ℕ → List ℕ
waiting_nodes f from i = cond (marked f i 4) [] (pushed_nodes f from i)

unfoldable pub arg_nodes : Edition → List ℕ → ℕ → ℕ → ℕ → ℕ → List ℕ
arg_nodes E f i item from count =
    cond (eqb (bits f) 32) (waiting_nodes f from i) (counted f (is_indirect (target_text E f i)) item (stmt_field f i 2) count)

-- ---- all of it
unfoldable pub call_of : Edition → List ℕ → ℕ → ℕ → ℕ → ℕ → List Token
call_of E f i item from count =
    result_of E f i ++ target_of E f i item
    ++ (punct (txt "(") ∷ (comma_list (lowering_of E f) (trees_of E f (arg_nodes E f i item from count)) ++ (punct (txt ");") ∷ [])))
