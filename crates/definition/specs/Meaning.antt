-- Refusal 6 (document 01, "When nothing is printed"; D2, D10): bits, registers, args, block starts, names, definitions, targets.
use Rattle.std.specs.Prelude.{Bool, true, not, cond, ◌&&◌, ◌||◌, List, [], ◌∷◌, ◌++◌, map, ℕ, ◌+◌, ◌-◌, eqb, ltb, leb}
use Rattle.definition.specs.Codes.{k_assign, k_call, t_use}
use Rattle.definition.specs.Edition.{Edition, args, blocks, phis, phi_words, statements, expressions, names}
use Rattle.definition.specs.Words.{word}
use Rattle.definition.specs.Texts.{txt, begins}
use Rattle.definition.specs.Lists.{all, count, gather, range, all_below, among, distinct}
use Rattle.definition.specs.Contents.{size, place, arg_at, block_long, item_word, expr_word, name_long, text_at}
use Rattle.definition.specs.Owners.{stmt_kind, stmt_field, expr_items, value_items, first_item}
use Rattle.definition.specs.Values.{Value, value, eqv, RSP}

-- the bits of the function: 32 or 64
unfoldable pub bits : List ℕ → ℕ
bits f = word f 4

abbrev pub is_register : ℕ → Bool
is_register r = leb r 15

unfoldable pub arg_regs : List ℕ → List ℕ
arg_regs f = map (arg_at f) (range 0 (size f args))

unfoldable pub starts : List ℕ → List ℕ
starts f = map (λ i. block_long f i 0) (range 0 (size f blocks))

unfoldable pub rising : List ℕ → Bool
rising f = all_below (size f names - 1) (λ i. ltb (name_long f i 0) (name_long f (i + 1) 0))

-- the values among the list items of statement i
unfoldable pub item_values : List ℕ → ℕ → List Value
item_values f i =
    let from = first_item f i + expr_items f i in
    map (λ k. value (item_word f (from + k) 0) (item_word f (from + k) 1)) (range 0 (value_items f i))

-- the value that words 0 and 1 of record i name, in section s of records of w words
unfoldable pub value_at : List ℕ → ℕ → ℕ → ℕ → Value
value_at f s w i = value (word f (place f s w i 0)) (word f (place f s w i 1))

abbrev pub phi_value : List ℕ → ℕ → Value
phi_value f i = value_at f phis phi_words i

-- what an Assign defines, which nothing else may define; what a Call returns
unfoldable pub assigned : List ℕ → ℕ → List Value
assigned f i = cond (eqb (stmt_kind f i) k_assign) (value (stmt_field f i 0) (stmt_field f i 1) ∷ []) []

unfoldable pub call_returns : List ℕ → ℕ → List Value
call_returns f i = cond (eqb (stmt_kind f i) k_call && eqb (stmt_field f i 3) 1) (value (stmt_field f i 4) (stmt_field f i 5) ∷ []) []

-- the values that phis and Assigns define; those that Calls and Others do
unfoldable pub strict : List ℕ → List Value
strict f = map (phi_value f) (range 0 (size f phis)) ++ gather (assigned f) (range 0 (size f statements))

unfoldable pub loose : List ℕ → List Value
loose f = gather (λ i. call_returns f i ++ item_values f i) (range 0 (size f statements))

unfoldable pub defined_once : List ℕ → Bool
defined_once f =
    let vs = strict f in
    let all_of_them = vs ++ loose f in
    all (λ v. not (eqb v.ver 0) && eqb (count (eqv v) all_of_them) 1) vs

-- every register named: args, phis, what statements define, Uses
unfoldable pub use_register : List ℕ → ℕ → Bool
use_register f i = cond (eqb (expr_word f i 0) t_use) (is_register (expr_word f i 1)) true

unfoldable pub registers : List ℕ → Bool
registers f =
    all is_register (arg_regs f) && all (λ v. is_register v.reg) (strict f) && all (λ v. is_register v.reg) (loose f)
    && all_below (size f expressions) (use_register f)

-- a computed target has its expression
unfoldable pub targeted : Edition → List ℕ → ℕ → Bool
targeted E f i =
    not (eqb (stmt_kind f i) k_call && begins (txt "[") (text_at E f (stmt_field f i 0) (stmt_field f i 1)) && eqb (stmt_field f i 2) 0)

-- 6
unfoldable pub refused6 : Edition → List ℕ → Bool
refused6 E f = not
    ((eqb (bits f) 32 || eqb (bits f) 64) && registers f && distinct (arg_regs f) && not (among RSP (arg_regs f))
    && distinct (starts f) && rising f && defined_once f && all_below (size f statements) (targeted E f))
