-- Owners take their parts in order (document 01; D4): which phis and statements a block has, which inputs a phi, which list items a statement,
-- and which of these are expressions.
use Rattle.std.specs.Prelude.{cond, List, ℕ, ◌+◌, eqb}
use Rattle.definition.specs.Codes.{k_call, k_branch, k_other}
use Rattle.definition.specs.Contents.{block_word, phi_word, stmt_word}
use Rattle.definition.specs.Lists.{sum_below}

abbrev pub stmt_kind : List ℕ → ℕ → ℕ
stmt_kind f i = stmt_word f i 3

-- field k of a statement, behind address, marks and kind
abbrev pub stmt_field : List ℕ → ℕ → ℕ → ℕ
stmt_field f i k = stmt_word f i (4 + k)

-- how many list items of statement i are expressions: a Call's args, a Branch's and an Other's uses; they come first
unfoldable pub expr_items : List ℕ → ℕ → ℕ
expr_items f i =
    cond (eqb (stmt_kind f i) k_call) (stmt_field f i 2)
    (cond (eqb (stmt_kind f i) k_branch) (stmt_field f i 6)
    (cond (eqb (stmt_kind f i) k_other) (stmt_field f i 2) 0))

-- how many are values: a Call's clobbers, an Other's defs
unfoldable pub value_items : List ℕ → ℕ → ℕ
value_items f i =
    cond (eqb (stmt_kind f i) k_call) (stmt_field f i 6)
    (cond (eqb (stmt_kind f i) k_other) (stmt_field f i 3) 0)

unfoldable pub items : List ℕ → ℕ → ℕ
items f i = expr_items f i + value_items f i

abbrev pub block_phis : List ℕ → ℕ → ℕ
block_phis f i = block_word f i 8

abbrev pub block_stmts : List ℕ → ℕ → ℕ
block_stmts f i = block_word f i 9

abbrev pub phi_inputs : List ℕ → ℕ → ℕ
phi_inputs f i = phi_word f i 3

-- where the parts of owner i begin: behind those of the owners before it
unfoldable pub first_phi : List ℕ → ℕ → ℕ
first_phi f i = sum_below i (block_phis f)

unfoldable pub first_stmt : List ℕ → ℕ → ℕ
first_stmt f i = sum_below i (block_stmts f)

unfoldable pub first_input : List ℕ → ℕ → ℕ
first_input f i = sum_below i (phi_inputs f)

unfoldable pub first_item : List ℕ → ℕ → ℕ
first_item f i = sum_below i (items f)
