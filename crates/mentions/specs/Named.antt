-- The expressions that a record names, by their number: what the loops go over.
use Rattle.std.specs.Prelude.{cond, List, ℕ, ◌+◌, eqb}
use Rattle.definition.specs.Codes.{k_assign, k_store, k_flags, k_return, t_bin, t_un, t_load}
use Rattle.definition.specs.Contents.{item_word, expr_word}
use Rattle.definition.specs.Owners.{stmt_kind, stmt_field, expr_items}

-- how many children expression i has, and the k-th
unfoldable pub child_count : List ℕ → ℕ → ℕ
child_count f i =
    let t = expr_word f i 0 in
    cond (eqb t t_bin) 2 (cond (eqb t t_un) 1 (cond (eqb t t_load) 1 0))

unfoldable pub child_at : List ℕ → ℕ → ℕ → ℕ
child_at f i k = cond (eqb (expr_word f i 0) t_load) (expr_word f i 2) (expr_word f i (3 + k))

-- how many roots statement i has, and the k-th, where its list items begin at `first`
unfoldable pub root_count : List ℕ → ℕ → ℕ
root_count f i =
    let k = stmt_kind f i in
    cond (eqb k k_assign) 1
    (cond (eqb k k_store) 2
    (cond (eqb k k_flags) 2
    (cond (eqb k k_return) (cond (eqb (stmt_field f i 0) 1) 1 0)
    (expr_items f i))))

unfoldable pub root_at : List ℕ → ℕ → ℕ → ℕ → ℕ
root_at f i first k =
    let kind = stmt_kind f i in
    cond (eqb kind k_assign) (stmt_field f i 2)
    (cond (eqb kind k_store) (stmt_field f i (1 + k))
    (cond (eqb kind k_flags) (stmt_field f i (1 + k))
    (cond (eqb kind k_return) (stmt_field f i 1)
    (item_word f (first + k) 0))))
