-- Keys laid into a table, one place after the other; and what the code reads of a record that is one place, or of an item.
use Rattle.std.specs.Prelude.{cond, List, ℕ, ◌+◌, eqb, ltb}
use Rattle.std.proofs.lemmas.List.Edits.{sets}
use Rattle.definition.specs.Edition.{args, phis, statements, expressions}
use Rattle.definition.specs.Owners.{expr_items, first_item}
use Rattle.places.specs.Keys.{arg_key, phi_key, stmt_key, item_key, expr_key}

-- the table t with xs from place p on; nothing is written outside
unfoldable pub laid : List ℕ → ℕ → List ℕ → List ℕ
laid t p xs = sets t p xs

-- the key of record i of section s, in which each record is one place
unfoldable pub key_at : List ℕ → ℕ → ℕ → ℕ
key_at f s i =
    cond (eqb s args) (arg_key f i)
    (cond (eqb s phis) (phi_key f i)
    (cond (eqb s statements) (stmt_key f i)
    (cond (eqb s expressions) (expr_key f i) 0)))

-- item j of statement i; the expressions among them come first
unfoldable pub item_at : List ℕ → ℕ → ℕ → ℕ
item_at f i j = cond (ltb j (expr_items f i)) 0 (item_key f (first_item f i + j))
