-- Runs of list items, read off the file.
use Rattle.std.specs.Prelude.{cond, List, ℕ, ◌+◌, ◌-◌, leb}
use Rattle.definition.specs.Owners.{expr_items, value_items}
use Rattle.statements.specs.declared.items.Items.{Items}

-- the place n behind `first`, or the last of 32 bits
unfoldable pub behind_of : ℕ → ℕ → ℕ
behind_of first n = cond (leb n (4294967295 - first)) (first + n) 4294967295

-- the items of statement i, which begin at `first`: the expressions, then the values
unfoldable pub expr_run : List ℕ → ℕ → ℕ → Items
expr_run f i first = record { first = first; count = expr_items f i }

unfoldable pub value_run : List ℕ → ℕ → ℕ → Items
value_run f i first = record { first = behind_of first (expr_items f i); count = value_items f i }
