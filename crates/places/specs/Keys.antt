-- Every place of the file that may name a value, in the order of the sections: args, phis, inputs, statements, list items, expressions.
-- A value is one number, its key; 0 says that the place names none.
use Rattle.std.specs.Prelude.{cond, ◌&&◌, List, ◌++◌, map, ℕ, ◌+◌, ◌*◌, ◌-◌, ◌/◌, ◌%◌, eqb, replicate}
use Rattle.definition.specs.Codes.{k_assign, k_call, t_use}
use Rattle.definition.specs.Edition.{args, phis, inputs, statements, lists, expressions}
use Rattle.definition.specs.Lists.{gather, range}
use Rattle.definition.specs.Contents.{size, arg_at, phi_word, input_at, item_word, expr_word}
use Rattle.definition.specs.Owners.{stmt_kind, stmt_field, expr_items, value_items, phi_inputs, first_input, first_item}
use Rattle.definition.specs.Values.{Value, value}
use Rattle.definition.specs.Listing.{padded}
use Rattle.places.specs.declared.Places.{Places}

-- keys are in the order of (register, version) pairs
unfoldable pub key_of : Value → ℕ
key_of v = 1 + (4294967296 * v.reg + v.ver)

unfoldable pub value_of : ℕ → Value
value_of k = value ((k - 1) / 4294967296) ((k - 1) % 4294967296)

abbrev key : ℕ → ℕ → ℕ
key r n = key_of (value r n)

-- what the places of each section name: an argument register's entry value
unfoldable pub arg_key : List ℕ → ℕ → ℕ
arg_key f i = key (arg_at f i) 0

unfoldable pub phi_key : List ℕ → ℕ → ℕ
phi_key f i = key (phi_word f i 0) (phi_word f i 1)

-- input k, of phi i
unfoldable pub input_key : List ℕ → ℕ → ℕ → ℕ
input_key f i k = key (phi_word f i 0) (input_at f k)

-- what an Assign defines, or a Call returns
unfoldable pub stmt_key : List ℕ → ℕ → ℕ
stmt_key f i =
    cond (eqb (stmt_kind f i) k_assign) (key (stmt_field f i 0) (stmt_field f i 1))
    (cond (eqb (stmt_kind f i) k_call && eqb (stmt_field f i 3) 1) (key (stmt_field f i 4) (stmt_field f i 5)) 0)

-- a list item that is a value
unfoldable pub item_key : List ℕ → ℕ → ℕ
item_key f k = key (item_word f k 0) (item_word f k 1)

unfoldable pub expr_key : List ℕ → ℕ → ℕ
expr_key f n = cond (eqb (expr_word f n 0) t_use) (key (expr_word f n 1) (expr_word f n 2)) 0

-- the inputs of phi i; the items of statement i, expressions first
unfoldable pub input_keys : List ℕ → ℕ → List ℕ
input_keys f i = map (input_key f i) (range (first_input f i) (phi_inputs f i))

unfoldable pub item_keys : List ℕ → ℕ → List ℕ
item_keys f i = replicate (expr_items f i) 0 ++ map (item_key f) (range (first_item f i + expr_items f i) (value_items f i))

-- all of them
unfoldable pub keys_of : List ℕ → List ℕ
keys_of f =
    map (arg_key f) (range 0 (size f args))
    ++ (map (phi_key f) (range 0 (size f phis))
    ++ (gather (input_keys f) (range 0 (size f phis))
    ++ (map (stmt_key f) (range 0 (size f statements))
    ++ (gather (item_keys f) (range 0 (size f statements))
    ++ map (expr_key f) (range 0 (size f expressions))))))

-- where the places of each section begin, in a file whose owners' counts come out
unfoldable pub places_of : List ℕ → Places
places_of f =
    let a = size f args in
    let p = a + size f phis in
    let i = p + size f inputs in
    let s = i + size f statements in
    let l = s + size f lists in
    record { phis = a; inputs = p; stmts = i; items = s; exprs = l; total = l + size f expressions }

-- a table of n numbers, zeros behind the file's places
unfoldable pub keyed : List ℕ → ℕ → List ℕ
keyed f n = padded n (keys_of f)
