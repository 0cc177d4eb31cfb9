-- A row for each lowered line: what the passes read off its tokens, with a label's name being 1 + its line.
use Rattle.std.specs.Prelude.{min, Bool, cond, Option, Some, None, List, ◌++◌, map, ℕ, suc, ◌+◌, ◌*◌, ◌%◌, ltb, length, drop}
use Rattle.definition.specs.Lists.{range}
use Rattle.definition.specs.Tokens.{Line}
use Rattle.definition.specs.Sorts.{Sort, sort}
use Rattle.definition.specs.Sorts.Sort.{label, cond_to, jump_to, plain, if_open, close, do_open, while_close}
use Rattle.definition.specs.Passes.{named}
use Rattle.sheet.specs.Buffers.{line_in}
use Rattle.outline.specs.Rows.{LABEL, COND, JUMP, line_at}
use Rattle.sorts.specs.Places.{first_place}

-- is line i the label t
unfoldable pub named_at : List ℕ → List Line → ℕ → Bool
named_at t xs i = named t (line_at xs i)

-- 1 + a line of n; 0 for the end
unfoldable pub numbered : ℕ → ℕ → ℕ
numbered n i = cond (ltb i n) (suc i) 0

-- a label's name: 1 + its line, and 0 where there is none
abbrev pub number_of : Option ℕ → ℕ
number_of (Some i) = suc i
number_of None = 0

-- the name of a goto to t: that of the first label t, 0 where there is none
unfoldable pub label_number : List ℕ → List Line → ℕ
label_number t xs = numbered (length xs) (first_place (named_at t xs) 0 (length xs))

-- lowering makes no line of the last four sorts: they are as plain ones
unfoldable pub kind_in : Sort → ℕ
kind_in (label t) = LABEL
kind_in (cond_to t) = COND
kind_in (jump_to t) = JUMP
kind_in plain = 4
kind_in if_open = 4
kind_in close = 4
kind_in do_open = 4
kind_in while_close = 4

-- the kind of a goto, by whether it begins with `if`
unfoldable pub jump_kind : Bool → ℕ
jump_kind b = cond b COND JUMP

-- the name of line i
unfoldable pub name_in : List Line → ℕ → Sort → ℕ
name_in xs i (label t) = suc i
name_in xs i (cond_to t) = label_number t xs
name_in xs i (jump_to t) = label_number t xs
name_in xs i plain = 0
name_in xs i if_open = 0
name_in xs i close = 0
name_in xs i do_open = 0
name_in xs i while_close = 0

-- kind, indent, name and origin in one number, each as far as its field goes
unfoldable pub packed : ℕ → ℕ → ℕ → ℕ → ℕ
packed k d m o = k % 16 + 16 * (d % 4096) + 65536 * (m % 16777216) + 1099511627776 * (o % 16777216)

-- the row of line i
unfoldable pub row_of : List Line → ℕ → ℕ
row_of xs i = let x = line_at xs i in packed (kind_in (sort x)) x.indent (name_in xs i (sort x)) i

-- the first n lines of the buffers
unfoldable pub lines_in : List ℕ → List ℕ → List ℕ → ℕ → List Line
lines_in ls ks t n = map (line_in ls ks t) (range 0 n)

-- the table R with their rows in front, as many as it has room for
unfoldable pub sorted : List ℕ → List ℕ → List ℕ → ℕ → List ℕ → List ℕ
sorted ls ks t n R = let m = min n (length R) in map (row_of (lines_in ls ks t n)) (range 0 m) ++ drop m R
