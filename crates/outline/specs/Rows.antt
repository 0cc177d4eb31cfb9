-- A row is a line of the passes as one number: its kind, its indent, the name it bears or aims at, and the lowered line that it comes from.
use Rattle.std.specs.Prelude.{cond, List, map, ℕ, ◌/◌, ◌%◌, eqb, get_or}
use Rattle.definition.specs.Tokens.{Token, Line}
use Rattle.definition.specs.Negate.{open_tokens, do_tokens, while_tokens}
use Rattle.definition.specs.Passes.{closer}

-- the kinds; 4 is a plain line
abbrev pub LABEL : ℕ
LABEL = 1

abbrev pub COND : ℕ
COND = 2

abbrev pub JUMP : ℕ
JUMP = 3

abbrev pub IF-OPEN : ℕ
IF-OPEN = 5

abbrev pub CLOSE : ℕ
CLOSE = 6

abbrev pub DO-OPEN : ℕ
DO-OPEN = 7

abbrev pub WHILE-CLOSE : ℕ
WHILE-CLOSE = 8

-- a row's parts. A name is 1 + the lowered line of the label, 0 for a goto that meets no label
abbrev pub kind_of : ℕ → ℕ
kind_of w = w % 16

abbrev pub indent_of : ℕ → ℕ
indent_of w = w / 16 % 4096

abbrev pub name_of : ℕ → ℕ
name_of w = w / 65536 % 16777216

abbrev pub origin_of : ℕ → ℕ
origin_of w = w / 1099511627776

-- the tokens of a row of kind k, of those of its lowered line
unfoldable pub toks_of : ℕ → List Token → List Token
toks_of k ts = cond (eqb k IF-OPEN) (open_tokens ts) (cond (eqb k DO-OPEN) do_tokens (cond (eqb k WHILE-CLOSE) (while_tokens ts) ts))

-- the line that a row stands for, with ls the lowered lines
unfoldable pub line_at : List Line → ℕ → Line
line_at ls i = get_or ls i (closer 0)

unfoldable pub line_of : List Line → ℕ → Line
line_of ls w =
    let l = line_at ls (origin_of w) in
    cond (eqb (kind_of w) CLOSE) (closer (indent_of w))
    (record { addr = l.addr; indent = indent_of w; toks = toks_of (kind_of w) l.toks })

unfoldable pub lines_of : List Line → List ℕ → List Line
lines_of ls ws = map (line_of ls) ws
