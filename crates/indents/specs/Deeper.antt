-- A line some steps deeper, as far as 64 bits go.
use Rattle.std.specs.Prelude.{cond, ℕ, ◌+◌, ◌^◌, ltb}
use Rattle.indents.specs.declared.Line.{Line}

-- the sum where it is a number of 64 bits, else the indent as it was
unfoldable pub deeper_by : ℕ → ℕ → ℕ
deeper_by by n = cond (ltb (n + by) (2 ^ 64)) (n + by) n

abbrev pub raised_by : ℕ → Line → Line
raised_by by l = record { has = l.has; address = l.address; indent = deeper_by by l.indent; end = l.end; block = l.block }
