-- What is right of one value.
use Rattle.std.specs.Prelude.{Bool}
use Rattle.definition.specs.Values.{Value}
use Rattle.definition.specs.Meaning.{is_register}

-- a value of a register that there is
abbrev pub named : Value → Bool
named v = is_register v.reg
