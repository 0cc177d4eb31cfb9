-- A value of the SSA form: a register family and a version (`(Var, u32)` of ssa.rs). RSP is register 4.
use Rattle.std.specs.Prelude.{Bool, cond, ◌&&◌, ◌||◌, List, ℕ, eqb, ltb}
use Rattle.definition.specs.Lists.{any}

pub record Value : Type 0 where
  pub reg : ℕ
  pub ver : ℕ

abbrev pub value : ℕ → ℕ → Value
value r n = record { reg = r; ver = n }

abbrev pub RSP : ℕ
RSP = 4

unfoldable pub eqv : Value → Value → Bool
eqv a b = eqb a.reg b.reg && eqb a.ver b.ver

unfoldable pub within : Value → List Value → Bool
within v vs = any (eqv v) vs

-- the order of (register, version) pairs, and the lesser of two
unfoldable pub before : Value → Value → Bool
before a b = ltb a.reg b.reg || (eqb a.reg b.reg && ltb a.ver b.ver)

unfoldable pub lesser : Value → Value → Value
lesser a b = cond (before b a) b a

unfoldable pub greater : Value → Value → Value
greater a b = cond (before b a) a b
