-- Expressions as tokens (c.rs, `Gen::expr`, `Gen::e`). A Use of a value written in place prints that value's expression.
use Rattle.std.specs.Prelude.{Bool, true, false, cond, List, [], ◌∷◌, ◌++◌, ℕ, ◌*◌, eqb}
use Rattle.std.proofs.Math.Option.{Option, none, some}
use Rattle.definition.specs.Texts.{txt, trim_end}
use Rattle.definition.specs.Values.{Value, eqv}
use Rattle.definition.specs.Ssa.{Expr, Name}
use Rattle.definition.specs.Ssa.Expr.{Const, Use, Bin, Un, Load, Opaque}
use Rattle.definition.specs.Offsets.{Known, look, stack_off}
use Rattle.definition.specs.Inline.{InPlace}
use Rattle.definition.specs.Names.{Named, name_in}
use Rattle.definition.specs.Registers.{reg_name}
use Rattle.definition.specs.Numbers.{num, slot, decimal}
use Rattle.definition.specs.Lookup.{global_name, name_or}
use Rattle.definition.specs.Tokens.{Token, textual, register, numeral, keyword, symbol, punct}

-- a value written in place, as it prints at the top of an expression and inside one
pub record Opened : Type 0 where
  pub of : Value
  pub top : List Token
  pub inner : List Token

-- what rendering needs to know (`Gen`)
pub record Gen : Type 0 where
  pub bits : ℕ
  pub supplied : List Name
  pub offsets : List Known
  pub names : List Named
  pub opened : List Opened

unfoldable pub opened_at : List Opened → Bool → Value → Option (List Token)
opened_at [] top v = none
opened_at (o ∷ os) top v = cond (eqv o.of v) (some (cond top o.top o.inner)) (opened_at os top v)

-- a value's variable: its name, or else its register
unfoldable pub variable : Gen → Value → List ℕ
variable G v = name_or (reg_name G.bits v.reg) (name_in G.names v)

unfoldable pub use_or : List ℕ → Option (List Token) → List Token
use_or n none = register n ∷ []
use_or n (some ts) = ts

-- a stack address prints as its slot's
unfoldable pub address_or : ℕ → List Token → List Token
address_or s ts = cond (eqb s 0) ts (punct (txt "&") ∷ register (slot s) ∷ [])

-- between parentheses, unless at the top
unfoldable pub nested : Bool → List Token → List Token
nested true ts = ts
nested false ts = punct (txt "(") ∷ (ts ++ (punct (txt ")") ∷ []))

-- `*(uintN_t *)`
unfoldable pub pointer : ℕ → Token
pointer n = keyword (txt "*(uint" ++ decimal (n * 8) ++ txt "_t *)")

-- a load or a store through an address that is no slot
unfoldable pub through : ℕ → List Token → List Token
through n ts = pointer n ∷ punct (txt "(") ∷ (ts ++ (punct (txt ")") ∷ []))

unfoldable pub slot_or : ℕ → List Token → List Token
slot_or s ts = cond (eqb s 0) ts (register (slot s) ∷ [])

-- the global that a load reads
unfoldable pub global_of : List Name → ℕ → Expr → Option (List ℕ)
global_of ns n (Const c) = global_name ns c n
global_of ns n (Use v) = none
global_of ns n (Bin o a b) = none
global_of ns n (Un o a) = none
global_of ns n (Load m a) = none
global_of ns n (Opaque t) = none

unfoldable pub global_or : List Token → Option (List ℕ) → List Token
global_or ts none = ts
global_or ts (some n) = symbol n ∷ []

-- a printed two-operand operator loses every trailing `s`
unfoldable pub operator : List ℕ → Token
operator o = punct (txt " " ++ trim_end 115 o ++ txt " ")

unfoldable pub expr : Gen → Bool → Expr → List Token
expr G top (Const c) = numeral (num c) ∷ []
expr G top (Use v) = address_or (look G.offsets v) (use_or (variable G v) (opened_at G.opened top v))
expr G top (Bin o a b) =
    address_or (stack_off G.offsets (Bin o a b)) (nested top (expr G false a ++ (operator o ∷ expr G false b)))
expr G top (Un o a) = punct o ∷ expr G false a
expr G top (Load n a) =
    global_or (slot_or (stack_off G.offsets a) (through n (expr G true a))) (global_of G.supplied n a)
expr G top (Opaque t) = textual t ∷ []

-- `e`
unfoldable pub e : Gen → Expr → List Token
e G x = expr G true x

-- the values written in place, each rendered where those before it are open
unfoldable pub open_next : Gen → InPlace → Gen
open_next G p = record {
  bits = G.bits;
  supplied = G.supplied;
  offsets = G.offsets;
  names = G.names;
  opened = G.opened ++ (record { of = p.of; top = expr G true p.expr; inner = expr G false p.expr } ∷ []);
}

unfoldable pub open_all : Gen → List InPlace → Gen
open_all G [] = G
open_all G (p ∷ ps) = open_all (open_next G p) ps
