-- A name as one number, its code: 0 says none, 1 the register's own name, 2 k is `a` k and 2 k + 1 is `v` k, k from 1 on. Naming as the definition
-- has it, with codes in place of texts and tables of values in place of lists.
use Rattle.std.specs.Prelude.{Bool, not, cond, ◌&&◌, ◌||◌, List, [], ◌∷◌, ◌++◌, ℕ, suc, ◌+◌, ◌*◌, ◌/◌, ◌%◌, eqb}
use Rattle.std.proofs.Math.Option.{Option, none, some}
use Rattle.definition.specs.Texts.{txt}
use Rattle.definition.specs.Lists.{gather}
use Rattle.definition.specs.Values.{Value, value, eqv, RSP}
use Rattle.definition.specs.Ssa.{Function}
use Rattle.definition.specs.Classes.{Member, find}
use Rattle.definition.specs.Inline.{InPlace, in_place}
use Rattle.definition.specs.Registers.{reg_name}
use Rattle.definition.specs.Numbers.{decimal}
use Rattle.definition.specs.Names.{params, block_keys}

-- the name that a code says, of a value in register r
unfoldable pub code_text : ℕ → ℕ → ℕ → List ℕ
code_text bits r c = cond (eqb c 1) (reg_name bits r) (cond (eqb (c % 2) 0) (txt "a" ++ decimal (c / 2)) (txt "v" ++ decimal (c / 2)))

unfoldable pub name_text : ℕ → ℕ → ℕ → Option (List ℕ)
name_text bits r c = cond (eqb c 0) none (some (code_text bits r c))

-- a table of values in which v has the code c
unfoldable pub coded : Value → ℕ → (Value → ℕ) → Value → ℕ
coded v c g w = cond (eqv v w) c (g w)

-- what naming has so far: the classes met, the next number, the values named
pub record Coding : Type 0 where
  pub seen : Value → ℕ
  pub next : ℕ
  pub names : Value → ℕ

abbrev pub coding : (Value → ℕ) → ℕ → (Value → ℕ) → Coding
coding s n g = record { seen = s; next = n; names = g }

-- `a1`, `a2` .. from k on
unfoldable pub param_codes : (Value → Value) → ℕ → List ℕ → Value → ℕ
param_codes root k [] w = 0
param_codes root k (a ∷ as') w = coded (root (value a 0)) (2 * k) (param_codes root (suc k) as') w

-- a class met first as its own version 0 has the register's name, else the next `v`; c is the code that it has already
unfoldable pub meet_code : Value → Value → Coding → ℕ → Coding
meet_code k r N c =
    let own = eqb k.ver 0 && eqv r k in
    let n = cond own 1 (2 * N.next + 1) in
    cond (eqb c 0) (coding (coded r n N.seen) (cond own N.next (suc N.next)) (coded k n N.names))
    (coding N.seen N.next (coded k c N.names))

-- one value, where `root` gives the roots of classes, and `away` says which values are written in place
unfoldable pub code_key : (Value → Value) → (Value → Bool) → Coding → Value → Coding
code_key root away N k =
    cond (eqb k.reg RSP || not (eqb (N.names k) 0) || away k) N (meet_code k (root k) N (N.seen (root k)))

unfoldable pub code_keys : (Value → Value) → (Value → Bool) → Coding → List Value → Coding
code_keys root away N [] = N
code_keys root away N (k ∷ ks) = code_keys root away (code_key root away N k) ks

-- where naming begins: with the parameters
unfoldable pub code_start : (Value → Value) → List ℕ → Coding
code_start root as' = coding (param_codes root 1 as') 1 (λ v. 0)

-- the code of every value's name
unfoldable pub name_code : Function → List Member → List InPlace → Value → ℕ
name_code F c ps v = (code_keys (find c) (in_place ps) (code_start (find c) (params F)) (gather block_keys F.blocks)).names v
