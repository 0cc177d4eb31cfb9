-- What an Other sets, by the places of its values in the lists: no variable that somebody reads, one, or more; and what it prints then.
use Rattle.std.specs.Prelude.{cond, List, [], ◌∷◌, ◌++◌, ℕ, zero, suc, ◌+◌, eqb}
use Rattle.definition.specs.Edition.{Edition}
use Rattle.definition.specs.Texts.{txt}
use Rattle.definition.specs.Lists.{gather, at}
use Rattle.definition.specs.Contents.{item_word, text_at}
use Rattle.definition.specs.Owners.{stmt_field}
use Rattle.definition.specs.Values.{RSP}
use Rattle.definition.specs.Meaning.{item_values}
use Rattle.definition.specs.Registers.{reg_name}
use Rattle.definition.specs.Lookup.{name_or}
use Rattle.definition.specs.Tokens.{Token, textual, register, keyword, punct}
use Rattle.definition.specs.Lower.{name_list, asm}
use Rattle.reads.specs.Counts.{read_by}
use Rattle.names.specs.Codes.{name_text}
use Rattle.lowering.specs.Lowered.{lowering_of}
use Rattle.plain.specs.declared.sets.Named.{Named}
use Rattle.plain.specs.declared.sets.Sets.{Sets}
use Rattle.plain.specs.declared.sets.Sets.TheVariants.{Nothing, One, More}

-- one variable more, of register r and code c, which is 0 where there is none
unfoldable pub with_one : Sets → ℕ → ℕ → Sets
with_one Nothing r c = One (record { reg = r; code = c })
with_one (One n) r c = More
with_one More r c = More

unfoldable pub with_name : Sets → ℕ → ℕ → Sets
with_name s r c = cond (eqb c 0) s (with_one s r c)

-- the tables: numbers of values, codes of names, reads by live statements and by phis
pub record Tables : Type 0 where
  pub numbers : List ℕ
  pub names : List ℕ
  pub live : List ℕ
  pub phi : List ℕ

abbrev pub tables : List ℕ → List ℕ → List ℕ → List ℕ → Tables
tables n c l p = record { numbers = n; names = c; live = l; phi = p }

-- the code of the value at place k of the lists, whose places begin at `base`: 0 where it is RSP's or nobody reads it
unfoldable pub code_at : List ℕ → Tables → ℕ → ℕ → ℕ
code_at f T base k =
    let m = at T.numbers (base + k) in
    cond (eqb (item_word f k 0) RSP) 0 (cond (read_by T.live T.phi m) (at T.names m) 0)

-- n values from place k on
unfoldable pub sets_from : List ℕ → Tables → ℕ → ℕ → ℕ → Sets → Sets
sets_from f T base k zero s = s
sets_from f T base k (suc n) s = sets_from f T base (k + 1) n (with_name s (item_word f k 0) (code_at f T base k))

-- ---- what is printed, x being its text: `__asm { x }`, or with its one variable `NAME = __asm("x");`
unfoldable pub asm_block : List ℕ → List Token
asm_block x = keyword (txt "__asm") ∷ textual (txt " { " ++ x ++ txt " }") ∷ []

unfoldable pub asm_call : ℕ → Named → List ℕ → List Token
asm_call bits n x =
    register (name_or (reg_name bits n.reg) (name_text bits n.reg n.code)) ∷ punct (txt " = ") ∷ keyword (txt "__asm")
    ∷ textual (txt "(\"" ++ x ++ txt "\");") ∷ []

unfoldable pub asm_of : ℕ → Sets → List ℕ → List Token
asm_of bits Nothing x = asm_block x
asm_of bits (One n) x = asm_call bits n x
asm_of bits More x = asm_block x

-- and by the definition
unfoldable pub other_of : Edition → List ℕ → ℕ → List Token
other_of E f i = asm (gather (name_list (lowering_of E f)) (item_values f i)) (text_at E f (stmt_field f i 0) (stmt_field f i 1))
