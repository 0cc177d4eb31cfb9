-- A code below 2 says the register's own name, with or without a name for the value; every other is a letter and half the code.
use mathlib.Core.Path.{◌≡◌}
use mathlib.Core.List.{List, ◌++◌}
use Prim.Native.Nat.{ℕ, ◌/◌, ◌%◌, ◌≤◌, ◌<◌}
use native.Mathlib.Omega.{arith}
use native.Mathlib.Decide.{ℕ_discrete}
use borrow.Author.Tests.{ne_eqb}
use Rattle.definition.specs.Edition.{Edition}
use Rattle.definition.specs.Texts.{txt}
use Rattle.definition.specs.Values.{Value}
use Rattle.definition.specs.Meaning.{bits}
use Rattle.definition.specs.Classes.{classes}
use Rattle.definition.specs.Inline.{reads_of, inline}
use Rattle.definition.specs.Registers.{reg_name}
use Rattle.definition.specs.Numbers.{decimal}
use Rattle.definition.specs.Lookup.{name_or}
use Rattle.definition.specs.Read.{read}
use Rattle.definition.specs.Render.{variable}
use Rattle.classes.proofs.Theorems.{root_register}
use Rattle.names.specs.Codes.{code_text, name_text, name_code}
use Rattle.names.proofs.Texts.{names_are}
use Rattle.render.specs.Gens.{gen_at}
use Rattle.render.proofs.Opening.{gen_bits, gen_names}

module _ (bits r c : ℕ) where
  pub own_name : c < 2 → reg_name bits r ≡ name_or (reg_name bits r) (name_text bits r c)
  unfolding name_text code_text name_or
  own_name h = go (ℕ_discrete c 0)
    where
      go : Dec (c ≡ 0) → reg_name bits r ≡ name_or (reg_name bits r) (name_text bits r c)
      go (yes e) = rw e
      go (no n) = let q : c ≡ 1 = omega (arith, n) in rw q

  pub letter_a : 2 ≤ c → c % 2 ≡ 0 → txt "a" ++ decimal (c / 2) ≡ name_or (reg_name bits r) (name_text bits r c)
  unfolding name_text code_text name_or
  letter_a h e = rw (ne_eqb c 0 (λ q. omega arith), ne_eqb c 1 (λ q. omega arith), e)

  pub letter_v : 2 ≤ c → (c % 2 ≡ 0 → ⊥) → txt "v" ++ decimal (c / 2) ≡ name_or (reg_name bits r) (name_text bits r c)
  unfolding name_text code_text name_or
  letter_v h n = rw (ne_eqb c 0 (λ q. omega arith), ne_eqb c 1 (λ q. omega arith), ne_eqb (c % 2) 0 n)

-- a value's variable is what its code says
pub variable_coded : (E : Edition) (f : List ℕ) (pos : ℕ) (v : Value)
    → variable (gen_at E f pos) v ≡ name_or (reg_name (bits f) v.reg) (name_text (bits f) v.reg (name_code (read E f) (classes (read E f)) (inline (read E f) (reads_of (read E f))) v))
unfolding variable read
variable_coded E f pos v =
    let F = read E f in
    rw (gen_bits E f pos, gen_names E f pos, names_are F (classes F) (inline F (reads_of F)) (root_register F) v)
