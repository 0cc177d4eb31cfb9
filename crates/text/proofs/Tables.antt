-- The tables of register names: one test that antt computes over all of them, and the rule at each register from it.
use mathlib.Core.Path.{◌≡◌, refl, sym, ◌∙◌}
use mathlib.Core.Logic.{◌⊎◌, inl, inr}
use mathlib.Core.Bool.{true, cond, ◌&&◌}
use mathlib.Core.List.{List, []}
use Prim.Native.Nat.{ℕ, ◌*◌, ◌≤◌, ◌<◌}
use native.Mathlib.Decide.{dec_lt, ℕ_discrete}
use native.Mathlib.Omega.{arith}
use borrow.Author.Tests.{lt-ltb, le-ltb, eq-eqb, ne_eqb}
use lib.Dec.{eqb, ltb}
use lib.ListN.{length, get_or, drop_of_length-le, get_or-eq_default}
use lib.Seq.{take-nil}
use Rattle.definition.specs.Texts.{txt, same}
use Rattle.definition.specs.Lists.{all_below}
use Rattle.definition.specs.Words.{part}
use Rattle.definition.specs.Registers.{NAMES64, NAMES32, reg_name}
use Rattle.definition.proofs.TextLaws.{same_eq}
use Rattle.definition.proofs.LoweredRead.{below_at}

abbrev bytes64 : List ℕ
bytes64 = txt "raxrcxrdxrbxrsprbprsirdir8 r9 r10r11r12r13r14r15"

abbrev bytes32 : List ℕ
bytes32 = txt "eaxecxedxebxespebpesiedi"

-- how long a 64-bit name is
unfoldable wide : ℕ → ℕ
wide v = cond (eqb v 8) 2 (cond (eqb v 9) 2 3)

rule64 : (v : ℕ) → v < 16 → same (part bytes64 (3 * v) (wide v)) (get_or NAMES64 v []) ≡ true
unfolding all_below same part wide NAMES64
rule64 = below_at 16 (λ v. same (part bytes64 (3 * v) (wide v)) (get_or NAMES64 v [])) refl

rule32 : (v : ℕ) → v < 8 → same (part bytes32 (3 * v) 3) (get_or NAMES32 v []) ≡ true
unfolding all_below same part NAMES32
rule32 = below_at 8 (λ v. same (part bytes32 (3 * v) 3) (get_or NAMES32 v [])) refl

past : (v : ℕ) → 16 ≤ v → part bytes64 (3 * v) (wide v) ≡ get_or NAMES64 v []
unfolding part NAMES64
past v h =
    let k : length bytes64 ≤ 3 * v = omega arith in
    rw (drop_of_length-le bytes64 k) (take-nil (wide v) ∙ sym (get_or-eq_default NAMES64 [] h))

name64 : (v : ℕ) → part bytes64 (3 * v) (wide v) ≡ get_or NAMES64 v []
name64 v = go (dec_lt v 16)
  where
    go : Dec (v < 16) → part bytes64 (3 * v) (wide v) ≡ get_or NAMES64 v []
    go (yes h) = same_eq _ _ (rule64 v h)
    go (no h) = past v (omega arith)

-- ---- the returns of `name`
module _ (bits v : ℕ) where
  pub name_32 : bits ≡ 32 → v < 8 → part bytes32 (3 * v) 3 ≡ reg_name bits v
  unfolding reg_name
  name_32 e h = rw (eq-eqb bits 32 e, lt-ltb v 8 h) (same_eq _ _ (rule32 v h))

  -- the 64-bit name, where the test for a 32-bit one failed
  by_64 : (n : ℕ) → ((bits ≡ 32) → 8 ≤ v) → n ≡ wide v → part bytes64 (3 * v) n ≡ reg_name bits v
  unfolding reg_name
  by_64 n h e = rw e (name64 v ∙ go (ℕ_discrete bits 32))
    where
      go : Dec (bits ≡ 32) → get_or NAMES64 v [] ≡ cond (eqb bits 32 && ltb v 8) (get_or NAMES32 v []) (get_or NAMES64 v [])
      go (yes q) = rw (eq-eqb bits 32 q, le-ltb v 8 (h q))
      go (no q) = rw (ne_eqb bits 32 q)

  pub name_two : (v ≡ 8) ⊎ ((v ≡ 8 → ⊥) × (v ≡ 9)) → part bytes64 (3 * v) 2 ≡ reg_name bits v
  unfolding wide
  name_two (inl e) = by_64 2 (λ q. omega arith) (rw e)
  name_two (inr e) = by_64 2 (λ q. omega arith) (rw e.1)

  pub name_other : ((bits ≡ 32) × (8 ≤ v)) ⊎ (bits ≡ 32 → ⊥) → (v ≡ 8 → ⊥) → (v ≡ 9 → ⊥) → part bytes64 (3 * v) 3 ≡ reg_name bits v
  unfolding wide
  name_other h p q = by_64 3 (at_least h) (rw (ne_eqb v 8 p, ne_eqb v 9 q))
    where
      at_least : ((bits ≡ 32) × (8 ≤ v)) ⊎ (bits ≡ 32 → ⊥) → bits ≡ 32 → 8 ≤ v
      at_least (inl k) e = k.1
      at_least (inr k) e = absurd (k e)
