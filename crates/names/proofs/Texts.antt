-- Codes say the names that the definition gives: naming with codes goes step by step as naming with texts does, and each table of codes says of every
-- value what the list of texts says. A class keeps to one register, so that a code means the same name for a value as for its class's root.
use mathlib.Core.Path.{◌≡◌, refl, sym, ap, ◌∙◌}
use mathlib.Core.Bool.{true, false, not, ◌&&◌, ◌||◌}
use mathlib.Core.Option.{Option, none, some}
use mathlib.Core.List.{List, [], ◌∷◌, ◌++◌}
use Prim.Native.Nat.{ℕ, suc, ◌+◌, ◌*◌, ◌/◌, ◌%◌, ◌<◌}
use native.Mathlib.Omega.{arith}
use lib.Dec.{eqb}
use borrow.Author.Tests.{ne_eqb, eqb-true}
use Rattle.definition.specs.Texts.{txt}
use Rattle.definition.specs.Lists.{gather, has}
use Rattle.definition.specs.Values.{Value, value, eqv, RSP}
use Rattle.definition.specs.Ssa.{Function}
use Rattle.definition.specs.Classes.{Member, find}
use Rattle.definition.specs.Inline.{InPlace, in_place}
use Rattle.definition.specs.Registers.{reg_name}
use Rattle.definition.specs.Numbers.{decimal}
use Rattle.definition.specs.Names.{Named, Naming, name_in, params, param_names, meet, name_key, name_keys, block_keys, naming}
use Rattle.definition.proofs.Bools.{by_test}
use Rattle.definition.proofs.Equal.{eqv_true}
use Rattle.names.specs.Codes.{code_text, name_text, coded, Coding, param_codes, meet_code, code_key, code_keys, code_start, name_code}

-- ---- what codes say
module _ (bits r : ℕ) where
  text_none : (c : ℕ) → eqb c 0 ≡ true → name_text bits r c ≡ none
  unfolding name_text
  text_none c e = rw e

  text_some : (c : ℕ) → eqb c 0 ≡ false → name_text bits r c ≡ some (code_text bits r c)
  unfolding name_text
  text_some c e = rw e

  text_own : name_text bits r 1 ≡ some (reg_name bits r)
  unfolding name_text code_text
  text_own = refl

  text_param : (k : ℕ) → 0 < k → name_text bits r (2 * k) ≡ some (txt "a" ++ decimal k)
  unfolding name_text code_text
  text_param k h =
      let z : 2 * k ≡ 0 → ⊥ = (λ e. omega arith) in
      let o : 2 * k ≡ 1 → ⊥ = (λ e. omega arith) in
      let m : 2 * k % 2 ≡ 0 = omega arith in
      let d : 2 * k / 2 ≡ k = omega arith in
      rw (ne_eqb (2 * k) 0 z, ne_eqb (2 * k) 1 o, m, d)

  text_local : (k : ℕ) → 0 < k → name_text bits r (2 * k + 1) ≡ some (txt "v" ++ decimal k)
  unfolding name_text code_text
  text_local k h =
      let z : 2 * k + 1 ≡ 0 → ⊥ = (λ e. omega arith) in
      let o : 2 * k + 1 ≡ 1 → ⊥ = (λ e. omega arith) in
      let m : (2 * k + 1) % 2 ≡ 1 = omega arith in
      let d : (2 * k + 1) / 2 ≡ k = omega arith in
      rw (ne_eqb (2 * k + 1) 0 z, ne_eqb (2 * k + 1) 1 o, m, d)

  text_has : (c : ℕ) → has (name_text bits r c) ≡ not (eqb c 0)
  unfolding has name_text
  text_has c = by_test (eqb c 0) (λ e. rw e) (λ e. rw e)

-- ---- a list of names and a table of codes that say the same
abbrev Says : ℕ → List Named → (Value → ℕ) → Type 0
Says bits t g = (v : Value) → name_in t v ≡ name_text bits v.reg (g v)

module _ (bits : ℕ) where
  says_more : (t : List Named) (g : Value → ℕ) → Says bits t g → (k : Value) (n : List ℕ) (c : ℕ) → some n ≡ name_text bits k.reg c
      → Says bits (record { of = k; name = n } ∷ t) (coded k c g)
  unfolding name_in coded
  says_more t g h k n c e v =
      by_test (eqv k v) (λ q. rw q (e ∙ ap (λ (w : Value). name_text bits w.reg c) (eqv_true k v q))) (λ q. rw q (h v))

  says_params : (t : List Member) (k : ℕ) (as' : List ℕ) → 0 < k → Says bits (param_names t k as') (param_codes (find t) k as')
  unfolding param_names param_codes name_in
  says_params t k [] h v = sym (text_none bits v.reg 0 refl)
  says_params t k (a ∷ as') h v =
      says_more (param_names t (suc k) as') (param_codes (find t) (suc k) as') (says_params t (suc k) as' (omega arith)) (find t (value a 0)) (txt "a" ++ decimal k) (2 * k)
      (sym (text_param bits (find t (value a 0)).reg k h)) v

  -- ---- one value
  record Alike (N : Naming) (C : Coding) : Type 0 where
    seen : Says bits N.seen C.seen
    names : Says bits N.names C.names
    next : N.next ≡ C.next
    some_next : 0 < C.next

  module _ (N : Naming) (C : Coding) (A : Alike N C) (k r : Value) (stays : r.reg ≡ k.reg) where
    new_alike : Alike (meet bits k r N none) (meet_code k r C 0)
    unfolding meet meet_code
    new_alike =
        by_test (eqb k.ver 0 && eqv r k)
        (λ o. rw o (record {
          seen = says_more N.seen C.seen A.seen r (reg_name bits k.reg) 1 (ap (λ (x : ℕ). some (reg_name bits x)) (sym stays) ∙ sym (text_own bits r.reg));
          names = says_more N.names C.names A.names k (reg_name bits k.reg) 1 (sym (text_own bits k.reg));
          next = A.next;
          some_next = A.some_next;
        }))
        (λ o. rw o (record {
          seen = says_more N.seen C.seen A.seen r (txt "v" ++ decimal N.next) (2 * C.next + 1) (local r);
          names = says_more N.names C.names A.names k (txt "v" ++ decimal N.next) (2 * C.next + 1) (local k);
          next = ap suc A.next;
          some_next = omega arith;
        }))
      where
        local : (v : Value) → some (txt "v" ++ decimal N.next) ≡ name_text bits v.reg (2 * C.next + 1)
        local v = ap (λ (n : ℕ). some (txt "v" ++ decimal n)) A.next ∙ sym (text_local bits v.reg C.next A.some_next)

    met_alike : (o : Option (List ℕ)) (c : ℕ) → o ≡ name_text bits r.reg c → Alike (meet bits k r N o) (meet_code k r C c)
    unfolding meet meet_code
    met_alike o c e =
        by_test (eqb c 0)
        (λ q. rw (e ∙ text_none bits r.reg c q, eqb-true c 0 q) new_alike)
        (λ q. rw (e ∙ text_some bits r.reg c q, q) (record {
          seen = A.seen;
          names = says_more N.names C.names A.names k (code_text bits r.reg c) c (sym (text_some bits r.reg c q) ∙ ap (λ (x : ℕ). name_text bits x c) stays);
          next = A.next;
          some_next = A.some_next;
        }))

-- ---- all of them
module _ (F : Function) (t : List Member) (ps : List InPlace) (stays : (w : Value) → (find t w).reg ≡ w.reg) where
  key_alike : (N : Naming) (C : Coding) → Alike F.bits N C → (k : Value) → Alike F.bits (name_key F t ps N k) (code_key (find t) (in_place ps) C k)
  unfolding name_key code_key
  key_alike N C A k =
      let e : has (name_in N.names k) ≡ not (eqb (C.names k) 0) = ap has (A.names k) ∙ text_has F.bits k.reg (C.names k) in
      rw e
      (by_test (eqb k.reg RSP || not (eqb (C.names k) 0) || in_place ps k) (λ q. rw q A)
      (λ q. rw q (met_alike F.bits N C A k (find t k) (stays k) (name_in N.seen (find t k)) (C.seen (find t k)) (A.seen (find t k)))))

  keys_alike : (N : Naming) (C : Coding) → Alike F.bits N C → (ks : List Value) → Alike F.bits (name_keys F t ps N ks) (code_keys (find t) (in_place ps) C ks)
  unfolding name_keys code_keys
  keys_alike N C A [] = A
  keys_alike N C A (k ∷ ks) = keys_alike (name_key F t ps N k) (code_key (find t) (in_place ps) C k) (key_alike N C A k) ks

  -- the name that the definition gives a value is what its code says
  pub names_are : (v : Value) → name_in (naming F t ps) v ≡ name_text F.bits v.reg (name_code F t ps v)
  unfolding naming name_code code_start name_in
  names_are v =
      (keys_alike (record { seen = param_names t 1 (params F); next = 1; names = [] }) (code_start (find t) (params F))
      (record {
        seen = says_params F.bits t 1 (params F) (omega arith);
        names = λ w. sym (text_none F.bits w.reg 0 refl);
        next = refl;
        some_next = omega arith;
      }) (gather block_keys F.blocks)).names v
