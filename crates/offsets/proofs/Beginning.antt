-- The table at the start says one thing, at the first place that names RSP at entry, or nothing where no place does.
use mathlib.Core.Path.{◌≡◌, refl, sym, ap, ◌∙◌}
use mathlib.Core.Bool.{Bool, true, false, not, cond, ◌&&◌}
use mathlib.Core.List.{List, [], ◌∷◌}
use Prim.Native.Nat.{ℕ, ◌+◌, ◌≤◌, ◌<◌}
use native.Mathlib.Decide.{dec_lt}
use native.Mathlib.Omega.{arith}
use lib.Dec.{eqb}
use lib.ListN.{length, set, replicate, length-replicate}
use lib.Seq.{set_out}
use Rattle.std.specs.Prelude.{Option, ◌≢◌, unwrap_or}
use Rattle.std.specs.Option.{MatchOption}
use Rattle.std.specs.List.{AllWithin, HoldsAt}
use Rattle.std.proofs.lemmas.Iterator.{index_from_first}
use borrow.Author.Tests.{eqb-false, eq-eqb, ne_eqb, not-true}
use Rattle.definition.specs.Values.{Value, value, eqv, RSP}
use Rattle.definition.specs.Offsets.{half, Known, look}
use Rattle.definition.specs.Lists.{at}
use Rattle.definition.proofs.Bools.{is_false}
use Rattle.definition.proofs.Equal.{eqv_true}
use Rattle.places.specs.declared.Places.{Places}
use Rattle.places.specs.Keys.{key_of, value_of, keyed}
use Rattle.values.specs.Tables.{first_of, number_of, numbered, entry, tabled, table}
use Rattle.values.proofs.Ranges.{at_below}
use Rattle.values.proofs.Placed.{keyed_length}
use Rattle.sums.specs.Ground.{Ground}
use Rattle.values.proofs.Tables.{first_le, key_not_0, encode, numbered_at, table_write, first_is_lem, same_at, tabled_length, zeros_are}

-- ---- the first place
pub first_index : (k : ℕ) (ks : List ℕ) (r : Option ℕ)
    → MatchOption r (AllWithin (λ x. x ≢ k) ks 0 (length ks)) (λ i. (i < length ks) × HoldsAt (λ x. x ≡ k) ks i × AllWithin (λ x. x ≢ k) ks 0 i) → first_of ks k ≡ unwrap_or r (length ks)
unfolding first_of
first_index k = index_from_first (λ ks. first_of ks k) (λ x. x ≡ k) (λ x. x ≢ k) none hit miss
  where
    none : first_of [] k ≡ 0
    none = refl

    hit : (x : ℕ) (xs : List ℕ) → x ≡ k → first_of (x ∷ xs) k ≡ 0
    hit x xs e = rw (eq-eqb x k e)

    miss : (x : ℕ) (xs : List ℕ) → x ≢ k → first_of (x ∷ xs) k ≡ first_of xs k + 1
    miss x xs h = rw (ne_eqb x k h) (omega arith)

-- ---- the table
-- tables of functions that agree on every value that is named
module _ (ks : List ℕ) (g h : Value → ℕ) (same : (i : ℕ) → i < length ks → (at ks i ≡ 0 → ⊥) → g (value_of (at ks i)) ≡ h (value_of (at ks i))) where
  entry_same : (i : ℕ) → i < length ks → entry ks g i ≡ entry ks h i
  unfolding entry
  entry_same i b = go (not (eqb (at ks i) 0)) (eqb (first_of ks (at ks i)) i) refl
    where
      go : (a c : Bool) → not (eqb (at ks i) 0) ≡ a → cond (a && c) (g (value_of (at ks i))) 0 ≡ cond (a && c) (h (value_of (at ks i))) 0
      go true true e = same i b (eqb-false (at ks i) 0 (not-true (eqb (at ks i) 0) e))
      go true false e = refl
      go false c e = refl

  named_same : tabled ks g ≡ tabled ks h
  unfolding tabled
  named_same =
      same_at (tabled ks g) (tabled ks h) (tabled_length ks g ∙ sym (tabled_length ks h))
      (λ i b.
      let c : i < length ks = omega (arith, tabled_length ks g) in
      at_below (entry ks g) (length ks) i c ∙ entry_same i c ∙ sym (at_below (entry ks h) (length ks) i c))

-- what is known at the start
abbrev pub entered : List Known
entered = record { of = value RSP 0; offset = half } ∷ []

module _ (f : List ℕ) (n : ℕ) (long : length (keyed f n) ≡ n) where
  -- no place names it
  begin_none : length (keyed f n) ≤ first_of (keyed f n) (key_of (value RSP 0)) → table f n (look entered) ≡ table f n (λ v. 0)
  unfolding table look
  begin_none h = named_same (keyed f n) (look entered) (λ v. 0) other
    where
      other : (i : ℕ) → i < length (keyed f n) → (at (keyed f n) i ≡ 0 → ⊥) → look entered (value_of (at (keyed f n) i)) ≡ 0
      other i b z =
          let no : eqv (value RSP 0) (value_of (at (keyed f n) i)) ≡ false =
          is_false (eqv (value RSP 0) (value_of (at (keyed f n) i)))
          (λ e.
          let q : at (keyed f n) i ≡ key_of (value RSP 0) = sym (encode (at (keyed f n) i) z) ∙ ap key_of (sym (eqv_true (value RSP 0) (value_of (at (keyed f n) i)) e)) in
          omega (arith, first_le (keyed f n) i b, ap (first_of (keyed f n)) q)) in
          rw no

  begin_some : first_of (keyed f n) (key_of (value RSP 0)) < length (keyed f n) → set (table f n (λ v. 0)) (first_of (keyed f n) (key_of (value RSP 0))) half ≡ table f n (look entered)
  unfolding look number_of
  begin_some h =
      let p = first_of (keyed f n) (key_of (value RSP 0)) in
      let is : at (keyed f n) p ≡ key_of (value RSP 0) = first_is_lem (keyed f n) (key_of (value RSP 0)) h in
      let number : at (numbered f n) p ≡ p = numbered_at f n p h ∙ rw (is, ne_eqb (key_of (value RSP 0)) 0 (key_not_0 (value RSP 0))) in
      ap (λ (q : ℕ). set (table f n (λ v. 0)) q half) (sym number) ∙ table_write f n (λ v. 0) p (value RSP 0) (record { here = h; is = is; small = omega arith }) half

  begin : (p : ℕ) (t : List ℕ) → p ≡ first_of (keyed f n) 17179869185 → t ≡ replicate n 0 → set t p half ≡ table f n (look entered)
  unfolding key_of
  begin p t e z = go (dec_lt (first_of (keyed f n) (key_of (value RSP 0))) (length (keyed f n)))
    where
      go : Dec (first_of (keyed f n) (key_of (value RSP 0)) < length (keyed f n)) → set t p half ≡ table f n (look entered)
      go (yes h) = rw (z, e, zeros_are f n long) (begin_some h)
      go (no h) =
          let b : length (keyed f n) ≤ first_of (keyed f n) (key_of (value RSP 0)) = omega arith in
          rw (z, e) (set_out (replicate n 0) (first_of (keyed f n) 17179869185) half (omega (arith, length-replicate {A = ℕ} n 0)) ∙ zeros_are f n long ∙ sym (begin_none b))

-- what the code has put
pub begun : (f numbers : List ℕ) (places : Places) → Ground f numbers places → (keys tab after : List ℕ) (p : ℕ) → keys ≡ keyed f (length numbers) → tab ≡ replicate (length numbers) 0
    → p ≡ first_of keys 17179869185 → after ≡ set tab p 9223372036854775808 → after ≡ table f (length numbers) (look entered)
begun f numbers places g keys tab after p k z e h =
    h ∙ begin f (length numbers) (keyed_length f (length numbers) g.counts g.room) p tab (e ∙ ap (λ (l : List ℕ). first_of l 17179869185) k) z
