-- A bit that is set stays set whatever is set beside it, digit by digit; so a slot that was taken is never free again.
use mathlib.Core.Path.{◌≡◌, refl, sym, ap, subst, ◌∙◌}
use mathlib.Core.Bool.{Bool, true, false}
use mathlib.Core.List.{List}
use Prim.Native.Nat.{ℕ, ◌+◌, ◌*◌, ◌/◌, ◌%◌, ◌^◌, ◌≤◌, ◌<◌, zero-le}
use native.Mathlib.Decide.{ℕ_discrete}
use native.Mathlib.Nat.{mod-eq_of_lt}
use native.Mathlib.Omega.{arith}
use lib.Arith.{bin_ind}
use lib.Bits.{bit_and, bit_or, and_step, or_step, and_comm, or_comm, and_self}
use lib.Dec.{eqb}
use lib.ListN.{length, get_or, length-set}
use lib.Pow.{pow-lt, pow_pos}
use lib.Seq.{get_or-set_same, get_or-set_other}
use borrow.Author.Tests.{ltb-true, eqb-true, lt-ltb, le-ltb, eq-eqb}
use denote.Bor.{Bor}
use Rattle.std.specs.Prelude.{Option, Some, None}
use Rattle.std.specs.Option.{MatchOption, unwrap_or, option_map}
use Rattle.definition.specs.Values.{Value}
use Rattle.definition.proofs.Bools.{both_true}
use Rattle.slots.specs.Slots.{place, mask, free, marked}

-- ---- bits of numbers
and_grows : (m x n : ℕ) → bit_and m x ≤ bit_and m (bit_or x n)
and_grows = bin_ind (λ (m : ℕ). (x n : ℕ) → bit_and m x ≤ bit_and m (bit_or x n)) (λ x n. zero-le) step
  where
    step : (m : ℕ) → ((x n : ℕ) → bit_and (m / 2) x ≤ bit_and (m / 2) (bit_or x n)) → (x n : ℕ) → bit_and m x ≤ bit_and m (bit_or x n)
    step m more x n =
        let q : bit_or x n / 2 ≡ bit_or (x / 2) (n / 2) = omega (arith, or_step x n) in
        let r : x % 2 ≤ bit_or x n % 2 = omega (arith, or_step x n) in
        let i : bit_and (m / 2) (x / 2) ≤ bit_and (m / 2) (bit_or x n / 2) = subst (λ (y : ℕ). bit_and (m / 2) (x / 2) ≤ bit_and (m / 2) y) (sym q) (more (x / 2) (n / 2)) in
        omega (arith, and_step m x, and_step m (bit_or x n), i, r)

none_before : (x n m : ℕ) → bit_and (bit_or x n) m ≡ 0 → bit_and x m ≡ 0
none_before x n m h = omega (arith, and_grows m x n, and_comm x m, and_comm (bit_or x n) m)

set_now : (x m : ℕ) → 0 < m → bit_and (bit_or x m) m ≡ 0 → ⊥
set_now x m p h = let k : bit_and m m ≡ 0 = none_before m x m (ap (λ (y : ℕ). bit_and y m) (or_comm m x) ∙ h) in omega (arith, and_self m)

-- ---- slots of a table
module _ (v : Value) where
  pub place_is : (v.reg % 16) * 128 + v.ver / 32 % 128 ≡ place v
  unfolding place
  place_is = refl

  mask_some : 0 < mask v
  unfolding mask
  mask_some = pow_pos (v.ver % 32)

  pub mask_is : (1 * 2 ^ (v.ver % 32)) % 4294967296 ≡ mask v
  unfolding mask
  mask_is =
      let s : 1 * 2 ^ (v.ver % 32) ≡ 2 ^ (v.ver % 32) = omega arith in
      ap (λ (y : ℕ). y % 4294967296) s ∙ mod-eq_of_lt (pow-lt {i = v.ver % 32} {j = 32} (omega arith))

free_told : (t : List ℕ) (v : Value) → free t v ≡ true → (place v < length t) × (bit_and (get_or t (place v) 0) (mask v) ≡ 0)
unfolding free
free_told t v h = let b = both_true _ _ h in (ltb-true _ _ b.0, eqb-true _ _ b.1)

free_both : (t : List ℕ) (v : Value) → place v < length t → bit_and (get_or t (place v) 0) (mask v) ≡ 0 → free t v ≡ true
unfolding free
free_both t v l e = rw (lt-ltb (place v) (length t) l) (eq-eqb _ 0 e)

pub free_inside : (t : List ℕ) (v : Value) (k : ℕ) → k ≡ place v → free t v ≡ true → k < length t
free_inside t v k p h = omega (arith, (free_told t v h).0)

module _ (t : List ℕ) (v : Value) (k : ℕ) (p : k ≡ place v) where
  free_read : (r : Bool) (m : ℕ) → k < length t → m ≡ mask v → r ≡ eqb (bit_and (get_or t k 0) m) 0 → r ≡ free t v
  unfolding free
  free_read r m l q e = rw (← p, lt-ltb k (length t) l, ← q) e

  free_past : length t ≤ k → false ≡ free t v
  unfolding free
  free_past l = rw (← p, le-ltb k (length t) l)

-- o is what the table holds at the value's entry, and r what the code says of it
pub free_entry : (t : List ℕ) (v : Value) (k : ℕ) (o : Option (Bor ℕ)) {r : Bool} (P : Bor ℕ → Type 0) {Q : Bor ℕ → Type 0} → k ≡ place v
    → MatchOption o (length t ≤ k) (λ x. (k < length t) × P x) → ((d : ℕ) → unwrap_or (option_map (λ (x : Bor ℕ). x.now) o) d ≡ get_or t k d)
    → MatchOption o (r ≡ false) Q → ((x : Bor ℕ) → Q x → r ≡ eqb (bit_and x.now (mask v)) 0) → r ≡ free t v
free_entry t v k None P p h g m more = m ∙ free_past t v k p h
free_entry t v k (Some x) P p h g m more =
    free_read t v k p _ (mask v) h.0 refl (more x m ∙ ap (λ (y : ℕ). eqb (bit_and y (mask v)) 0) (g 0))

-- u, whose slot is free once that of v is taken
module _ (t : List ℕ) (v u : Value) (h : free (marked t v) u ≡ true) where
  inside : place u < length t
  unfolding marked
  inside = omega (arith, (free_told (marked t v) u h).0, length-set t (place v) (bit_or (get_or t (place v) 0) (mask v)))

  clear_after : bit_and (get_or (marked t v) (place u) 0) (mask u) ≡ 0
  clear_after = (free_told (marked t v) u h).1

  -- the same entry holds both
  same_entry : place u ≡ place v → bit_and (bit_or (get_or t (place u) 0) (mask v)) (mask u) ≡ 0
  unfolding marked
  same_entry e =
      let g = get_or-set_same t (place u) (bit_or (get_or t (place u) 0) (mask v)) 0 inside in
      sym (ap (λ (x : ℕ). bit_and x (mask u)) g) ∙ (rw (← e) at clear_after)

  pub was_free : free t u ≡ true
  unfolding marked
  was_free = free_both t u inside (go (ℕ_discrete (place u) (place v)))
    where
      go : Dec (place u ≡ place v) → bit_and (get_or t (place u) 0) (mask u) ≡ 0
      go (yes e) = none_before (get_or t (place u) 0) (mask v) (mask u) (same_entry e)
      go (no e) = sym (ap (λ (x : ℕ). bit_and x (mask u)) (get_or-set_other t (place v) (place u) (bit_or (get_or t (place v) 0) (mask v)) 0 e)) ∙ clear_after

-- and u is not v
pub not_again : (t : List ℕ) (v : Value) → free (marked t v) v ≡ true → ⊥
not_again t v h = set_now (get_or t (place v) 0) (mask v) (mask_some v) (same_entry t v v h refl)
