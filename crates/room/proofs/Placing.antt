-- A token's place: what the tests of the room tell, each return of the functions that test it, and the token's number set behind a text.
use mathlib.Core.Path.{◌≡◌, refl, sym, ◌∙◌}
use mathlib.Core.Bool.{Bool, true, false, not, ◌&&◌, ◌||◌}
use mathlib.Core.List.{List}
use Prim.Native.Nat.{ℕ, ◌+◌, ◌-◌, ◌*◌, ◌%◌, ◌≤◌, ◌<◌}
use native.Mathlib.Omega.{arith}
use borrow.Author.Tests.{ltb-true, leb-true, not-true, le-ltb, le-leb}
use lib.Dec.{eqb, ltb, leb}
use lib.ListN.{length, get_or, set}
use Rattle.definition.proofs.Bools.{both_true, or_cases, by_test}
use Rattle.std.specs.Prelude.{Ok}
use Rattle.leaf.specs.Leaf.{Wrote, no_room}
use Rattle.room.specs.declared.out.Out.{Out}
use Rattle.room.specs.Room.{text_most, stopped, sound, goes_on, slot_at, is_ready}
use Rattle.room.specs.Placing.{with_token, after_token, end_of, Placeable}

-- ---- not full and in order
pub record Sound (l n : ℕ) (o : Out) : Type 0 where
  pub free : o.full ≡ false
  pub most : n ≤ text_most
  pub bytes : o.bytes ≤ n
  pub start : o.start ≤ o.tokens
  pub tokens : o.tokens ≤ l

module _ (l n : ℕ) (o : Out) where
  pub sound_told : sound l n o ≡ true → Sound l n o
  unfolding sound
  sound_told h =
      let first = not o.full && leb n text_most in
      let a = both_true (first && leb o.bytes n && leb o.start o.tokens) (leb o.tokens l) h in
      let b = both_true (first && leb o.bytes n) (leb o.start o.tokens) a.0 in
      let c = both_true first (leb o.bytes n) b.0 in
      let d = both_true (not o.full) (leb n text_most) c.0 in
      record {
        free = not-true _ d.0;
        most = leb-true n text_most d.1;
        bytes = leb-true o.bytes n c.1;
        start = leb-true o.start o.tokens b.1;
        tokens = leb-true o.tokens l a.1;
      }

  -- all but the last test held
  pub sound_last : o.full ≡ false → n ≤ text_most → o.bytes ≤ n → o.start ≤ o.tokens → leb o.tokens l ≡ sound l n o
  unfolding sound
  sound_last f m b s = rw (f, le-leb n text_most m, le-leb o.bytes n b, le-leb o.start o.tokens s)

  pub sound_holds : Sound l n o → sound l n o ≡ true
  sound_holds s = sym (sound_last s.free s.most s.bytes s.start) ∙ le-leb o.tokens l s.tokens

module _ (ks : List ℕ) (o : Out) (k : ℕ) where
  -- ---- goes on with the token before it
  pub goes_told : goes_on ks o k ≡ true → o.start < o.tokens
  unfolding goes_on
  goes_told h =
      let a = both_true (ltb o.start o.tokens && (eqb k 6 || eqb k 0)) (eqb (get_or ks (o.tokens - 1) 0 % 8) k) h in
      ltb-true o.start o.tokens (both_true (ltb o.start o.tokens) (eqb k 6 || eqb k 0) a.0).0

  pub goes_first : o.tokens ≤ o.start → false ≡ goes_on ks o k
  unfolding goes_on
  goes_first h = rw (le-ltb o.start o.tokens h)

  -- ---- the token's place
  pub slot_before : (b : Bool) → b ≡ goes_on ks o k → b ≡ true → o.tokens - 1 ≡ slot_at ks o k
  unfolding slot_at
  slot_before b e h = rw (← e, h)

  pub slot_new : (b : Bool) → b ≡ goes_on ks o k → b ≡ false → o.tokens ≡ slot_at ks o k
  unfolding slot_at
  slot_new b e h = rw (← e, h)

  -- ---- the test before the text
  module _ (n : ℕ) where
    pub ready_sound : is_ready ks n o k ≡ true → Sound (length ks) n o
    unfolding is_ready
    ready_sound h = sound_told (length ks) n o (both_true (sound (length ks) n o) (goes_on ks o k || ltb o.tokens (length ks)) h).0

    pub ready_place : is_ready ks n o k ≡ true → slot_at ks o k < length ks
    unfolding is_ready
    ready_place h =
        let s = ready_sound h in
        by_test (goes_on ks o k) (λ g. omega (arith, goes_told g, slot_before _ refl g))
        (λ g. or_cases (goes_on ks o k) (ltb o.tokens (length ks)) (λ j. let z : ◌≡◌ {A = ℕ} 0 1 = cc in absurd (omega arith))
        (λ j. omega (arith, ltb-true o.tokens (length ks) j, slot_new _ refl g))
        (both_true (sound (length ks) n o) (goes_on ks o k || ltb o.tokens (length ks)) h).1)

  -- ---- the token's number
  pub token_end : (w : Wrote) (n : ℕ) → Placeable ks o k w → w ≡ Ok n → o.bytes + n ≤ text_most
  unfolding end_of
  token_end w n p h = rw h at p.end

  pub token_none : (r : Out) (w : Wrote) → r ≡ stopped o → w ≡ no_room → (r ≡ after_token ks o k w) × (ks ≡ with_token ks o k w)
  unfolding after_token with_token
  token_none r w e h = rw h (e, refl)

  pub token_set : (w : Wrote) (n i x : ℕ) → w ≡ Ok n → i ≡ slot_at ks o k → x ≡ k
      → (◌≡◌ {A = Out} (record { lines = o.lines; tokens = i + 1; bytes = o.bytes + n; start = o.start; full = false }) (after_token ks o k w))
      × (set ks i (8 * (o.bytes + n) + x) ≡ with_token ks o k w)
  unfolding after_token with_token
  token_set w n i x h e q = rw (h, e, q) (refl, refl)
