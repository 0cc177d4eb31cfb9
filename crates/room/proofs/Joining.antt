-- Two pieces of one kind that join, written one behind the other, are one piece: the second finds the first as the token before it, sets the same
-- number again and goes on with the text. Where the two together do not fit, the room is full either way.
use mathlib.Core.Path.{◌≡◌, refl, sym, ap, ◌∙◌}
use mathlib.Core.Bool.{true, false, ◌||◌}
use mathlib.Core.Option.{none}
use mathlib.Core.List.{List, ◌++◌}
use Prim.Native.Nat.{ℕ, ◌+◌, ◌-◌, ◌*◌, ◌%◌, ◌≤◌, ◌<◌}
use native.Mathlib.Omega.{arith}
use borrow.Author.Tests.{lt-ltb, eq-eqb, eqb-true, leb-true, leb-false}
use lib.Dec.{eqb, leb}
use lib.ListN.{length, set, length-set, length-append}
use lib.Seq.{get_or-set_same, set-set}
use Rattle.definition.specs.Tokens.{tok}
use Rattle.definition.proofs.Bools.{or_cases, by_test}
use Rattle.room.specs.declared.out.Out.{Out}
use Rattle.room.specs.Room.{Room, room_of, is_full, paste, goes_on, slot_at, is_ready, placed, emit, seen}
use Rattle.room.proofs.Placing.{Sound, sound_holds, goes_told, slot_before, slot_new, ready_sound, ready_place}
use Rattle.room.proofs.Emits.{fits_holds, fits_no_place, fits_too_long, emit_fits, stops_full, emit_stays}
use Rattle.room.proofs.Pastes.{length_paste, paste_twice}

-- a token's number tells its kind
pub kind_of_lem : (n k : ℕ) → k < 8 → (8 * n + k) % 8 ≡ k
kind_of_lem n k h = omega arith

seen_full : (r : Room) → is_full r ≡ true → seen r ≡ none
unfolding seen
seen_full r h = rw h

module _ (ks t : List ℕ) (o : Out) (k : ℕ) (a b : List ℕ) (fuse : (eqb k 6 || eqb k 0) ≡ true) where
  abbrev room : Room
  room = room_of ks t o

  abbrev i : ℕ
  i = slot_at ks o k

  abbrev n : ℕ
  n = o.bytes + length a

  -- behind the first piece
  abbrev ks₁ : List ℕ
  ks₁ = set ks i (8 * n + k)

  abbrev o₁ : Out
  o₁ = record { lines = o.lines; tokens = i + 1; bytes = n; start = o.start; full = false }

  small : k < 8
  small = or_cases (eqb k 6) (eqb k 0) (λ e. omega (arith, eqb-true k 6 e)) (λ e. omega (arith, eqb-true k 0 e)) fuse

  module _ (ready : is_ready ks (length t) o k ≡ true) (fits : n ≤ length t) where
    in_line : o.start < i + 1
    in_line =
        by_test (goes_on ks o k) (λ g. omega (arith, goes_told ks o k g, slot_before ks o k _ refl g))
        (λ g. omega (arith, slot_new ks o k _ refl g, (ready_sound ks o k (length t) ready).start))

    goes : goes_on ks₁ o₁ k ≡ true
    unfolding goes_on
    goes =
        let e : i + 1 - 1 ≡ i = omega arith in
        rw (lt-ltb o.start (i + 1) in_line, fuse, e, get_or-set_same ks i (8 * n + k) 0 (ready_place ks o k (length t) ready), kind_of_lem n k small, eq-eqb k k refl)

    same_place : slot_at ks₁ o₁ k ≡ i
    same_place = let e : i + 1 - 1 ≡ i = omega arith in sym (slot_before ks₁ o₁ k _ refl goes) ∙ e

    again : is_ready ks₁ (length (paste t o.bytes a)) o₁ k ≡ true
    unfolding is_ready
    again =
        let s = ready_sound ks o k (length t) ready in
        let l = length_paste t a o.bytes fits in
        let m = length-set ks i (8 * n + k) in
        let p = ready_place ks o k (length t) ready in
        let sound : Sound (length ks₁) (length (paste t o.bytes a)) o₁ =
        record { free = refl; most = omega (arith, s.most); bytes = omega arith; start = omega (arith, in_line); tokens = omega arith } in
        rw (sound_holds _ _ _ sound, goes)

    -- both fit
    as_one : n + length b ≤ length t → emit (emit room (tok k a)) (tok k b) ≡ emit room (tok k (a ++ b))
    unfolding placed
    as_one more =
        let l = length_paste t a o.bytes fits in
        let m : n + length b ≡ o.bytes + length (a ++ b) = omega (arith, length-append a b) in
        let one : placed (placed room (tok k a)) (tok k b) ≡ placed room (tok k (a ++ b)) =
        rw (same_place, set-set ks i (8 * n + k) (8 * (n + length b) + k), paste_twice t a o.bytes fits b, m) in
        ap (λ (q : Room). emit q (tok k b)) (emit_fits room (tok k a) (fits_holds room (tok k a) ready fits))
        ∙ emit_fits (placed room (tok k a)) (tok k b) (fits_holds (placed room (tok k a)) (tok k b) again (omega arith)) ∙ one
        ∙ sym (emit_fits room (tok k (a ++ b)) (fits_holds room (tok k (a ++ b)) ready (omega arith)))

    -- the second does not
    as_none : length t < n + length b → seen (emit (emit room (tok k a)) (tok k b)) ≡ seen (emit room (tok k (a ++ b)))
    unfolding placed
    as_none long =
        let l = length_paste t a o.bytes fits in
        let m : n + length b ≡ o.bytes + length (a ++ b) = omega (arith, length-append a b) in
        ap (λ (q : Room). seen (emit q (tok k b))) (emit_fits room (tok k a) (fits_holds room (tok k a) ready fits))
        ∙ seen_full _ (stops_full (placed room (tok k a)) (tok k b) (fits_too_long (placed room (tok k a)) (tok k b) (omega arith)))
        ∙ sym (seen_full _ (stops_full room (tok k (a ++ b)) (fits_too_long room (tok k (a ++ b)) (omega arith))))

  -- the first does not
  nothing : is_full (emit room (tok k a)) ≡ true → is_full (emit room (tok k (a ++ b))) ≡ true
      → seen (emit (emit room (tok k a)) (tok k b)) ≡ seen (emit room (tok k (a ++ b)))
  nothing h g = ap seen (emit_stays (emit room (tok k a)) (tok k b) h) ∙ seen_full _ h ∙ sym (seen_full _ g)

  pub two_pieces : seen (emit (emit room (tok k a)) (tok k b)) ≡ seen (emit room (tok k (a ++ b)))
  two_pieces =
      by_test (is_ready ks (length t) o k)
      (λ h. by_test (leb n (length t))
      (λ f. by_test (leb (n + length b) (length t)) (λ g. ap seen (as_one h (leb-true _ _ f) (leb-true _ _ g))) (λ g. as_none h (leb-true _ _ f) (leb-false _ _ g)))
      (λ f. let long : length t < n = leb-false _ _ f in
      nothing (stops_full room (tok k a) (fits_too_long room (tok k a) long)) (stops_full room (tok k (a ++ b)) (fits_too_long room (tok k (a ++ b)) (omega (arith, length-append a b))))))
      (λ h. nothing (stops_full room (tok k a) (fits_no_place room (tok k a) h)) (stops_full room (tok k (a ++ b)) (fits_no_place room (tok k (a ++ b)) h)))
