-- A piece: what it does where it fits and where it does not.
use mathlib.Core.Path.{◌≡◌, ap, ◌∙◌}
use mathlib.Core.Bool.{Bool, true, false, cond, and-false}
use Prim.Native.Nat.{◌+◌, ◌≤◌, ◌<◌}
use borrow.Author.Tests.{le-leb, lt-leb}
use lib.Dec.{leb}
use lib.ListN.{length}
use Rattle.definition.specs.Tokens.{Token}
use Rattle.definition.proofs.Bools.{both_true, by_test}
use Rattle.room.specs.declared.out.Out.{Out}
use Rattle.room.specs.Room.{Room, room_of, stopped, is_full, is_ready, fits, placed, emit}
use Rattle.room.proofs.Placing.{ready_sound}

-- full already
stopped_same : (o : Out) → o.full ≡ true → o ≡ stopped o
stopped_same o h = ap (λ (b : Bool). record { lines = o.lines; tokens = o.tokens; bytes = o.bytes; start = o.start; full = b }) h

module _ (r : Room) (p : Token) where
  pub fits_ready : fits r p.kind (length p.text) ≡ true → is_ready r.tokens (length r.text) r.out p.kind ≡ true
  unfolding fits
  fits_ready h = (both_true (is_ready r.tokens (length r.text) r.out p.kind) (leb (r.out.bytes + length p.text) (length r.text)) h).0

  pub fits_holds : is_ready r.tokens (length r.text) r.out p.kind ≡ true → r.out.bytes + length p.text ≤ length r.text
      → fits r p.kind (length p.text) ≡ true
  unfolding fits
  fits_holds h l = rw (h, le-leb (r.out.bytes + length p.text) (length r.text) l)

  pub fits_no_place : is_ready r.tokens (length r.text) r.out p.kind ≡ false → fits r p.kind (length p.text) ≡ false
  unfolding fits
  fits_no_place h = rw h

  pub fits_too_long : length r.text < r.out.bytes + length p.text → fits r p.kind (length p.text) ≡ false
  unfolding fits
  fits_too_long h = rw (lt-leb (r.out.bytes + length p.text) (length r.text) h) (and-false (is_ready r.tokens (length r.text) r.out p.kind))

  -- it fits
  pub emit_fits : fits r p.kind (length p.text) ≡ true → emit r p ≡ placed r p
  unfolding emit is_full
  emit_fits h =
      let s = ready_sound r.tokens r.out p.kind (length r.text) (fits_ready h) in
      let stop = room_of r.tokens r.text (stopped r.out) in
      ap (λ (b : Bool). cond b r (cond (fits r p.kind (length p.text)) (placed r p) stop)) s.free ∙ ap (λ (b : Bool). cond b (placed r p) stop) h

  -- it does not
  pub emit_stops : fits r p.kind (length p.text) ≡ false → emit r p ≡ room_of r.tokens r.text (stopped r.out)
  unfolding emit is_full
  emit_stops h =
      let stop = room_of r.tokens r.text (stopped r.out) in
      let way = cond (fits r p.kind (length p.text)) (placed r p) stop in
      by_test r.out.full
      (λ f. ap (λ (b : Bool). cond b r way) f ∙ ap (room_of r.tokens r.text) (stopped_same r.out f))
      (λ f. ap (λ (b : Bool). cond b r way) f ∙ ap (λ (b : Bool). cond b (placed r p) stop) h)

  pub stops_full : fits r p.kind (length p.text) ≡ false → is_full (emit r p) ≡ true
  unfolding is_full
  stops_full h = ap (λ (q : Room). q.out.full) (emit_stops h)

  -- a full room stays as it is
  pub emit_stays : is_full r ≡ true → emit r p ≡ r
  unfolding emit
  emit_stays h = rw h
