-- A writer lent the rest of the text, with the token set behind it, does what the room says of a piece: it has refused just where the piece does not
-- fit, and else left the piece's text there.
use mathlib.Core.Path.{◌≡◌, refl, sym, ap, ◌∙◌}
use mathlib.Core.Bool.{Bool, true, false}
use mathlib.Core.List.{List, ◌++◌}
use Prim.Native.Nat.{ℕ, ◌+◌, ◌-◌, ◌≤◌, ◌<◌}
use native.Mathlib.Omega.{arith}
use borrow.Author.Tests.{lt-leb}
use borrow.Rule.Slice.PartMut.{put_mid, mid_of, put_same}
use lib.ListN.{length, take, drop}
use lib.Seq.{drop-drop}
use Rattle.definition.specs.Tokens.{tok}
use Rattle.std.specs.Prelude.{Ok, Err}
use Rattle.leaf.specs.Leaf.{Wrote, Leaf}
use Rattle.leaf.proofs.Rest.{rest_is, rest_back, rest_length}
use Rattle.leaf.proofs.Leaves.{leaf_none, leaf_bytes}
use Rattle.room.specs.declared.out.Out.{Out}
use Rattle.room.specs.Room.{room_of, text_most, stopped, paste, is_ready, fits, placed, emit}
use Rattle.room.specs.Placing.{with_token, after_token, end_of, Placeable}
use Rattle.room.proofs.Placing.{Sound, ready_sound, ready_place}
use Rattle.room.proofs.Emits.{fits_holds, emit_fits, emit_stops}

module _ (ks t : List ℕ) (o : Out) (k : ℕ) where
  -- there was no place
  pub emit_not : (x : List ℕ) (r : Out) (b : Bool) → b ≡ is_ready ks (length t) o k → b ≡ false → r ≡ stopped o
      → room_of ks t r ≡ emit (room_of ks t o) (tok k x)
  unfolding fits
  emit_not x r b e h q =
      rw q (sym (emit_stops (room_of ks t o) (tok k x) (rw (← e, h))))

  module _ (b : Bool) (is : b ≡ is_ready ks (length t) o k) (holds : b ≡ true) where
    -- the rest of the text may be lent
    pub ready_rest : o.bytes ≤ length t
    ready_rest = (ready_sound ks o k (length t) (sym is ∙ holds)).bytes

    module _ (x e : List ℕ) (w : Wrote) (wrote : Leaf x (mid_of o.bytes (length t - o.bytes) t) w e) where
      pub placeable : Placeable ks o k w
      unfolding end_of
      placeable =
          let s = ready_sound ks o k (length t) (sym is ∙ holds) in
          record { tokens = s.tokens; place = ready_place ks o k (length t) (sym is ∙ holds); end = go w wrote s }
        where
          go : (v : Wrote) → Leaf x (mid_of o.bytes (length t - o.bytes) t) v e → Sound (length ks) (length t) o → end_of o v ≤ text_most
          go (Err y) l s = omega (arith, s.most, s.bytes)
          go (Ok n) l s =
              omega (arith, s.most, s.bytes, rest_length t o.bytes, (leaf_bytes x (mid_of o.bytes (length t - o.bytes) t) e (Ok n) n l refl).1)

      -- the law of every writer
      pub leaf_emit : (ks' : List ℕ) (r : Out) → (r ≡ after_token ks o k w) × (ks' ≡ with_token ks o k w)
          → room_of ks' (put_mid o.bytes (length t - o.bytes) t e) r ≡ emit (room_of ks t o) (tok k x)
      unfolding after_token with_token placed paste fits
      leaf_emit ks' r q = rw (q.0, q.1) (go w wrote)
        where
          d : List ℕ
          d = mid_of o.bytes (length t - o.bytes) t

          go : (v : Wrote) → Leaf x d v e
              → room_of (with_token ks o k v) (put_mid o.bytes (length t - o.bytes) t e) (after_token ks o k v) ≡ emit (room_of ks t o) (tok k x)
          go (Err y) l =
              let n = leaf_none x d e (Err y) l refl in
              let short : length t < o.bytes + length x = omega (arith, n.0, rest_length t o.bytes, ready_rest) in
              let same : put_mid o.bytes (length t - o.bytes) t e ≡ t =
              ap (put_mid o.bytes (length t - o.bytes) t) n.1 ∙ put_same o.bytes (length t - o.bytes) t in
              rw same (sym (emit_stops (room_of ks t o) (tok k x) (rw (← is, holds, lt-leb _ _ short))))
          go (Ok n) l =
              let m = leaf_bytes x d e (Ok n) n l refl in
              let room : o.bytes + length x ≤ length t = omega (arith, m.0, m.1, rest_length t o.bytes, ready_rest) in
              let back : put_mid o.bytes (length t - o.bytes) t e ≡ take o.bytes t ++ (x ++ drop (o.bytes + length x) t) =
              rest_back t o.bytes e ∙ ap (λ (z : List ℕ). take o.bytes t ++ z)
              (m.2 ∙ ap (λ (z : List ℕ). x ++ drop n z) (rest_is t o.bytes) ∙ ap (λ (z : List ℕ). x ++ z) (drop-drop n o.bytes t) ∙ ap (λ (i : ℕ). x ++ drop (o.bytes + i) t) m.0) in
              rw (back, m.0) (sym (emit_fits (room_of ks t o) (tok k x) (fits_holds (room_of ks t o) (tok k x) (sym is ∙ holds) room)))
