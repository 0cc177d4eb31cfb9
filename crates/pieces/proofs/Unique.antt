-- Each contract of this crate determines the answer and what is left in the lent buffers, so no second result meets it. All that put a piece have one
-- contract, which differs in the piece alone, and put_if that of none or one; part_behind and write have a leaf's, of which `leaf` says it.
use mathlib.Core.Path.{◌≡◌, sym, ap, ◌∙◌}
use mathlib.Core.Bool.{Bool}
use mathlib.Core.List.{List}
use Prim.Native.Nat.{ℕ}
use Rattle.definition.specs.Tokens.{Token}
use Rattle.room.specs.declared.out.Out.{Out}
use Rattle.room.specs.Room.{Room, room_of, emit, emit_all}
use Rattle.pieces.specs.Spelled.{piece_if}

-- the room that a contract says is one
one : (y : Room) (k k' t t' : List ℕ) (r r' : Out) → room_of k t r ≡ y → room_of k' t' r' ≡ y → (k ≡ k') × (t ≡ t') × (r ≡ r')
one y k k' t t' r r' e f =
    let z : room_of k t r ≡ room_of k' t' r' = e ∙ sym f in
    (ap (λ (q : Room). q.tokens) z, ap (λ (q : Room). q.text) z, ap (λ (q : Room). q.out) z)

-- put_piece, and what is put by it: put, put_made, put_num, put_slot, put_label, put_outward, put_pointer, put_reg, put_param, put_local, put_part, put_name, put_global, put_flags
pub piece : (x : Room) (p : Token) (k k' t t' : List ℕ) (r r' : Out) → room_of k t r ≡ emit x p → room_of k' t' r' ≡ emit x p → (k ≡ k') × (t ≡ t') × (r ≡ r')
piece x p = one (emit x p)

pub put_if : (x : Room) (b : Bool) (p : Token) (k k' t t' : List ℕ) (r r' : Out) → room_of k t r ≡ emit_all x (piece_if b p) → room_of k' t' r' ≡ emit_all x (piece_if b p) → (k ≡ k') × (t ≡ t') × (r ≡ r')
put_if x b p = one (emit_all x (piece_if b p))
