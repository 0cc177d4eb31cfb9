-- Each contract of this crate determines what is seen of the room, so no second result says otherwise.
use mathlib.Core.Path.{◌≡◌}
use mathlib.Core.Option.{Option}
use mathlib.Core.List.{List}
use Prim.Native.Nat.{ℕ}
use Rattle.definition.specs.Tokens.{Token}
use Rattle.definition.specs.Negate.{negate, open_tokens, close_tokens, do_tokens, while_tokens}
use Rattle.room.specs.Room.{Room, emit_all, seen}
use Rattle.clips.specs.declared.clip.Clip.{Clip}
use Rattle.clips.specs.Clip.{clip}
use Rattle.clips.proofs.Unique.{pieces}

pub put_negated : (x : Room) (ks t : List ℕ) (c : Clip) (r s : Option Room) → r ≡ seen (emit_all x (negate (clip ks t c))) → s ≡ seen (emit_all x (negate (clip ks t c))) → r ≡ s
put_negated x ks t c = pieces x (negate (clip ks t c))

pub put_open : (x : Room) (us : List Token) (r s : Option Room) → r ≡ seen (emit_all x (open_tokens us)) → s ≡ seen (emit_all x (open_tokens us)) → r ≡ s
put_open x us = pieces x (open_tokens us)

pub put_while : (x : Room) (us : List Token) (r s : Option Room) → r ≡ seen (emit_all x (while_tokens us)) → s ≡ seen (emit_all x (while_tokens us)) → r ≡ s
put_while x us = pieces x (while_tokens us)

pub put_close : (x : Room) (r s : Option Room) → r ≡ seen (emit_all x close_tokens) → s ≡ seen (emit_all x close_tokens) → r ≡ s
put_close x = pieces x close_tokens

pub put_do : (x : Room) (r s : Option Room) → r ≡ seen (emit_all x do_tokens) → s ≡ seen (emit_all x do_tokens) → r ≡ s
put_do x = pieces x do_tokens
