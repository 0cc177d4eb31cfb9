-- The room as one value: the lent buffers and how far they are written. A piece is a token of the definition before `merge`.
use Rattle.std.specs.Prelude.{Bool, true, false, not, cond, ◌&&◌, ◌||◌, List, [], ◌∷◌, ◌++◌, ℕ, ◌+◌, ◌*◌, ◌-◌, ◌%◌, eqb, ltb, leb, length, get_or, take, drop, set}
use Rattle.std.proofs.Math.Option.{Option, none, some}
use Rattle.definition.specs.Tokens.{Token, Line}
use Rattle.definition.specs.Listing.{has_address, address_of, line_numbers}
use Rattle.room.specs.declared.out.Out.{Out}
use Rattle.std.specs.Prelude.{Option as Answer, Some, None}

-- tokens and text
pub record Room : Type 0 where
  pub tokens : List ℕ
  pub text : List ℕ
  pub out : Out

-- and lines
pub record Sheet : Type 0 where
  pub lines : List ℕ
  pub room : Room

abbrev pub room_of : List ℕ → List ℕ → Out → Room
room_of k t o = record { tokens = k; text = t; out = o }

abbrev pub sheet_of : List ℕ → List ℕ → List ℕ → Out → Sheet
sheet_of l k t o = record { lines = l; room = room_of k t o }

-- full from here on
abbrev pub stopped : Out → Out
stopped o = record { lines = o.lines; tokens = o.tokens; bytes = o.bytes; start = o.start; full = true }

unfoldable pub is_full : Room → Bool
is_full r = r.out.full

-- s over what stands from place i on
unfoldable pub paste : List ℕ → ℕ → List ℕ → List ℕ
paste d i s = take i d ++ (s ++ drop (i + length s) d)

-- does a piece of kind k go on with the token before it: neighbouring Punct, neighbouring Text, in one line
unfoldable pub goes_on : List ℕ → Out → ℕ → Bool
goes_on ks o k = ltb o.start o.tokens && (eqb k 6 || eqb k 0) && eqb (get_or ks (o.tokens - 1) 0 % 8) k

-- the most bytes that a text may have, so that a token's number is one of 64 bits
abbrev pub text_most : ℕ
text_most = 4294967296

-- is the room not full and in order, with l numbers lent for tokens and n bytes for the text
unfoldable pub sound : ℕ → ℕ → Out → Bool
sound l n o = not o.full && leb n text_most && leb o.bytes n && leb o.start o.tokens && leb o.tokens l

-- is there a place for a token of kind k
unfoldable pub is_ready : List ℕ → ℕ → Out → ℕ → Bool
is_ready ks n o k = sound (length ks) n o && (goes_on ks o k || ltb o.tokens (length ks))

-- and room for its n bytes
unfoldable pub fits : Room → ℕ → ℕ → Bool
fits r k n = is_ready r.tokens (length r.text) r.out k && leb (r.out.bytes + n) (length r.text)

-- the token's place
unfoldable pub slot_at : List ℕ → Out → ℕ → ℕ
slot_at ks o k = cond (goes_on ks o k) (o.tokens - 1) o.tokens

unfoldable pub placed : Room → Token → Room
placed r p =
    let o = r.out in
    let n = o.bytes + length p.text in
    let i = slot_at r.tokens o p.kind in
    room_of (set r.tokens i (8 * n + p.kind)) (paste r.text o.bytes p.text)
    (record { lines = o.lines; tokens = i + 1; bytes = n; start = o.start; full = false })

-- one piece
unfoldable pub emit : Room → Token → Room
emit r p =
    cond (is_full r) r
    (cond (fits r p.kind (length p.text)) (placed r p) (room_of r.tokens r.text (stopped r.out)))

unfoldable pub emit_all : Room → List Token → Room
emit_all r [] = r
emit_all r (p ∷ ps) = emit_all (emit r p) ps

-- what a reader may count on: all of it, unless it is full
unfoldable pub seen : Room → Option Room
seen r = cond (is_full r) none (some r)

-- the address that a line stands at, as the rules have it
abbrev pub option_of : Answer ℕ → Option ℕ
option_of None = none
option_of (Some a) = some a

-- the five numbers of a line
unfoldable pub line_row : Out → ℕ → Option ℕ → List ℕ
line_row o n a = has_address a ∷ address_of a ∷ n ∷ o.tokens ∷ 0 ∷ []

unfoldable pub ended : Out → Out
ended o = record { lines = o.lines + 1; tokens = o.tokens; bytes = o.bytes; start = o.tokens; full = false }

-- the line ends here, at indent n and address a
unfoldable pub end_line : Sheet → ℕ → Option ℕ → Sheet
end_line s n a =
    let r = s.room in
    let o = r.out in
    cond (is_full r) s
    (cond (leb (line_numbers * (o.lines + 1)) (length s.lines))
    (sheet_of (paste s.lines (line_numbers * o.lines) (line_row o n a)) r.tokens r.text (ended o))
    (sheet_of s.lines r.tokens r.text (stopped o)))

-- a line, and lines
unfoldable pub write_line : Sheet → Line → Sheet
write_line s x = end_line (record { lines = s.lines; room = emit_all s.room x.toks }) x.indent x.addr

unfoldable pub write_all : Sheet → List Line → Sheet
write_all s [] = s
write_all s (x ∷ xs) = write_all (write_line s x) xs

unfoldable pub seen_sheet : Sheet → Option Sheet
seen_sheet s = cond (is_full s.room) none (some s)
