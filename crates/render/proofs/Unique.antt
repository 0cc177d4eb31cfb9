-- Each public contract of this crate says exactly what is seen: two results that meet it are seen alike, and those of `put_code` are equal.
use mathlib.Core.Path.{◌≡◌, sym, ◌∙◌}
use mathlib.Core.Bool.{Bool}
use mathlib.Core.List.{List}
use Prim.Native.Nat.{ℕ}
use Rattle.definition.specs.Edition.{Edition}
use Rattle.definition.specs.Contents.{text}
use Rattle.definition.specs.Values.{Value}
use Rattle.definition.specs.Registers.{reg_name}
use Rattle.definition.specs.Lookup.{name_or}
use Rattle.definition.specs.Tokens.{Token, tok}
use Rattle.names.specs.Codes.{name_text}
use Rattle.sums.proofs.Naming.{some_edition}
use Rattle.room.specs.declared.out.Out.{Out}
use Rattle.room.specs.Room.{Room, room_of, emit, emit_all, seen}
use Rattle.pieces.proofs.Unique.{piece}
use Rattle.render.specs.Gens.{rendered, used}

pub put_code : (x : Room) (bits reg c : ℕ) (k k' b b' : List ℕ) (r r' : Out)
    → room_of k b r ≡ emit x (tok 1 (name_or (reg_name bits reg) (name_text bits reg c))) → room_of k' b' r' ≡ emit x (tok 1 (name_or (reg_name bits reg) (name_text bits reg c)))
    → (k ≡ k') × (b ≡ b') × (r ≡ r')
put_code x bits reg c = piece x (tok 1 (name_or (reg_name bits reg) (name_text bits reg c)))

-- every text's section is some edition's
pieces : (ts : Edition → List Token) (t : ℕ) (x r s : Room) → ((E : Edition) → text E ≡ t → seen r ≡ seen (emit_all x (ts E)))
    → ((E : Edition) → text E ≡ t → seen s ≡ seen (emit_all x (ts E))) → seen r ≡ seen s
pieces ts t x r s p q = let m = some_edition t in p m.0 m.1 ∙ sym (q m.0 m.1)

pub expr : (f : List ℕ) (t pos n : ℕ) (top : Bool) (x r s : Room) → ((E : Edition) → text E ≡ t → seen r ≡ seen (emit_all x (rendered E f pos top n)))
    → ((E : Edition) → text E ≡ t → seen s ≡ seen (emit_all x (rendered E f pos top n))) → seen r ≡ seen s
expr f t pos n top = pieces (λ E. rendered E f pos top n) t

pub value : (f : List ℕ) (t pos : ℕ) (top : Bool) (v : Value) (x r s : Room) → ((E : Edition) → text E ≡ t → seen r ≡ seen (emit_all x (used E f pos top v)))
    → ((E : Edition) → text E ≡ t → seen s ≡ seen (emit_all x (used E f pos top v))) → seen r ≡ seen s
value f t pos top v = pieces (λ E. used E f pos top v) t
