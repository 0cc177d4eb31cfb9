-- A comparison's tokens, piece by piece: each side by what it is, and the sign between them.
use mathlib.Core.Path.{◌≡◌, refl, ap, ◌∙◌}
use mathlib.Core.Bool.{Bool, true, false}
use mathlib.Core.List.{List, [], ◌∷◌, ◌++◌}
use Prim.Native.Nat.{ℕ}
use Rattle.definition.specs.Texts.{txt}
use Rattle.definition.specs.Tokens.{Token, keyword, punct}
use Rattle.definition.specs.Condition.{sign_text, side_tokens, unsigned_tokens, shown_tokens}
use Rattle.flags.specs.declared.comparison.Sign.{Sign}
use Rattle.flags.specs.declared.comparison.Side.{Side}
use Rattle.flags.specs.declared.comparison.Side.TheVariants.{Nought}
use Rattle.flags.specs.declared.comparison.Shown.{Shown}
use Rattle.room.specs.Room.{Room, emit, emit_all, seen}
use Rattle.room.proofs.Laws.{next, more, one}
use Rattle.pieces.specs.Spelled.{piece_if}
use Rattle.conditions.specs.Printed.{view_side, view_sign, view_shown, between}

pub between_put : (r r₄ r₃ r₂ r₁ r₀ : Room) (x y : List Token) (op : List ℕ)
    → r₁ ≡ emit r₀ (punct (txt "(")) → seen r₂ ≡ seen (emit_all r₁ x) → r₃ ≡ emit r₂ (punct op) → seen r₄ ≡ seen (emit_all r₃ y)
    → r ≡ emit r₄ (punct (txt ")")) → seen r ≡ seen (emit_all r₀ (between x y op))
unfolding between
between_put r r₄ r₃ r₂ r₁ r₀ x y op a b c d e =
    let last : List Token = punct (txt ")") ∷ [] in
    next r r₀ (punct (txt "(")) (x ++ (punct op ∷ (y ++ last))) a
    (more r r₂ r₁ x (punct op ∷ (y ++ last)) b
    (next r r₂ (punct op) (y ++ last) c
    (more r r₄ r₃ y last d (one r r₄ (punct (txt ")")) e))))

-- ---- a side, by what it is
module _ (r r₀ : Room) (x y : List Token) (s : Side) where
  abbrev Written : Type 0
  Written = seen r ≡ seen (emit_all r₀ (side_tokens x y (view_side s)))

  pub side_put : (z : Side) → s ≡ z → seen r ≡ seen (emit_all r₀ (side_tokens x y (view_side z))) → Written
  side_put z h e = rw h e

  pub nought_put : s ≡ Nought → r ≡ emit r₀ (punct (txt "0")) → Written
  unfolding side_tokens view_side
  nought_put h e = side_put Nought h (one r r₀ (punct (txt "0")) e)

-- another sign, which it is
pub sign_put : (r r₀ : Room) (s k : Sign) → s ≡ k → r ≡ emit r₀ (punct (sign_text (view_sign k))) → r ≡ emit r₀ (punct (sign_text (view_sign s)))
sign_put r r₀ s k h e = rw h e

-- ---- the whole
unsigned_is : (u : Bool) → piece_if u (keyword (txt "(unsigned)")) ≡ unsigned_tokens u
unfolding piece_if unsigned_tokens
unsigned_is true = refl
unsigned_is false = refl

pub shown_put : (r r₃ r₂ r₁ r₀ : Room) (x y : List Token) (c : Shown)
    → r₁ ≡ emit_all r₀ (piece_if c.unsigned (keyword (txt "(unsigned)"))) → seen r₂ ≡ seen (emit_all r₁ (side_tokens x y (view_side c.lhs)))
    → r₃ ≡ emit r₂ (punct (sign_text (view_sign c.sign))) → seen r ≡ seen (emit_all r₃ (side_tokens x y (view_side c.rhs)))
    → seen r ≡ seen (emit_all r₀ (shown_tokens x y (view_shown c)))
unfolding shown_tokens view_shown
shown_put r r₃ r₂ r₁ r₀ x y c a b d e =
    let p = punct (sign_text (view_sign c.sign)) in
    let behind : List Token = side_tokens x y (view_side c.rhs) in
    let before : List Token = side_tokens x y (view_side c.lhs) in
    let front = a ∙ ap (emit_all r₀) (unsigned_is c.unsigned) in
    more r r₂ r₀ (unsigned_tokens c.unsigned ++ before) (p ∷ behind) (more r₂ r₁ r₀ (unsigned_tokens c.unsigned) before (ap seen front) b) (next r r₂ p behind d e)
