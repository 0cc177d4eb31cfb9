-- The tokens of a goto, piece by piece.
use mathlib.Core.Path.{◌≡◌}
use mathlib.Core.List.{[], ◌∷◌}
use Rattle.definition.specs.Texts.{txt}
use Rattle.definition.specs.Tokens.{Token, textual, keyword, punct}
use Rattle.definition.specs.Lower.{goto_tokens}
use Rattle.room.specs.Room.{Room, emit, emit_all, seen}
use Rattle.room.proofs.Laws.{next, more, one}
use Rattle.gotos.specs.Written.{go_tokens}

pub goto_put : (r r₂ r₁ r₀ : Room) (p : Token) → seen r₁ ≡ seen (emit_all r₀ go_tokens) → r₂ ≡ emit r₁ p → r ≡ emit r₂ (punct (txt ";"))
    → seen r ≡ seen (emit_all r₀ (goto_tokens p))
unfolding go_tokens goto_tokens
goto_put r r₂ r₁ r₀ p a b c =
    more r r₁ r₀ (keyword (txt "goto") ∷ textual (txt " ") ∷ []) (p ∷ punct (txt ";") ∷ []) a
    (next r r₁ p (punct (txt ";") ∷ []) b (one r r₂ (punct (txt ";")) c))
