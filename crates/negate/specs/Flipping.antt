-- A condition's tokens with the comparison of one of them flipped.
use Rattle.std.specs.Prelude.{cond, ℕ, eqb}
use Rattle.definition.specs.Tokens.{Token, tok}
use Rattle.definition.specs.Negate.{flips, flip_in}

-- a token with its comparison flipped, and the tokens f with the one at place p so
unfoldable pub flip_of : Token → Token
flip_of u = tok 6 (flip_in flips u.text)

unfoldable pub flipped : (ℕ → Token) → ℕ → ℕ → Token
flipped f p k = cond (eqb k p) (flip_of (f k)) (f k)
