-- What the searches through a line's tokens look for: the first place where a test holds, and the token that a goto names.
use Rattle.std.specs.Prelude.{Bool, cond, List, [], ℕ, zero, suc, ◌+◌, eqb, ltb}
use Rattle.std.specs.Prelude.{Option as Place, Some, None}
use Rattle.std.proofs.Math.Option.{Option, none, some}
use Rattle.definition.specs.Texts.{txt}
use Rattle.definition.specs.Tokens.{keyword, symbol}
use Rattle.definition.specs.Sorts.{is_tok}
use Rattle.sheet.specs.Buffers.{kind_at, text_at, token_at}

-- of n places from a on; their end where it holds of none
unfoldable pub first_place : (ℕ → Bool) → ℕ → ℕ → ℕ
first_place p a zero = a
first_place p a (suc n) = cond (p a) a (first_place p (a + 1) n)

-- the place found before the end e
unfoldable pub found : ℕ → ℕ → Place ℕ
found e j = cond (ltb j e) (Some j) None

-- the keyword `goto`; a Symbol
unfoldable pub goto_at : List ℕ → List ℕ → ℕ → Bool
goto_at ks t j = is_tok (keyword (txt "goto")) (token_at ks t j)

unfoldable pub symbol_at : List ℕ → ℕ → Bool
symbol_at ks j = eqb (kind_at ks j) (symbol []).kind

-- the name that a goto's target is
unfoldable pub target_text : List ℕ → List ℕ → Place ℕ → Option (List ℕ)
target_text ks t (Some j) = some (text_at ks t j)
target_text ks t None = none
