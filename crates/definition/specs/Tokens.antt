-- Tokens and lines (model.rs, `Token`, `TokenKind`; pseudo.rs, `PseudoLine`), and `merge` of pseudo_opt.rs.
use Rattle.std.specs.Prelude.{Bool, cond, ◌&&◌, ◌||◌, List, [], ◌∷◌, ◌++◌, ℕ, eqb}
use Rattle.std.proofs.Math.Option.{Option}

-- a token: its kind, by its place in `TokenKind`, and its bytes
pub record Token : Type 0 where
  pub kind : ℕ
  pub text : List ℕ

abbrev pub tok : ℕ → List ℕ → Token
tok k t = record { kind = k; text = t }

abbrev pub textual : List ℕ → Token
textual t = tok 0 t

abbrev pub register : List ℕ → Token
register t = tok 1 t

abbrev pub numeral : List ℕ → Token
numeral t = tok 2 t

abbrev pub keyword : List ℕ → Token
keyword t = tok 3 t

abbrev pub symbol : List ℕ → Token
symbol t = tok 4 t

abbrev pub address : List ℕ → Token
address t = tok 5 t

abbrev pub punct : List ℕ → Token
punct t = tok 6 t

pub record Line : Type 0 where
  pub addr : Option ℕ
  pub indent : ℕ
  pub toks : List Token

-- neighbouring Punct, and neighbouring Text, are one token
unfoldable pub joins : Token → Token → Bool
joins t u = eqb t.kind u.kind && (eqb t.kind 6 || eqb t.kind 0)

unfoldable pub join : Token → List Token → List Token
join t [] = t ∷ []
join t (u ∷ us) = cond (joins t u) (tok t.kind (t.text ++ u.text) ∷ us) (t ∷ u ∷ us)

unfoldable pub merge : List Token → List Token
merge [] = []
merge (t ∷ ts) = join t (merge ts)

-- `line`
unfoldable pub line : ℕ → Option ℕ → List Token → Line
line n a ts = record { addr = a; indent = n; toks = merge ts }

-- the tokens' texts, one behind the other
unfoldable pub text_of : List Token → List ℕ
text_of [] = []
text_of (t ∷ ts) = t.text ++ text_of ts
