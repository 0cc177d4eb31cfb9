-- A condition taken out of `if (C) goto L;`, and its negation (c.rs, `negate`, and the heads and ends that the passes write).
use Rattle.std.specs.Prelude.{Bool, true, false, not, cond, ◌&&◌, List, [], ◌∷◌, ◌++◌, ℕ, ◌+◌, eqb}
use Rattle.definition.specs.Texts.{txt, is_empty, contains, replace, trim_start, cut_end}
use Rattle.definition.specs.Lists.{any, only, count}
use Rattle.definition.specs.Tokens.{Token, tok, keyword, punct, merge, text_of}
use Rattle.definition.specs.Sorts.{is_tok}

-- the tokens before the first `goto`
unfoldable pub before_goto : List Token → List Token
before_goto [] = []
before_goto (t ∷ ts) = cond (is_tok (keyword (txt "goto")) t) [] (t ∷ before_goto ts)

unfoldable pub tail : List Token → List Token
tail [] = []
tail (t ∷ ts) = ts

-- every leading ` (` of the first token goes, and one trailing `) ` of the last
unfoldable pub trim_first : List Token → List Token
trim_first [] = []
trim_first (t ∷ ts) = tok t.kind (trim_start (txt " (") t.text) ∷ ts

unfoldable pub cut_last : List Token → List Token
cut_last [] = []
cut_last (t ∷ []) = tok t.kind (cut_end (txt ") ") t.text) ∷ []
cut_last (t ∷ u ∷ us) = t ∷ cut_last (u ∷ us)

-- the condition of `if (C) goto L;`, without empty tokens
unfoldable pub cond_of : List Token → List Token
cond_of ts = only (λ t. not (is_empty t.text)) (cut_last (trim_first (tail (before_goto ts))))

-- a comparison and its opposite
pub record Flip : Type 0 where
  pub from : List ℕ
  pub to : List ℕ

abbrev flip : List ℕ → List ℕ → Flip
flip a b = record { from = a; to = b }

unfoldable pub flips : List Flip
flips =
    flip (txt " == ") (txt " != ") ∷ flip (txt " != ") (txt " == ") ∷ flip (txt " < ") (txt " >= ")
    ∷ flip (txt " >= ") (txt " < ") ∷ flip (txt " > ") (txt " <= ") ∷ flip (txt " <= ") (txt " > ") ∷ []

unfoldable pub compares : List ℕ → Bool
compares s = any (λ p. contains p.from s) flips

-- the first of the list that the text contains is flipped, once
unfoldable pub flip_in : List Flip → List ℕ → List ℕ
flip_in [] s = s
flip_in (p ∷ ps) s = cond (contains p.from s) (replace p.from p.to s) (flip_in ps s)

-- for each token: is it a Punct with a comparison, at depth 0 behind it? o and c count the parentheses so far
unfoldable pub comparisons : ℕ → ℕ → List Token → List Bool
comparisons o c [] = []
comparisons o c (t ∷ ts) =
    let o' = o + count (eqb 40) t.text in
    let c' = c + count (eqb 41) t.text in
    cond (eqb t.kind (punct []).kind)
    ((eqb o' c' && compares t.text) ∷ comparisons o' c' ts)
    (false ∷ comparisons o c ts)

unfoldable pub flip_at : List Bool → List Token → List Token
flip_at [] ts = ts
flip_at (b ∷ bs) [] = []
flip_at (true ∷ bs) (t ∷ ts) = tok t.kind (flip_in flips t.text) ∷ ts
flip_at (false ∷ bs) (t ∷ ts) = t ∷ flip_at bs ts

-- `negate`: one comparison at depth 0, and no `&&` or `||` anywhere, is flipped; else all is wrapped
unfoldable pub flippable : List Token → Bool
flippable c =
    eqb (count (λ b. b) (comparisons 0 0 c)) 1 && not (contains (txt "&&") (text_of c)) && not (contains (txt "||") (text_of c))

unfoldable pub negate : List Token → List Token
negate c = cond (flippable c) (flip_at (comparisons 0 0 c) c) (punct (txt "!(") ∷ (c ++ (punct (txt ")") ∷ [])))

-- `if (!C) {`, `}`, `do {` and `} while (C);`
unfoldable pub open_tokens : List Token → List Token
open_tokens ts = merge (keyword (txt "if") ∷ punct (txt " (") ∷ (negate (cond_of ts) ++ (punct (txt ") {") ∷ [])))

unfoldable pub close_tokens : List Token
close_tokens = punct (txt "}") ∷ []

unfoldable pub do_tokens : List Token
do_tokens = keyword (txt "do") ∷ punct (txt " {") ∷ []

unfoldable pub while_tokens : List Token → List Token
while_tokens ts = merge (punct (txt "} ") ∷ keyword (txt "while") ∷ punct (txt " (") ∷ (cond_of ts ++ (punct (txt ");") ∷ [])))
