-- The numbers of tokens and lines, written one more at the end, and the counts as lengths.
use mathlib.Core.Path.{◌≡◌, refl, sym, ap, ◌∙◌}
use mathlib.Core.List.{List, [], ◌∷◌, ◌++◌, append-nil, append_assoc}
use Prim.Native.Nat.{ℕ, ◌+◌, ◌*◌}
use native.Mathlib.Omega.{arith}
use lib.ListN.{length, length-append}
use Rattle.definition.specs.Lists.{total, gather}
use Rattle.definition.specs.Tokens.{Token, Line, text_of}
use Rattle.definition.specs.Listing.{has_address, address_of, token_count, byte_count, line_words, token_words, tokens_of}
use Rattle.definition.proofs.Merge.{size, size_cons, size_append}

-- ---- tokens
pub words_length : (n : ℕ) (ts : List Token) → length (token_words n ts) ≡ length ts
unfolding token_words
words_length n [] = refl
words_length n (t ∷ ts) = omega (arith, words_length (n + length t.text) ts)

pub words_snoc : (n : ℕ) (ts : List Token) (p : Token) (m : ℕ) → m ≡ n + size ts + length p.text
    → token_words n (ts ++ (p ∷ [])) ≡ token_words n ts ++ ((8 * m + p.kind) ∷ [])
unfolding token_words text_of
words_snoc n [] p m e = let q : n + length p.text ≡ m = omega arith in ap (λ (k : ℕ). (8 * k + p.kind) ∷ []) q
words_snoc n (t ∷ ts) p m e =
    ap (λ (l : List ℕ). (8 * (n + length t.text) + t.kind) ∷ l) (words_snoc (n + length t.text) ts p m (omega (arith, size_cons t ts)))

pub size_one : (p : Token) → size (p ∷ []) ≡ length p.text
unfolding text_of
size_one p = ap length (append-nil p.text)

-- ---- lines
pub tokens_snoc : (ls : List Line) (x : Line) → tokens_of (ls ++ (x ∷ [])) ≡ tokens_of ls ++ x.toks
unfolding tokens_of gather
tokens_snoc [] x = append-nil x.toks
tokens_snoc (y ∷ ls) x = ap (λ (l : List Token). y.toks ++ l) (tokens_snoc ls x) ∙ sym (append_assoc y.toks (tokens_of ls) x.toks)

-- what adds up over tokens adds up over lines
adds_up : (m : List Token → ℕ) → m [] ≡ 0 → ((ts us : List Token) → m (ts ++ us) ≡ m ts + m us) → (ls : List Line) → total (λ x. m x.toks) ls ≡ m (tokens_of ls)
unfolding tokens_of total gather
adds_up m z h [] = sym z
adds_up m z h (x ∷ ls) = omega (arith, adds_up m z h ls, h x.toks (tokens_of ls))

pub token_count_lem : (ls : List Line) → token_count ls ≡ length (tokens_of ls)
unfolding token_count
token_count_lem = adds_up length refl length-append

pub byte_count_lem : (ls : List Line) → byte_count ls ≡ size (tokens_of ls)
unfolding byte_count text_of
byte_count_lem = adds_up size refl size_append

pub rows_length : (n : ℕ) (ls : List Line) → length (line_words n ls) ≡ 5 * length ls
unfolding line_words
rows_length n [] = omega arith
rows_length n (x ∷ ls) = omega (arith, rows_length (n + length x.toks) ls)

pub rows_snoc : (n : ℕ) (ls : List Line) (x : Line) (m : ℕ) → m ≡ n + length (tokens_of ls) + length x.toks
    → line_words n (ls ++ (x ∷ [])) ≡ line_words n ls ++ (has_address x.addr ∷ address_of x.addr ∷ x.indent ∷ m ∷ 0 ∷ [])
unfolding line_words tokens_of gather
rows_snoc n [] x m e =
    let q : n + length x.toks ≡ m = omega arith in
    ap (λ (k : ℕ). has_address x.addr ∷ address_of x.addr ∷ x.indent ∷ k ∷ 0 ∷ []) q
rows_snoc n (y ∷ ls) x m e =
    ap (λ (l : List ℕ). has_address y.addr ∷ address_of y.addr ∷ y.indent ∷ (n + length y.toks) ∷ 0 ∷ l)
    (rows_snoc (n + length y.toks) ls x m (omega (arith, length-append y.toks (tokens_of ls))))
