-- What lowering left in the buffers reads back as its lines: a token's number tells its kind and where its text ends, its text begins where the one
-- before it ends, and a line's numbers tell where its tokens end.
use mathlib.Core.Path.{◌≡◌, refl, sym, ap, ◌∙◌}
use mathlib.Core.Option.{Option, none, some}
use mathlib.Core.List.{List, [], ◌∷◌, ◌++◌, map, append_assoc, append-nil}
use Prim.Native.Nat.{ℕ, zero, suc, ◌+◌, ◌*◌, ◌-◌, ◌<◌}
use native.Mathlib.Omega.{arith}
use lib.ListN.{length, get_or, take, drop, replicate, length-append, get_or-append}
use lib.Seq.{take-suc, split_at, take_at, drop_at, get_or-drop, get_or-append-add}
use Rattle.definition.specs.Words.{part}
use Rattle.definition.specs.Lists.{range, gather, at}
use Rattle.definition.specs.Read.{when}
use Rattle.definition.specs.Tokens.{Token, tok, Line, text_of}
use Rattle.definition.specs.Listing.{has_address, address_of, line_words, token_words, tokens_of, padded}
use Rattle.definition.proofs.ListLaws.{Each, end, ◌▸◌, each_append}
use Rattle.definition.proofs.Merge.{size, size_cons, size_append, text_append}
use Rattle.room.proofs.Proper.{Kind8, Proper}
use Rattle.room.proofs.Words.{words_length, rows_length, size_one, tokens_snoc}
use Rattle.sheet.specs.Buffers.{kind_at, start_at, end_at, text_at, token_at, tokens_in, first_of, last_of, line_in}
use Rattle.sheet.proofs.Reading.{start_first, start_later}

-- ---- tokens
abbrev no : Token
no = tok 0 []

-- within what is padded, the numbers are as they were
pub padded_at : (n : ℕ) (l : List ℕ) (i : ℕ) → i < length l → at (padded n l) i ≡ get_or l i 0
unfolding at padded
padded_at n l i h = get_or-append l (replicate (n - length l) 0) 0 i h

word_at : (n : ℕ) (ts : List Token) (j : ℕ) → j < length ts → get_or (token_words n ts) j 0 ≡ 8 * (n + size (take (suc j) ts)) + (get_or ts j no).kind
unfolding token_words
word_at n [] j h = absurd (omega arith)
word_at n (t ∷ ts) zero h = omega (arith, size_one t)
word_at n (t ∷ ts) (suc j) h = omega (arith, word_at (n + length t.text) ts j (omega arith), size_cons t (take (suc j) ts))

kinds_at : (ts : List Token) → Each Kind8 ts → (j : ℕ) → j < length ts → (get_or ts j no).kind < 8
kinds_at [] e j h = absurd (omega arith)
kinds_at (t ∷ ts) (k ▸ e) zero h = k
kinds_at (t ∷ ts) (k ▸ e) (suc j) h = kinds_at ts e j (omega arith)

module _ (T B : ℕ) (ts : List Token) (kinds : Each Kind8 ts) where
  abbrev K : List ℕ
  K = padded T (token_words 0 ts)

  number_is : (j : ℕ) → j < length ts → at K j ≡ 8 * (0 + size (take (suc j) ts)) + (get_or ts j no).kind
  number_is j h = padded_at T (token_words 0 ts) j (omega (arith, words_length 0 ts)) ∙ word_at 0 ts j h

  end_held : (j : ℕ) → j < length ts → end_at K j ≡ size (take (suc j) ts)
  end_held j h = let n = number_is j h in let k = kinds_at ts kinds j h in omega arith

  kind_held : (j : ℕ) → j < length ts → kind_at K j ≡ (get_or ts j no).kind
  unfolding kind_at
  kind_held j h = let n = number_is j h in let k = kinds_at ts kinds j h in omega arith

  start_held : (j : ℕ) → j < length ts → start_at K j ≡ size (take j ts)
  unfolding text_of
  start_held zero h = sym (start_first (end_at K) 0 refl)
  start_held (suc j) h =
      let p : suc j - 1 ≡ j = omega arith in
      sym (start_later (end_at K) (suc j) (size (take (suc j) ts)) (λ z. omega arith) (rw p (sym (end_held j (omega arith)))))

  -- the text of token j stands behind those of the tokens before it
  text_held : (j : ℕ) → j < length ts → part (padded B (text_of ts)) (size (take j ts)) (length (get_or ts j no).text) ≡ (get_or ts j no).text
  unfolding part padded text_of
  text_held j h =
      let u = (get_or ts j no).text in
      let x = text_of (take j ts) in
      let y = text_of (drop (suc j) ts) in
      let z = replicate {A = ℕ} (B - length (text_of ts)) 0 in
      let p : text_of ts ++ z ≡ x ++ (u ++ (y ++ z)) =
      ap (λ (l : List ℕ). l ++ z) (ap text_of (split_at ts j no h) ∙ text_append (take j ts) (get_or ts j no ∷ drop (suc j) ts))
      ∙ append_assoc x (u ++ y) z ∙ ap (λ (l : List ℕ). x ++ l) (append_assoc u y z) in
      ap (λ (l : List ℕ). take (length u) (drop (length x) l)) p ∙ ap (take (length u)) (drop_at x (u ++ (y ++ z)) (length x) refl)
      ∙ take_at u (y ++ z) (length u) refl

  token_held : (j : ℕ) → j < length ts → token_at K (padded B (text_of ts)) j ≡ get_or ts j no
  unfolding token_at text_at
  token_held j h =
      let s : size (take (suc j) ts) ≡ size (take j ts) + length (get_or ts j no).text =
      ap size (take-suc ts j no h) ∙ size_append (take j ts) (get_or ts j no ∷ []) ∙ ap (λ (n : ℕ). size (take j ts) + n) (size_one (get_or ts j no)) in
      let n : size (take (suc j) ts) - size (take j ts) ≡ length (get_or ts j no).text = omega arith in
      rw (kind_held j h, start_held j h, end_held j h, n, text_held j h)

-- ---- lines
map_held : (f : ℕ → Token) (a : ℕ) (us : List Token) → ((k : ℕ) → k < length us → f (a + k) ≡ get_or us k no) → map f (range a (length us)) ≡ us
unfolding range
map_held f a [] h = refl
map_held f a (u ∷ us) h =
    let p : a + 0 ≡ a = omega arith in
    let q = h 0 (omega arith) in
    let r = map_held f (a + 1) us (λ k g. let z : a + 1 + k ≡ a + suc k = omega arith in rw z (h (suc k) (omega arith))) in
    rw (sym (ap f p) ∙ q, r)

-- a line's numbers, and those of the lines behind it
row_at : (n : ℕ) (xs : List Line) (i : ℕ) (d : Line) → i < length xs
    → drop (5 * i) (line_words n xs)
    ≡ has_address (get_or xs i d).addr ∷ address_of (get_or xs i d).addr ∷ (get_or xs i d).indent ∷ (n + length (tokens_of (take (suc i) xs))) ∷ 0
    ∷ line_words (n + length (tokens_of (take (suc i) xs))) (drop (suc i) xs)
unfolding line_words tokens_of gather
row_at n [] i d h = absurd (omega arith)
row_at n (y ∷ xs) zero d h = rw (append-nil y.toks)
row_at n (y ∷ xs) (suc i) d h =
    let p : 5 * suc i ≡ suc (suc (suc (suc (suc (5 * i))))) = omega arith in
    let q : n + length (y.toks ++ tokens_of (take (suc i) xs)) ≡ n + length y.toks + length (tokens_of (take (suc i) xs)) =
    omega (arith, length-append y.toks (tokens_of (take (suc i) xs))) in
    rw (p, q) (row_at (n + length y.toks) xs i d (omega arith))

when_held : (a : Option ℕ) → when (has_address a) (address_of a) ≡ a
when_held none = refl
when_held (some a) = refl

pub kinds_all : {xs : List Line} → Each Proper xs → Each Kind8 (tokens_of xs)
unfolding tokens_of gather
kinds_all end = end
kinds_all (p ▸ h) = each_append p.kinds (kinds_all h)

tokens_split : (xs : List Line) (i : ℕ) (d : Line) → i < length xs
    → tokens_of xs ≡ tokens_of (take i xs) ++ ((get_or xs i d).toks ++ tokens_of (drop (suc i) xs))
unfolding tokens_of gather
tokens_split [] i d h = absurd (omega arith)
tokens_split (y ∷ xs) zero d h = refl
tokens_split (y ∷ xs) (suc i) d h =
    ap (λ (l : List Token). y.toks ++ l) (tokens_split xs i d (omega arith))
    ∙ sym (append_assoc y.toks (tokens_of (take i xs)) ((get_or xs i d).toks ++ tokens_of (drop (suc i) xs)))

module _ (L T B : ℕ) (xs : List Line) (proper : Each Proper xs) (d : Line) where
  abbrev rows : List ℕ
  rows = padded L (line_words 0 xs)

  -- number r of line i
  row_number : (i r : ℕ) → i < length xs → r < 5 → at rows (5 * i + r) ≡ get_or (drop (5 * i) (line_words 0 xs)) r 0
  row_number i r h g = padded_at L (line_words 0 xs) (5 * i + r) (omega (arith, rows_length 0 xs)) ∙ sym (get_or-drop (5 * i) (line_words 0 xs) r 0)

  last_held : (i : ℕ) → i < length xs → last_of rows i ≡ length (tokens_of (take (suc i) xs))
  last_held i h = row_number i 3 h (omega arith) ∙ ap (λ (l : List ℕ). get_or l 3 0) (row_at 0 xs i d h) ∙ omega arith

  first_held : (i : ℕ) → i < length xs → first_of rows i ≡ length (tokens_of (take i xs))
  unfolding tokens_of gather
  first_held zero h = sym (start_first (last_of rows) 0 refl)
  first_held (suc i) h =
      let p : suc i - 1 ≡ i = omega arith in
      sym (start_later (last_of rows) (suc i) (length (tokens_of (take (suc i) xs))) (λ z. omega arith) (rw p (sym (last_held i (omega arith)))))

  module _ (i : ℕ) (h : i < length xs) where
    abbrev x : Line
    x = get_or xs i d

    abbrev before : ℕ
    before = length (tokens_of (take i xs))

    count_held : length (tokens_of (take (suc i) xs)) - before ≡ length x.toks
    count_held =
        let s = ap (λ (l : List Line). length (tokens_of l)) (take-suc xs i d h) in
        omega (arith, ap length (tokens_snoc (take i xs) x), length-append (tokens_of (take i xs)) x.toks)

    tokens_held : tokens_in (padded T (token_words 0 (tokens_of xs))) (padded B (text_of (tokens_of xs))) before (length x.toks) ≡ x.toks
    unfolding tokens_in
    tokens_held =
        map_held (token_at (padded T (token_words 0 (tokens_of xs))) (padded B (text_of (tokens_of xs)))) before x.toks
        (λ k g.
        let s = tokens_split xs i d h in
        let rest = tokens_of (drop (suc i) xs) in
        let n : before + k < length (tokens_of xs) =
        omega (arith, ap length s, length-append (tokens_of (take i xs)) (x.toks ++ rest), length-append x.toks rest) in
        token_held T B (tokens_of xs) (kinds_all proper) (before + k) n
        ∙ ap (λ (l : List Token). get_or l (before + k) no) s ∙ get_or-append-add (tokens_of (take i xs)) (x.toks ++ rest) k no
        ∙ get_or-append x.toks rest no k g)

    -- line i reads back
    pub held : line_in rows (padded T (token_words 0 (tokens_of xs))) (padded B (text_of (tokens_of xs))) i ≡ x
    unfolding line_in
    held =
        let row = row_at 0 xs i d h in
        let z : 5 * i + 0 ≡ 5 * i = omega arith in
        let a : at rows (5 * i) ≡ has_address x.addr = ap (at rows) (sym z) ∙ row_number i 0 h (omega arith) ∙ ap (λ (l : List ℕ). get_or l 0 0) row in
        let b = row_number i 1 h (omega arith) ∙ ap (λ (l : List ℕ). get_or l 1 0) row in
        let c = row_number i 2 h (omega arith) ∙ ap (λ (l : List ℕ). get_or l 2 0) row in
        rw (a, b, c, when_held x.addr, first_held i h, last_held i h, count_held, tokens_held)
