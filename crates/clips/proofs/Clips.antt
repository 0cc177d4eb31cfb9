-- The condition's tokens are those that `cond_of` gives: what stands before `goto` is a stretch of the same places, its first token trimmed and its
-- last one cut are ranges, and the tokens between are as they were.
use mathlib.Core.Path.{◌≡◌, refl, sym, ap, ap₂, subst, ◌∙◌}
use mathlib.Core.Bool.{Bool, true, false, not, cond, true≢false}
use mathlib.Core.List.{List, [], ◌∷◌, map}
use Prim.Native.Nat.{ℕ, zero, suc, ◌+◌, ◌-◌, ◌≤◌, ◌<◌}
use native.Mathlib.Omega.{arith}
use borrow.Author.Tests.{eq-eqb, ne_eqb}
use lib.ListN.{length}
use Rattle.definition.specs.Texts.{txt, is_empty, trim_start, cut_end}
use Rattle.definition.specs.Lists.{range, only}
use Rattle.definition.specs.Tokens.{Token, tok, keyword}
use Rattle.definition.specs.Sorts.{is_tok}
use Rattle.definition.specs.Negate.{before_goto, tail, trim_first, cut_last, cond_of}
use Rattle.sheet.specs.Buffers.{kind_at, start_of, start_at, end_at, text_at, token_at, tokens_in}
use Rattle.sheet.specs.Ranges.{between, SamePlace}
use Rattle.clips.specs.declared.clip.Clip.{Clip}
use Rattle.clips.specs.Clip.{clip_from, clip_to, clip_at, has_text, texts, clip, Opened, Closed}

-- ---- empty tokens
pub text_none : (u : Token) → has_text u ≡ false → u.text ≡ []
unfolding has_text is_empty
text_none u h = go u.text h
  where
    go : (s : List ℕ) → not (is_empty s) ≡ false → s ≡ []
    go [] e = refl
    go (b ∷ s) e = absurd (true≢false e)

-- ---- places
module _ (ks : List ℕ) (p q : ℕ) (same : SamePlace ks p q) where
  pub kind_same : (x : ℕ) → x ≡ kind_at ks p → x ≡ kind_at ks q
  unfolding kind_at
  kind_same x e = rw (← same.number) e

  pub end_same : (x : ℕ) → x ≡ end_at ks p → x ≡ end_at ks q
  end_same x e = rw (← same.number) e

  pub token_same : (t : List ℕ) → token_at ks t p ≡ token_at ks t q
  unfolding token_at text_at kind_at
  token_same t = rw (same.number, same.start)

-- ---- the ends of a condition's tokens
module _ (ks : List ℕ) (c : Clip) (k : ℕ) where
  pub from_first : k ≡ 1 → c.from ≡ clip_from ks c k
  unfolding clip_from
  from_first e = rw (eq-eqb k 1 e)

  pub from_other : (x : ℕ) → (k ≡ 1 → ⊥) → x ≡ start_at ks (c.first + k) → x ≡ clip_from ks c k
  unfolding clip_from
  from_other x n e = rw (ne_eqb k 1 n) e

  pub to_last : k + 1 ≡ c.count → c.to ≡ clip_to ks c k
  unfolding clip_to
  to_last e = rw (eq-eqb (k + 1) c.count e)

  pub to_other : (x : ℕ) → (k + 1 ≡ c.count → ⊥) → x ≡ end_at ks (c.first + k) → x ≡ clip_to ks c k
  unfolding clip_to
  to_other x n e = rw (ne_eqb (k + 1) c.count n) e

-- one token ends where the next begins
pub clip_chain : (ks : List ℕ) (c : Clip) (k : ℕ) → 1 ≤ k → k + 1 < c.count → clip_to ks c k ≡ clip_from ks c (k + 1)
unfolding clip_to clip_from start_of
clip_chain ks c k g h =
    let p : c.first + (k + 1) - 1 ≡ c.first + k = omega arith in
    rw (ne_eqb (k + 1) c.count (λ z. omega arith), ne_eqb (k + 1) 1 (λ z. omega arith), ne_eqb (c.first + (k + 1)) 0 (λ z. omega arith), p)

module _ (ks t : List ℕ) where
  -- ---- before `goto`
  pub goto_same : (b : Bool) (p q : ℕ) → SamePlace ks p q → b ≡ is_tok (keyword (txt "goto")) (token_at ks t p) → b ≡ is_tok (keyword (txt "goto")) (token_at ks t q)
  goto_same b p q s e = e ∙ ap (is_tok (keyword (txt "goto"))) (token_same ks p q s t)

  tokens_cons : (a n k : ℕ) → k < n → tokens_in ks t (a + k) (n - k) ≡ token_at ks t (a + k) ∷ tokens_in ks t (a + (k + 1)) (n - (k + 1))
  unfolding tokens_in range
  tokens_cons a n k h =
      let p : n - k ≡ suc (n - (k + 1)) = omega arith in
      let q : a + (k + 1) ≡ a + k + 1 = omega arith in
      rw (p, q)

  pub goto_start : (a n : ℕ) → length (before_goto (tokens_in ks t a n)) ≡ 0 + length (before_goto (tokens_in ks t (a + 0) (n - 0)))
  goto_start a n =
      let p : a + 0 ≡ a = omega arith in
      let q : n - 0 ≡ n = omega arith in
      rw (p, q) (omega arith)

  module _ (a n k : ℕ) (all : length (before_goto (tokens_in ks t a n)) ≡ k + length (before_goto (tokens_in ks t (a + k) (n - k)))) where
    pub goto_hit : (b : Bool) → k < n → b ≡ is_tok (keyword (txt "goto")) (token_at ks t (a + k)) → b ≡ true → k ≡ length (before_goto (tokens_in ks t a n))
    unfolding before_goto
    goto_hit b h e z = sym (all ∙ rw (tokens_cons a n k h, ← e, z) (omega arith))

    pub goto_turn : (b : Bool) → k < n → b ≡ is_tok (keyword (txt "goto")) (token_at ks t (a + k)) → b ≡ false
        → length (before_goto (tokens_in ks t a n)) ≡ k + 1 + length (before_goto (tokens_in ks t (a + (k + 1)) (n - (k + 1))))
    unfolding before_goto
    goto_turn b h e z = all ∙ rw (tokens_cons a n k h, ← e, z) (omega arith)

    pub goto_none : n ≤ k → k ≡ length (before_goto (tokens_in ks t a n))
    unfolding before_goto tokens_in range
    goto_none h = let p : n - k ≡ 0 = omega arith in sym (all ∙ rw p (omega arith))

  before_is : (a n : ℕ) → before_goto (tokens_in ks t a n) ≡ tokens_in ks t a (length (before_goto (tokens_in ks t a n)))
  unfolding before_goto tokens_in range
  before_is a zero = refl
  before_is a (suc n) = go (is_tok (keyword (txt "goto")) (token_at ks t a)) (before_goto (map (token_at ks t) (range (a + 1) n))) (before_is (a + 1) n)
    where
      go : (b : Bool) (x : List Token) → x ≡ map (token_at ks t) (range (a + 1) (length x))
          → cond b [] (token_at ks t a ∷ x) ≡ map (token_at ks t) (range a (length (cond b [] (token_at ks t a ∷ x))))
      go true x e = refl
      go false x e = ap (λ (l : List Token). token_at ks t a ∷ l) e

  -- ---- a condition of tokens
  module _ (a m f e : ℕ) where
    abbrev C : Clip
    C = record { first = a; count = m; from = f; to = e }

    -- neither the first nor the last
    between_is : (k : ℕ) → 1 < k → k + 1 < m → token_at ks t (a + k) ≡ clip_at ks t C k
    unfolding token_at text_at clip_at clip_from clip_to between
    between_is k h g = rw (ne_eqb k 1 (λ z. omega arith), ne_eqb (k + 1) m (λ z. omega arith))

    -- the last, where it is not the first
    last_is : (k : ℕ) → 1 < k → k + 1 ≡ m → Closed t (start_at ks (a + k)) (end_at ks (a + k)) e
        → tok (kind_at ks (a + k)) (cut_end (txt ") ") (text_at ks t (a + k))) ≡ clip_at ks t C k
    unfolding text_at clip_at clip_from clip_to between
    last_is k h g d = rw (ne_eqb k 1 (λ z. omega arith), eq-eqb (k + 1) m g) (ap (tok (kind_at ks (a + k))) (sym d.text))

    -- the first, where it is not the last
    first_is_lem : 2 < m → Opened t (start_at ks (a + 1)) (end_at ks (a + 1)) f
        → tok (kind_at ks (a + 1)) (trim_start (txt " (") (text_at ks t (a + 1))) ≡ clip_at ks t C 1
    unfolding text_at clip_at clip_from clip_to between
    first_is_lem h o = rw (ne_eqb (1 + 1) m (λ z. omega arith)) (ap (tok (kind_at ks (a + 1))) (sym o.text))

    -- the first and last
    only_is : 2 ≡ m → Opened t (start_at ks (a + 1)) (end_at ks (a + 1)) f → Closed t f (end_at ks (a + 1)) e
        → tok (kind_at ks (a + 1)) (cut_end (txt ") ") (trim_start (txt " (") (text_at ks t (a + 1)))) ≡ clip_at ks t C 1
    unfolding text_at clip_at clip_from clip_to between
    only_is h o d = rw (eq-eqb (1 + 1) m h) (ap (tok (kind_at ks (a + 1))) (ap (cut_end (txt ") ")) (sym o.text) ∙ sym d.text))

    -- those behind the first
    behind_is : (j k : ℕ) → 1 < k → k + suc j ≡ m → Closed t (start_at ks (a + (m - 1))) (end_at ks (a + (m - 1))) e
        → cut_last (map (token_at ks t) (range (a + k) (suc j))) ≡ map (clip_at ks t C) (range k (suc j))
    unfolding range cut_last token_at
    behind_is zero k h g d =
        let p : m - 1 ≡ k = omega arith in
        ap (λ (u : Token). u ∷ []) (last_is k h (omega arith) (rw p at d))
    behind_is (suc j) k h g d =
        let p : a + k + 1 ≡ a + (k + 1) = omega arith in
        ap₂ ◌∷◌ (between_is k h (omega arith)) (
        subst (λ (x : ℕ). cut_last (map (token_at ks t) (range x (suc j))) ≡ map (clip_at ks t C) (range (k + 1) (suc j))) (sym p)
        (behind_is j (k + 1) (omega arith) (omega arith) d))

    trimmed_is : (j : ℕ) → suc (suc j) ≡ m → Opened t (start_at ks (a + 1)) (end_at ks (a + 1)) f → Closed t (clip_from ks C (m - 1)) (end_at ks (a + (m - 1))) e
        → cut_last (trim_first (tail (map (token_at ks t) (range a (suc (suc j)))))) ≡ map (clip_at ks t C) (range 1 (suc j))
    unfolding range tail trim_first cut_last token_at clip_from
    trimmed_is zero g o d =
        let p : m - 1 ≡ 1 = omega arith in
        ap (λ (u : Token). u ∷ []) (only_is (omega arith) o (rw p at d))
    trimmed_is (suc i) g o d =
        let p : a + 1 + 1 ≡ a + 2 = omega arith in
        let q = subst (λ s. Closed t s (end_at ks (a + (m - 1))) e) (sym (from_other ks C (m - 1) (start_at ks (a + (m - 1))) (λ z. omega arith) refl)) d in
        ap₂ ◌∷◌ (first_is_lem (omega arith) o) (
        subst (λ (x : ℕ). cut_last (map (token_at ks t) (range x (suc i))) ≡ map (clip_at ks t C) (range 2 (suc i))) (sym p)
        (behind_is i 2 (omega arith) (omega arith) q))

  module _ (a n m : ℕ) (before : m ≡ length (before_goto (tokens_in ks t a n))) where
    -- the tokens before `goto`, trimmed
    abbrev trims : List Token → List Token
    trims ts = only has_text (cut_last (trim_first (tail ts)))

    before_trims : (l : ℕ) → l ≡ m → cond_of (tokens_in ks t a n) ≡ trims (tokens_in ks t a l)
    unfolding cond_of has_text
    before_trims l e = ap trims (before_is a n ∙ ap (tokens_in ks t a) (sym before ∙ sym e))

    -- too few tokens for a condition
    few : (l : ℕ) → l < 2 → trims (tokens_in ks t a l) ≡ clip ks t (record { first = a; count = 0; from = 0; to = 0 })
    unfolding only cut_last trim_first tail tokens_in range clip texts
    few zero h = refl
    few (suc zero) h = refl
    few (suc (suc l)) h = absurd (omega arith)

    pub condition_none : m < 2 → clip ks t (record { first = a; count = 0; from = 0; to = 0 }) ≡ cond_of (tokens_in ks t a n)
    condition_none h = sym (before_trims m refl ∙ few m h)

    pub condition_is : (f e s x y z : ℕ) → 2 ≤ m → x ≡ start_at ks (a + 1) → y ≡ end_at ks (a + 1) → Opened t x y f
        → s ≡ clip_from ks (record { first = a; count = m; from = f; to = 0 }) (m - 1) → z ≡ end_at ks (a + (m - 1)) → Closed t s z e
        → clip ks t (record { first = a; count = m; from = f; to = e }) ≡ cond_of (tokens_in ks t a n)
    unfolding clip texts tokens_in clip_from
    condition_is f e s x y z h p q o u v d =
        let i : suc (suc (m - 2)) ≡ m = omega arith in
        let j : suc (m - 2) ≡ m - 1 = omega arith in
        sym (before_trims (suc (suc (m - 2))) i ∙ ap (only has_text) (trimmed_is a m f e (m - 2) i (rw (← p, ← q) o) (rw (← u, ← v) d))
        ∙ ap (λ (k : ℕ). only has_text (map (clip_at ks t (record { first = a; count = m; from = f; to = e })) (range 1 k))) j)
