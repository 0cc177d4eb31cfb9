-- Where the ends of a jump's tokens rise, those of its condition do, and its texts are one range: a token's bytes end where those of the next begin.
use mathlib.Core.Path.{◌≡◌, refl, sym, ap, ap₂, ◌∙◌}
use mathlib.Core.List.{List, [], ◌∷◌, ◌++◌, map, append-nil}
use Prim.Native.Nat.{ℕ, zero, suc, ◌+◌, ◌-◌, ◌≤◌, ◌<◌}
use native.Mathlib.Decide.{ℕ_discrete}
use native.Mathlib.Omega.{arith}
use lib.ListN.{length}
use Rattle.definition.specs.Words.{part}
use Rattle.definition.specs.Texts.{txt}
use Rattle.definition.specs.Lists.{range, only}
use Rattle.definition.specs.Tokens.{Token, keyword, text_of}
use Rattle.definition.specs.Sorts.{is_tok}
use Rattle.definition.specs.Negate.{before_goto}
use Rattle.definition.proofs.Bools.{by_cond}
use Rattle.sheet.specs.Buffers.{start_at, end_at, token_at, tokens_in}
use Rattle.sheet.specs.Ranges.{between}
use Rattle.clips.specs.declared.clip.Clip.{Clip}
use Rattle.clips.specs.Clip.{clip_from, clip_to, clip_at, has_text, texts, clip, Rises, Orderly, Opened, Closed}
use Rattle.clips.proofs.Ranges.{between_append}
use Rattle.clips.proofs.Clips.{from_first, from_other, to_last, to_other, clip_chain, text_none}

-- ---- one range
text_texts : (us : List Token) → text_of (only has_text us) ≡ text_of us
unfolding only text_of
text_texts [] = refl
text_texts (u ∷ us) =
    let i = text_texts us in
    by_cond (λ (z : List Token). text_of z ≡ u.text ++ text_of us) (has_text u) (λ e. ap (λ (s : List ℕ). u.text ++ s) i)
    (λ e. i ∙ ap (λ (s : List ℕ). s ++ text_of us) (sym (text_none u e)))

module _ (ks t : List ℕ) (c : Clip) (rises : (k : ℕ) → 1 ≤ k → k < c.count → clip_from ks c k ≤ clip_to ks c k) where
  -- the tokens from place k to j places behind it
  pub record Span (k j : ℕ) : Type 0 where
    pub low : clip_from ks c k ≤ clip_to ks c (k + j)
    pub text : text_of (map (clip_at ks t c) (range k (suc j))) ≡ between t (clip_from ks c k) (clip_to ks c (k + j))

  span : (j k : ℕ) → 1 ≤ k → k + j < c.count → Span k j
  unfolding range text_of clip_at
  span zero k g h =
      let p : k + 0 ≡ k = omega arith in
      record {
        low = rw p (rises k g (omega arith));
        text = rw p (append-nil (between t (clip_from ks c k) (clip_to ks c k)));
      }
  span (suc j) k g h =
      let p : k + suc j ≡ k + 1 + j = omega arith in
      let i = span j (k + 1) (omega arith) (omega arith) in
      let r = rises k g (omega arith) in
      let e = clip_chain ks c k g (omega arith) in
      let l = i.low in
      let m : clip_to ks c k ≤ clip_to ks c (k + 1 + j) = omega arith in
      record {
        low = rw p (omega arith);
        text = rw p
            (ap (λ (s : List ℕ). between t (clip_from ks c k) (clip_to ks c k) ++ s) (i.text ∙ ap (λ (n : ℕ). between t n (clip_to ks c (k + 1 + j))) (sym e))
            ∙ between_append t (clip_from ks c k) (clip_to ks c k) (clip_to ks c (k + 1 + j)) r m);
      }

  pub whole_is : 2 ≤ c.count → text_of (clip ks t c) ≡ between t c.from c.to
  unfolding clip texts
  whole_is h =
      let n : c.count - 1 ≡ suc (c.count - 2) = omega arith in
      let s = span (c.count - 2) 1 (omega arith) (omega arith) in
      let f = from_first ks c 1 refl in
      let e = to_last ks c (1 + (c.count - 2)) (omega arith) in
      text_texts (map (clip_at ks t c) (range 1 (c.count - 1))) ∙ ap (λ (z : ℕ). text_of (map (clip_at ks t c) (range 1 z))) n ∙ s.text
      ∙ ap₂ (between t) (sym f) (sym e)

-- ---- the condition that is found
module _ (ks t : List ℕ) (a n : ℕ) where
  before_most : (a n : ℕ) → length (before_goto (tokens_in ks t a n)) ≤ n
  unfolding before_goto tokens_in range
  before_most a zero = omega arith
  before_most a (suc n) =
      let i = before_most (a + 1) n in
      by_cond (λ (z : List Token). length z ≤ suc n) (is_tok (keyword (txt "goto")) (token_at ks t a)) (λ e. omega arith) (λ e. omega arith)

  pub orderly_none : Orderly ks t (record { first = a; count = 0; from = 0; to = 0 })
  unfolding clip texts range only text_of between part
  orderly_none = record { each = λ k g h. absurd (omega arith); whole = refl }

  module _ (m f e s x y z : ℕ) (before : m ≡ length (before_goto (tokens_in ks t a n))) (many : 2 ≤ m) (px : x ≡ start_at ks (a + 1)) (py : y ≡ end_at ks (a + 1))
      (opened : Opened t x y f) (ps : s ≡ clip_from ks (record { first = a; count = m; from = f; to = 0 }) (m - 1)) (pz : z ≡ end_at ks (a + (m - 1)))
      (closed : Closed t s z e) (rises : Rises ks a n) where
    abbrev C : Clip
    C = record { first = a; count = m; from = f; to = e }

    -- each token begins before its end in the line
    low : (k : ℕ) → 1 ≤ k → k < m → clip_from ks C k ≤ end_at ks (a + k)
    low k g h =
        let b = before_most a n in
        let r = rises.each k (omega arith) in
        go (ℕ_discrete k 1) r
      where
        go : Dec (k ≡ 1) → start_at ks (a + k) ≤ end_at ks (a + k) → clip_from ks C k ≤ end_at ks (a + k)
        go (yes q) r =
            let u = from_first ks C k q in
            let v : start_at ks (a + k) ≡ start_at ks (a + 1) = ap (λ (j : ℕ). start_at ks (a + j)) q in
            let w : end_at ks (a + k) ≡ end_at ks (a + 1) = ap (λ (j : ℕ). end_at ks (a + j)) q in
            let i = opened.within (omega arith) in
            omega arith
        go (no q) r = let u = from_other ks C k (start_at ks (a + k)) q refl in omega arith

    same_from : s ≡ clip_from ks C (m - 1)
    unfolding clip_from
    same_from = ps

    each_is : (k : ℕ) → 1 ≤ k → k < m → clip_from ks C k ≤ clip_to ks C k
    each_is k g h = go (ℕ_discrete (k + 1) m)
      where
        go : Dec (k + 1 ≡ m) → clip_from ks C k ≤ clip_to ks C k
        go (yes q) =
            let u = to_last ks C k q in
            let j : m - 1 ≡ k = omega arith in
            let v : clip_from ks C (m - 1) ≡ clip_from ks C k = ap (clip_from ks C) j in
            let w : end_at ks (a + (m - 1)) ≡ end_at ks (a + k) = ap (λ (i : ℕ). end_at ks (a + i)) j in
            let l = low k g h in
            let p = same_from in
            let i = closed.within (omega arith) in
            omega arith
        go (no q) =
            let u = to_other ks C k (end_at ks (a + k)) q refl in
            let l = low k g h in
            omega arith

    pub orderly_is : Orderly ks t C
    orderly_is = record { each = each_is; whole = whole_is ks t C each_is many }
