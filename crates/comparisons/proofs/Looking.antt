-- A condition looked at token by token: the parentheses and the comparisons go on by one token, and as they are bytes of the condition they can be
-- counted.
use mathlib.Core.Path.{◌≡◌, refl, sym, ap, subst⁻¹, ◌∙◌}
use mathlib.Core.Bool.{Bool, true, false, cond, ◌&&◌}
use mathlib.Core.List.{List, [], map}
use Prim.Native.Nat.{min, ℕ, suc, ◌+◌, ◌-◌, ◌≤◌, ◌<◌}
use native.Mathlib.Omega.{arith}
use borrow.Author.Tests.{eq-eqb, ne_eqb}
use lib.Dec.{eqb}
use lib.ListN.{length}
use Rattle.definition.specs.Lists.{count, range}
use Rattle.definition.specs.Tokens.{Token}
use Rattle.definition.specs.Negate.{compares}
use Rattle.definition.proofs.Bools.{by_cond}
use Rattle.definition.proofs.ListLaws.{bit, bit_le, count_length}
use Rattle.sheet.specs.Buffers.{kind_at}
use Rattle.sheet.specs.Ranges.{between}
use Rattle.sheet.proofs.Reading.{least_le, length_between}
use Rattle.clips.specs.declared.clip.Clip.{Clip}
use Rattle.clips.specs.Clip.{clip_from, clip_to, clip_at, Orderly}
use Rattle.clips.proofs.Clips.{from_first, clip_chain}
use Rattle.comparisons.specs.declared.looks.Look.{Look}
use Rattle.comparisons.specs.Looks.{counted, opened, shut, marked, unseen, stepped, looked, Within}

-- ---- a token
module _ (u : Token) (b : ℕ) where
  counted_punct : (o : ℕ) → u.kind ≡ 6 → counted b o u ≡ o + count (eqb b) u.text
  unfolding counted
  counted_punct o e = rw (eq-eqb u.kind 6 e)

  counted_most : (o : ℕ) → counted b o u ≤ o + length u.text
  unfolding counted
  counted_most o = by_cond (λ n. n ≤ o + length u.text) (eqb u.kind 6) (λ e. omega (arith, count_length (eqb b) u.text)) (λ e. omega arith)

  pub counted_none : u.text ≡ [] → (o : ℕ) → counted b o u ≡ o
  unfolding counted count
  counted_none none o = by_cond (λ n. n ≡ o) (eqb u.kind 6) (λ e. ap (λ (s : List ℕ). o + count (eqb b) s) none ∙ omega arith) (λ e. refl)

module _ (u : Token) where
  marked_punct : (o c : ℕ) → u.kind ≡ 6 → marked o c u ≡ (eqb (opened o u) (shut c u) && compares u.text)
  unfolding marked
  marked_punct o c e = rw (eq-eqb u.kind 6 e)

-- ---- a step
module _ (l : Look) (k : ℕ) (u : Token) where
  step_is : (o c : ℕ) (m : Bool) → opened l.opens u ≡ o → shut l.closes u ≡ c → marked l.opens l.closes u ≡ m
      → record { opens = o; closes = c; hits = cond m (l.hits + 1) l.hits; place = cond m k l.place } ≡ stepped l k u
  unfolding stepped
  step_is o c m p q e = rw (p, q, e)

  pub step_hits : (stepped l k u).hits ≡ l.hits + bit (marked l.opens l.closes u)
  unfolding stepped
  step_hits = go (marked l.opens l.closes u)
    where
      go : (m : Bool) → cond m (l.hits + 1) l.hits ≡ l.hits + bit m
      go true = refl
      go false = omega arith

  -- the parentheses behind it
  step_counts : ((stepped l k u).opens ≡ opened l.opens u) × ((stepped l k u).closes ≡ shut l.closes u)
  unfolding stepped
  step_counts = (refl, refl)

-- ---- the code's steps
module _ (ks t : List ℕ) (c : Clip) (k : ℕ) (l : Look) where
  pub step_other : (x : ℕ) → x ≡ kind_at ks (c.first + k) → (x ≡ 6 → ⊥) → l ≡ stepped l k (clip_at ks t c k)
  unfolding stepped counted marked clip_at
  step_other x e n = rw (← e, ne_eqb x 6 n)

  module _ (x f e n m : ℕ) (kind : x ≡ kind_at ks (c.first + k)) (six : x ≡ 6) (from : f ≡ clip_from ks c k) (to : e ≡ clip_to ks c k)
      (opens : n ≡ count (eqb 40) (between t f e)) (closes : m ≡ count (eqb 41) (between t f e)) where
    abbrev u : Token
    u = clip_at ks t c k

    u_kind : u.kind ≡ 6
    unfolding clip_at
    u_kind = sym kind ∙ six

    u_text : u.text ≡ between t f e
    unfolding clip_at
    u_text = rw (from, to)

    u_counted : (b o i : ℕ) → i ≡ count (eqb b) (between t f e) → counted b o u ≡ o + i
    u_counted b o i q = counted_punct u b o u_kind ∙ ap (λ (s : List ℕ). o + count (eqb b) s) u_text ∙ ap (λ (z : ℕ). o + z) (sym q)

    u_marked : marked l.opens l.closes u ≡ (eqb (l.opens + n) (l.closes + m) && compares (between t f e))
    u_marked = marked_punct u l.opens l.closes u_kind ∙ rw (u_counted 40 l.opens n opens, u_counted 41 l.closes m closes, u_text)

    pub step_hit : (b : Bool) → l.opens + n ≡ l.closes + m → b ≡ compares (between t f e) → b ≡ true
        → record { opens = l.opens + n; closes = l.closes + m; hits = l.hits + 1; place = k } ≡ stepped l k u
    step_hit b h p z = step_is l k u (l.opens + n) (l.closes + m) true (u_counted 40 l.opens n opens) (u_counted 41 l.closes m closes) (u_marked ∙ rw (eq-eqb (l.opens + n) (l.closes + m) h, ← p, z))

    pub step_dull : (b : Bool) → l.opens + n ≡ l.closes + m → b ≡ compares (between t f e) → b ≡ false
        → record { opens = l.opens + n; closes = l.closes + m; hits = l.hits; place = l.place } ≡ stepped l k u
    step_dull b h p z = step_is l k u (l.opens + n) (l.closes + m) false (u_counted 40 l.opens n opens) (u_counted 41 l.closes m closes) (u_marked ∙ rw (eq-eqb (l.opens + n) (l.closes + m) h, ← p, z))

    pub step_inside : (l.opens + n ≡ l.closes + m → ⊥)
        → record { opens = l.opens + n; closes = l.closes + m; hits = l.hits; place = l.place } ≡ stepped l k u
    step_inside h = step_is l k u (l.opens + n) (l.closes + m) false (u_counted 40 l.opens n opens) (u_counted 41 l.closes m closes) (u_marked ∙ rw (ne_eqb (l.opens + n) (l.closes + m) h))

-- ---- the parentheses can be counted
module _ (ks t : List ℕ) (c : Clip) where
  pub within_fits : (k : ℕ) (l : Look) (f e b n : ℕ) → Within ks c k l → f ≡ clip_from ks c k → e ≡ clip_to ks c k → n ≡ count (eqb b) (between t f e)
      → (l.opens + n ≤ e) × (l.closes + n ≤ e)
  within_fits k l f e b n w p q h =
      let m = count_length (eqb b) (between t f e) in
      let s = length_between t f e in
      let z = (least_le e (length t)).0 in
      let x = w.opens in
      let y = w.closes in
      let r = w.rises in
      (omega arith, omega arith)

  text_length : (k : ℕ) → length (clip_at ks t c k).text ≡ min (clip_to ks c k) (length t) - clip_from ks c k
  unfolding clip_at
  text_length k = length_between t (clip_from ks c k) (clip_to ks c k)

  pub within_start : Orderly ks t c → 1 < c.count → Within ks c 1 unseen
  unfolding unseen
  within_start o h =
      let e = from_first ks c 1 refl in
      record { opens = omega arith; closes = omega arith; hits = omega arith; rises = o.each 1 (omega arith) h }

  within_turn : (k : ℕ) (l : Look) → Orderly ks t c → 1 ≤ k → k + 1 < c.count → Within ks c k l → Within ks c (k + 1) (stepped l k (clip_at ks t c k))
  within_turn k l o g h w =
      let u = clip_at ks t c k in
      let s = text_length k in
      let z = (least_le (clip_to ks c k) (length t)).0 in
      let e = clip_chain ks c k g h in
      let r = w.rises in
      record {
        opens = omega (arith, (step_counts l k u).0, counted_most u 40 l.opens, w.opens);
        closes = omega (arith, (step_counts l k u).1, counted_most u 41 l.closes, w.closes);
        hits = omega (arith, step_hits l k u, bit_le (marked l.opens l.closes u), w.hits);
        rises = o.each (k + 1) (omega arith) h;
      }

  pub within_next : (k : ℕ) (l r : Look) → Orderly ks t c → 1 ≤ k → Within ks c k l → r ≡ stepped l k (clip_at ks t c k) → k + 1 < c.count → Within ks c (k + 1) r
  within_next k l r o g w e h = subst⁻¹ (λ z. Within ks c (k + 1) z) e (within_turn k l o g h w)

  -- ---- the loop over them
  pub look_turn : (k : ℕ) (l r : Look) → k < c.count → r ≡ stepped l k (clip_at ks t c k)
      → looked l k (map (clip_at ks t c) (range k (c.count - k))) ≡ looked r (k + 1) (map (clip_at ks t c) (range (k + 1) (c.count - (k + 1))))
  unfolding looked range
  look_turn k l r h e = let p : c.count - k ≡ suc (c.count - (k + 1)) = omega arith in rw (p, e)

  pub look_end : (k : ℕ) (l : Look) → c.count ≤ k → looked l k (map (clip_at ks t c) (range k (c.count - k))) ≡ l
  unfolding looked range
  look_end k l h = let p : c.count - k ≡ 0 = omega arith in rw p
