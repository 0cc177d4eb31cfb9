-- What `negate` asks of a condition is what was looked at: an empty token neither counts nor is marked, and where one token is marked it is the one
-- that is flipped.
use mathlib.Core.Path.{◌≡◌, refl, sym, ap, ap₂, ◌∙◌}
use mathlib.Core.Bool.{Bool, true, false, not, cond, ◌&&◌, true≢false}
use mathlib.Core.List.{List, [], ◌∷◌, ◌++◌, map}
use Prim.Native.Nat.{ℕ, zero, suc, ◌+◌, ◌-◌, ◌≤◌, ◌<◌}
use native.Mathlib.Omega.{arith}
use borrow.Author.Tests.{eq-eqb, ne_eqb, eqb-true}
use lib.Dec.{eqb}
use Rattle.definition.specs.Texts.{txt, is_empty, begins, contains, replace}
use Rattle.definition.specs.Lists.{any, count, only, range}
use Rattle.definition.specs.Tokens.{Token, tok, punct}
use Rattle.definition.specs.Negate.{Flip, flips, flip_in, compares, comparisons, flip_at, flippable, negate}
use Rattle.definition.proofs.Bools.{by_test, by_cond, both_true}
use Rattle.definition.proofs.ListLaws.{Each, ◌▸◌, end, bit, count_cons}
use Rattle.sheet.specs.Ranges.{between}
use Rattle.clips.specs.declared.clip.Clip.{Clip}
use Rattle.clips.specs.Clip.{clip_at, has_text, texts, clip, Orderly}
use Rattle.clips.proofs.Clips.{text_none}
use Rattle.comparisons.specs.declared.looks.Look.{Look}
use Rattle.comparisons.specs.Looks.{counted, opened, shut, marked, unseen, stepped, looked}
use Rattle.comparisons.proofs.Looking.{step_hits, counted_none}
use Rattle.negate.specs.Flipping.{flip_of, flipped}

abbrev marks : List Bool → ℕ
marks bs = count (λ b. b) bs

-- ---- a token
module _ (u : Token) where
  marked_kind : (o c : ℕ) → marked o c u ≡ true → u.kind ≡ 6
  unfolding marked
  marked_kind o c h = eqb-true u.kind 6 (both_true (eqb u.kind 6) (eqb (opened o u) (shut c u)) (both_true (eqb u.kind 6 && eqb (opened o u) (shut c u)) (compares u.text) h).0).0

  -- without text
  module _ (none : u.text ≡ []) where
    marked_none : (o c : ℕ) → marked o c u ≡ false
    unfolding marked compares flips any contains begins
    marked_none o c = ap (λ (s : List ℕ). eqb u.kind 6 && eqb (opened o u) (shut c u) && compares s) none ∙ go (eqb u.kind 6) (eqb (opened o u) (shut c u))
      where
        go : (p q : Bool) → (p && q && false) ≡ false
        go true true = refl
        go true false = refl
        go false q = refl

  comparisons_cons : (o c : ℕ) (us : List Token) → comparisons o c (u ∷ us) ≡ marked o c u ∷ comparisons (opened o u) (shut c u) us
  unfolding comparisons marked counted
  comparisons_cons o c us = go (o + count (eqb 40) u.text) (c + count (eqb 41) u.text) (eqb u.kind 6)
    where
      go : (o' c' : ℕ) (b : Bool) → cond b ((eqb o' c' && compares u.text) ∷ comparisons o' c' us) (false ∷ comparisons o c us)
          ≡ (b && eqb (cond b o' o) (cond b c' c) && compares u.text) ∷ comparisons (cond b o' o) (cond b c' c) us
      go o' c' true = refl
      go o' c' false = refl

  marks_cons : (o c : ℕ) (us : List Token) → marks (comparisons o c (u ∷ us)) ≡ bit (marked o c u) + marks (comparisons (opened o u) (shut c u) us)
  marks_cons o c us = ap marks (comparisons_cons o c us) ∙ count_cons (λ b. b) (marked o c u) (comparisons (opened o u) (shut c u) us)

-- ---- all tokens
step_place : (l : Look) (k : ℕ) (u : Token) (m : Bool) → marked l.opens l.closes u ≡ m → (stepped l k u).place ≡ cond m k l.place
unfolding stepped
step_place l k u m e = rw e

hits_are : (us : List Token) (l : Look) (k : ℕ) → (looked l k us).hits ≡ l.hits + marks (comparisons l.opens l.closes us)
unfolding looked comparisons count stepped
hits_are [] l k = omega arith
hits_are (u ∷ us) l k = omega (arith, hits_are us (stepped l k u) (k + 1), marks_cons u l.opens l.closes us, step_hits l k u)

place_kept : (us : List Token) (l : Look) (k : ℕ) → marks (comparisons l.opens l.closes us) ≡ 0 → (looked l k us).place ≡ l.place
unfolding looked stepped
place_kept [] l k h = refl
place_kept (u ∷ us) l k h =
    let i = place_kept us (stepped l k u) (k + 1) in
    let s = marks_cons u l.opens l.closes us in
    by_test (marked l.opens l.closes u) (λ e. absurd (omega (arith, ap bit e))) (λ e. i (omega arith) ∙ step_place l k u false e)

-- one marked token is the one that is flipped
module _ (f : ℕ → Token) where
  pub flipped_there : (p k : ℕ) → k ≡ p → flipped f p k ≡ flip_of (f k)
  unfolding flipped
  flipped_there p k e = rw (eq-eqb k p e)

  pub flipped_other : (p k : ℕ) → (k ≡ p → ⊥) → flipped f p k ≡ f k
  unfolding flipped
  flipped_other p k n = rw (ne_eqb k p n)

  others_stay : (n k p : ℕ) → p < k → map (flipped f p) (range k n) ≡ map f (range k n)
  unfolding range
  others_stay zero k p h = refl
  others_stay (suc n) k p h = ap₂ ◌∷◌ (flipped_other p k (λ e. omega arith)) (others_stay n (k + 1) p (omega arith))

  pub record One (n k : ℕ) (l : Look) (p : ℕ) : Type 0 where
    pub after : k ≤ p
    pub same : flip_at (comparisons l.opens l.closes (map f (range k n))) (map f (range k n)) ≡ map (flipped f p) (range k n)

  one_here : (n k p : ℕ) (l : Look) → marked l.opens l.closes (f k) ≡ true → p ≡ k → One (suc n) k l p
  unfolding range flip_at flip_of
  one_here n k p l e q =
      let here : tok (f k).kind (flip_in flips (f k).text) ≡ flipped f p k =
      ap (λ (x : ℕ). tok x (flip_in flips (f k).text)) (marked_kind (f k) l.opens l.closes e) ∙ sym (flipped_there p k (sym q)) in
      record {
        after = omega arith;
        same = ap (λ (bs : List Bool). flip_at bs (f k ∷ map f (range (k + 1) n))) (comparisons_cons (f k) l.opens l.closes (map f (range (k + 1) n)) ∙ ap (λ (b : Bool). b ∷ comparisons (opened l.opens (f k)) (shut l.closes (f k)) (map f (range (k + 1) n))) e)
            ∙ ap₂ ◌∷◌ here (sym (others_stay n (k + 1) p (omega arith)));
      }

  one_later : (n k p : ℕ) (l : Look) → marked l.opens l.closes (f k) ≡ false → One n (k + 1) (stepped l k (f k)) p → One (suc n) k l p
  unfolding range flip_at stepped
  one_later n k p l e o = record {
    after = omega (arith, o.after);
    same =
        let a = o.after in
        ap (λ (bs : List Bool). flip_at bs (f k ∷ map f (range (k + 1) n))) (comparisons_cons (f k) l.opens l.closes (map f (range (k + 1) n)) ∙ ap (λ (b : Bool). b ∷ comparisons (opened l.opens (f k)) (shut l.closes (f k)) (map f (range (k + 1) n))) e)
        ∙ ap₂ ◌∷◌ (sym (flipped_other p k (λ z. omega arith))) o.same;
  }

  flips_one : (n k : ℕ) (l : Look) → marks (comparisons l.opens l.closes (map f (range k n))) ≡ 1 → One n k l (looked l k (map f (range k n))).place
  unfolding range looked comparisons count stepped
  flips_one zero k l h = absurd (omega arith)
  flips_one (suc n) k l h =
      let us = map f (range (k + 1) n) in
      let i = flips_one n (k + 1) (stepped l k (f k)) in
      let s = marks_cons (f k) l.opens l.closes us in
      by_test (marked l.opens l.closes (f k))
      (λ e. one_here n k _ l e (place_kept us (stepped l k (f k)) (k + 1) (omega (arith, ap bit e)) ∙ step_place l k (f k) true e))
      (λ e. one_later n k _ l e (i (omega (arith, ap bit e))))

-- ---- empty tokens
-- a text that is flipped is empty where it was
replace_empty : (w v s : List ℕ) → is_empty v ≡ false → is_empty (replace w v s) ≡ is_empty s
unfolding is_empty replace
replace_empty w v [] h = refl
replace_empty w [] (b ∷ s) h = absurd (true≢false h)
replace_empty w (a ∷ v) (b ∷ s) h = by_cond (λ z. is_empty z ≡ false) (begins w (b ∷ s)) (λ e. refl) (λ e. refl)

flips_empty : (ps : List Flip) (s : List ℕ) → Each (λ p. is_empty p.to ≡ false) ps → is_empty (flip_in ps s) ≡ is_empty s
unfolding flip_in
flips_empty [] s h = refl
flips_empty (p ∷ ps) s (q ▸ h) =
    let i = flips_empty ps s h in
    by_cond (λ z. is_empty z ≡ is_empty s) (contains p.from s) (λ e. replace_empty p.from p.to s q) (λ e. i)

pub flip_empty : (s : List ℕ) → is_empty (flip_in flips s) ≡ is_empty s
unfolding flips is_empty
flip_empty s = flips_empty flips s (refl ▸ refl ▸ refl ▸ refl ▸ refl ▸ refl ▸ end)

flip_text : (u : Token) → has_text (tok u.kind (flip_in flips u.text)) ≡ has_text u
unfolding has_text
flip_text u = ap not (flip_empty u.text)

marks_texts : (us : List Token) (o c : ℕ) → marks (comparisons o c (only has_text us)) ≡ marks (comparisons o c us)
unfolding only
marks_texts [] o c = refl
marks_texts (u ∷ us) o c =
    let i = marks_texts us (opened o u) (shut c u) in
    let s = marks_cons u o c us in
    by_cond (λ (z : List Token). marks (comparisons o c z) ≡ marks (comparisons o c (u ∷ us))) (has_text u)
    (λ e. omega (arith, marks_cons u o c (only has_text us)))
    (λ e.
    let n = text_none u e in
    let j : marks (comparisons o c (only has_text us)) ≡ marks (comparisons o c us) = rw (counted_none u 40 n o, counted_none u 41 n c) at i in
    let k : marks (comparisons (opened o u) (shut c u) us) ≡ marks (comparisons o c us) = rw (counted_none u 40 n o, counted_none u 41 n c) in
    omega (arith, ap bit (marked_none u n o c)))

flip_cons : (u : Token) (us : List Token) (o c : ℕ) (b : Bool) → marked o c u ≡ b
    → flip_at (comparisons o c (u ∷ us)) (u ∷ us) ≡ cond b (tok u.kind (flip_in flips u.text) ∷ us) (u ∷ flip_at (comparisons (opened o u) (shut c u) us) us)
unfolding flip_at
flip_cons u us o c true e = rw (comparisons_cons u o c us, e)
flip_cons u us o c false e = rw (comparisons_cons u o c us, e)

only_cons : (u : Token) (us : List Token) (b : Bool) → has_text u ≡ b → only has_text (u ∷ us) ≡ cond b (u ∷ only has_text us) (only has_text us)
unfolding only
only_cons u us b e = rw e

flip_texts : (us : List Token) (o c : ℕ) → flip_at (comparisons o c (only has_text us)) (only has_text us) ≡ only has_text (flip_at (comparisons o c us) us)
unfolding only flip_at comparisons
flip_texts [] o c = refl
flip_texts (u ∷ us) o c =
    let i = flip_texts us (opened o u) (shut c u) in
    let v = tok u.kind (flip_in flips u.text) in
    let rest = flip_at (comparisons (opened o u) (shut c u) us) us in
    by_test (has_text u)
    (λ h. ap (λ (z : List Token). flip_at (comparisons o c z) z) (only_cons u us true h)
    ∙ by_test (marked o c u)
    (λ m. flip_cons u (only has_text us) o c true m ∙ sym (ap (only has_text) (flip_cons u us o c true m) ∙ only_cons v us true (flip_text u ∙ h)))
    (λ m. flip_cons u (only has_text us) o c false m ∙ ap (λ (z : List Token). u ∷ z) i ∙ sym (ap (only has_text) (flip_cons u us o c false m) ∙ only_cons u rest true h)))
    (λ h.
    let n = text_none u h in
    let j : flip_at (comparisons o c (only has_text us)) (only has_text us) ≡ only has_text (flip_at (comparisons o c us) us) = rw (counted_none u 40 n o, counted_none u 41 n c) at i in
    let k : flip_at (comparisons o c us) us ≡ flip_at (comparisons (opened o u) (shut c u) us) us = rw (counted_none u 40 n o, counted_none u 41 n c) in
    ap (λ (z : List Token). flip_at (comparisons o c z) z) (only_cons u us false h) ∙ j ∙ ap (only has_text) k
    ∙ sym (ap (only has_text) (flip_cons u us o c false (marked_none u n o c)) ∙ only_cons u rest false h))

-- ---- the negation
module _ (ks t : List ℕ) (c : Clip) (l : Look) (b : Bool) (orderly : Orderly ks t c)
    (seen_all : l ≡ looked unseen 1 (map (clip_at ks t c) (range 1 (c.count - 1))))
    (test : b ≡ (eqb l.hits 1 && not (contains (txt "&&") (between t c.from c.to)) && not (contains (txt "||") (between t c.from c.to)))) where
  abbrev all : List Token
  all = map (clip_at ks t c) (range 1 (c.count - 1))

  hits_all : l.hits ≡ marks (comparisons 0 0 all)
  unfolding unseen
  hits_all = ap (λ (z : Look). z.hits) seen_all ∙ hits_are all unseen 1 ∙ omega arith

  flippable_is : flippable (clip ks t c) ≡ b
  unfolding flippable clip texts
  flippable_is = rw (marks_texts all 0 0, ← hits_all, orderly.whole) (sym test)

  pub negate_wraps : b ≡ false → negate (clip ks t c) ≡ punct (txt "!(") ∷ (clip ks t c ++ (punct (txt ")") ∷ []))
  unfolding negate
  negate_wraps e = rw (flippable_is, e)

  pub negate_flips : b ≡ true → negate (clip ks t c) ≡ texts (flipped (clip_at ks t c) l.place) (c.count - 1)
  unfolding negate clip texts unseen
  negate_flips e =
      let s = between t c.from c.to in
      let one : l.hits ≡ 1 = eqb-true l.hits 1 (both_true (eqb l.hits 1) (not (contains (txt "&&") s)) (both_true (eqb l.hits 1 && not (contains (txt "&&") s)) (not (contains (txt "||") s)) (sym test ∙ e)).0).0 in
      let o = flips_one (clip_at ks t c) (c.count - 1) 1 unseen (sym hits_all ∙ one) in
      rw (flippable_is, e) (flip_texts all 0 0 ∙ ap (only has_text) (o.same ∙ ap (λ (z : Look). map (flipped (clip_at ks t c) z.place) (range 1 (c.count - 1))) (sym seen_all)))
