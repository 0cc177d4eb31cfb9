-- What an accepted file gives lowering: names that are not empty, since their ranges lie inside the text and the text ends the file (4, 5);
-- starts that differ (6) and are below 2^64, since they are two words of four bytes.
use mathlib.Core.Path.{◌≡◌, refl, sym, ap, subst, ◌∙◌}
use mathlib.Core.Bool.{Bool, true, false, not, cond, and-false, true≢false, false≢true}
use mathlib.Core.List.{List, [], ◌∷◌, map-map}
use Prim.Native.Nat.{ℕ, zero, suc, ◌+◌, ◌*◌, ◌-◌, ◌≤◌, ◌<◌}
use native.Mathlib.Omega.{arith}
use lib.Dec.{eqb, ltb, leb}
use lib.ListN.{length, drop, length-take, length-drop}
use borrow.Author.Tests.{eqb-true, eqb-false, leb-true, ltb-true, not-true}
use Rattle.definition.specs.Edition.{Edition, Section, edition1, blocks, block_words, names}
use Rattle.definition.specs.Words.{four, word, long, part}
use Rattle.definition.specs.Lists.{all, range, all_below, distinct}
use Rattle.definition.specs.Contents.{contents, offset, size, text, place, block_long, name_word, text_at}
use Rattle.definition.specs.Shape.{bytes_of, adjoin, refused4}
use Rattle.definition.specs.References.{in_text, name_sound, refused5}
use Rattle.definition.specs.Meaning.{starts, refused6}
use Rattle.definition.specs.Read.{all_trees, block_at, name_at, read}
use Rattle.definition.specs.Offsets.{whole}
use Rattle.definition.specs.Lookup.{order}
use Rattle.definition.proofs.Bools.{both_true, is_true, by_test}
use Rattle.definition.proofs.ListLaws.{Each, end, ◌▸◌, all_each, each_drop, each_range}

-- ---- names
-- the last section holds bytes
unfoldable pub ends_with_text : List Section → Bool
ends_with_text [] = false
ends_with_text (t ∷ []) = eqb t.words 0
ends_with_text (t ∷ u ∷ us) = ends_with_text (u ∷ us)

pub edition1_text : ends_with_text edition1.sections ≡ true
unfolding ends_with_text edition1
edition1_text = refl

-- so the text ends the file
adjoin_end : (f : List ℕ) (from s : ℕ) (t : Section) (ts : List Section) → ends_with_text (t ∷ ts) ≡ true → adjoin f from s (t ∷ ts) ≡ true
    → offset f (s + length ts) + size f (s + length ts) ≡ length f
unfolding ends_with_text adjoin bytes_of
adjoin_end f from s t [] w h =
    let b = both_true (eqb (offset f s) from) (eqb (from + bytes_of t (size f s)) (length f)) h in
    let n : bytes_of t (size f s) ≡ size f s = ap (λ (b : Bool). cond b (size f s) (4 * (t.words * size f s))) w in
    let z : s + 0 ≡ s = omega arith in
    rw z (omega (arith, eqb-true (offset f s) from b.0, eqb-true (from + bytes_of t (size f s)) (length f) b.1))
adjoin_end f from s t (u ∷ us) w h =
    let b = both_true (eqb (offset f s) from) (adjoin f (from + bytes_of t (size f s)) (s + 1) (u ∷ us)) h in
    let z : s + suc (length us) ≡ s + 1 + length us = omega arith in
    rw z (adjoin_end f (from + bytes_of t (size f s)) (s + 1) u us w b.1)

text_ends : (E : Edition) (f : List ℕ) → ends_with_text E.sections ≡ true → adjoin f (contents E) 0 E.sections ≡ true → offset f (text E) + size f (text E) ≡ length f
unfolding text ends_with_text
text_ends E f w h = go E.sections w h
  where
    go : (ts : List Section) → ends_with_text ts ≡ true → adjoin f (contents E) 0 ts ≡ true → offset f (length ts - 1) + size f (length ts - 1) ≡ length f
    go [] w h = absurd (false≢true w)
    go (t ∷ ts) w h = let z : suc (length ts) - 1 ≡ 0 + length ts = omega arith in rw z (adjoin_end f (contents E) 0 t ts w h)

pub below_at : (n : ℕ) (p : ℕ → Bool) → all_below n p ≡ true → (i : ℕ) → i < n → p i ≡ true
unfolding all_below
below_at zero p h i l = absurd (omega arith)
below_at (suc n) p h i l =
    let b = both_true (all_below n p) (p n) h in
    let k = below_at n p b.0 i in
    by_test (eqb i n) (λ e. subst (λ (j : ℕ). p j ≡ true) (sym (eqb-true i n e)) b.1) (λ e. k (omega (arith, eqb-false i n e)))

-- ---- words
abbrev Byte : ℕ → Type 0
Byte b = ltb b 256 ≡ true

four_below : {f : List ℕ} → Each Byte f → four f < 4294967296
unfolding four
four_below end = omega arith
four_below (a ▸ end) = omega arith
four_below (a ▸ b ▸ end) = omega arith
four_below (a ▸ b ▸ c ▸ end) = omega arith
four_below (a ▸ b ▸ c ▸ d ▸ h) = omega (arith, ltb-true)

long_below : {f : List ℕ} → Each Byte f → (i : ℕ) → long f i < whole
unfolding long word
long_below h i = omega (arith, four_below (each_drop i h), four_below (each_drop (i + 4) h))

module _ (E : Edition) (f : List ℕ) where
  -- what the refusals test
  adjoins : refused4 E f ≡ false → adjoin f (contents E) 0 E.sections ≡ true
  unfolding refused4
  adjoins h = is_true (adjoin f (contents E) 0 E.sections) (λ e. true≢false (simp e at h))

  names_sound : refused5 E f ≡ false → all_below (size f names) (name_sound E f) ≡ true
  unfolding refused5
  names_sound h = is_true (all_below (size f names) (name_sound E f)) (λ e. true≢false (simp (e, and-false) at h))

  name_there : ends_with_text E.sections ≡ true → refused4 E f ≡ false → (i : ℕ) → name_sound E f i ≡ true → 1 ≤ length (name_at E f i).text
  unfolding name_sound in_text name_at text_at part
  name_there w r i h =
      let s = name_word f i 2 in
      let n = name_word f i 3 in
      let b = both_true (leb (s + n) (size f (text E))) (not (eqb n 0)) h in
      let inside : s + n ≤ size f (text E) = leb-true (s + n) (size f (text E)) b.0 in
      let some : n ≡ 0 → ⊥ = eqb-false n 0 (not-true (eqb n 0) b.1) in
      omega (arith, length-take n (drop (offset f (text E) + s) f), length-drop (offset f (text E) + s) f, text_ends E f w (adjoins r))

  pub names_there : ends_with_text E.sections ≡ true → refused4 E f ≡ false → refused5 E f ≡ false → Each (λ n. 1 ≤ length n.text) (read E f).names
  unfolding read
  names_there w r4 r5 =
      each_range (name_at E f) 0 (size f names)
      (λ i l. name_there w r4 i (below_at (size f names) (name_sound E f) (names_sound r5) i (omega arith)))

  -- ---- starts
  starts_are : order (read E f) ≡ starts f
  unfolding order read starts block_at
  starts_are = map-map (λ b. b.start) (block_at E f (all_trees E f)) (range 0 (size f blocks))

  pub starts_differ : refused6 E f ≡ false → distinct (order (read E f)) ≡ true
  unfolding refused6
  starts_differ h = ap distinct starts_are ∙ is_true (distinct (starts f)) (λ e. true≢false (simp (e, and-false) at h))

  pub starts_below : all (λ b. ltb b 256) f ≡ true → Each (λ a. a < whole) (order (read E f))
  unfolding starts
  starts_below h =
      subst (Each (λ a. a < whole)) (sym starts_are)
      (each_range {P = λ a. a < whole} (λ i. block_long f i 0) 0 (size f blocks) (λ i l. long_below (all_each (λ b. ltb b 256) f h) (place f blocks block_words i 0)))
