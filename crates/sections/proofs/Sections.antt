-- Checks 2 and 3, and the sections of check 4, over plain lists: each loop goes on with the sections from s on.
use mathlib.Core.Path.{◌≡◌, refl, sym, ap, ◌∙◌}
use mathlib.Core.Bool.{Bool, false, ◌||◌, and-false}
use mathlib.Core.List.{List, [], ◌∷◌, map}
use Prim.Native.Nat.{ℕ, zero, suc, ◌+◌, ◌*◌, ◌-◌, ◌≤◌, ◌<◌}
use native.Mathlib.Nat.{mul-le-mul}
use native.Mathlib.Omega.{arith}
use lib.Dec.{eqb, ltb}
use lib.ListN.{length}
use borrow.Author.Tests.{eq-eqb, ne_eqb}
use Rattle.std.specs.List.{list_any, range_with_len}
use Rattle.definition.specs.Lists.{range}
use Rattle.definition.specs.Edition.{Section}
use Rattle.definition.specs.Contents.{contents, offset, size}
use Rattle.definition.specs.Shape.{too_many, bytes_of, adjoin}
use Rattle.records.specs.declared.edition.Edition.{Edition}
use Rattle.records.specs.Editions.{words_at, limit_at, section_at, edition_of}
use Rattle.sections.specs.Layout.{bytes_in}

-- ---- limits
many_listed : (e : Edition) (f : List ℕ) (s n : ℕ)
    → list_any (λ s. ltb (limit_at e s) (size f s)) (range_with_len s n) ≡ too_many f s (map (section_at e) (range s n))
unfolding too_many range
many_listed e f s zero = refl
many_listed e f s (suc n) = ap (λ (b : Bool). ltb (limit_at e s) (size f s) || b) (many_listed e f (s + 1) n)

pub many_counted : (e : Edition) (f : List ℕ)
    → list_any (λ s. ltb (limit_at e s) (size f s)) (range_with_len 0 e.sections) ≡ too_many f 0 (edition_of e).sections
unfolding edition_of
many_counted e f = many_listed e f 0 e.sections

-- ---- bytes
pub product : (w n : ℕ) → w < 4294967296 → n < 4294967296 → w * n < 18446744073709551616
product w n h k =
    let a : w ≤ 4294967295 = omega arith in
    let b : n ≤ 4294967295 = omega arith in
    omega (arith, mul-le-mul a b)

pub bytes_plain : (w n : ℕ) → w ≡ 0 → n ≡ bytes_in w n
unfolding bytes_in
bytes_plain w n h = rw h

pub bytes_words : (w n : ℕ) → (w ≡ 0 → ⊥) → w * n * 4 ≡ bytes_in w n
unfolding bytes_in
bytes_words w n h = rw (ne_eqb w 0 h) (omega arith)

-- ---- sections
-- the sections from s on
unfoldable pub sections_from : Edition → ℕ → List Section
sections_from e s = map (section_at e) (range s (e.sections - s))

pub sections_start : (e : Edition) → (edition_of e).sections ≡ sections_from e 0
unfolding edition_of sections_from
sections_start e = let k : e.sections - 0 ≡ e.sections = omega arith in rw k

sections_turn : (e : Edition) (s : ℕ) → s < e.sections → sections_from e s ≡ section_at e s ∷ sections_from e (s + 1)
unfolding sections_from range
sections_turn e s h = let k : e.sections - s ≡ suc (e.sections - (s + 1)) = omega arith in rw k

sections_end : (e : Edition) (s : ℕ) → e.sections ≤ s → sections_from e s ≡ []
unfolding sections_from range
sections_end e s h = let k : e.sections - s ≡ 0 = omega arith in rw k

-- behind the file's end no more sections help
adjoin_past : (f : List ℕ) (from s : ℕ) (ts : List Section) → length f < from → adjoin f from s ts ≡ false
unfolding adjoin
adjoin_past f from s [] h = ne_eqb from (length f) (λ e. omega arith)
adjoin_past f from s (t ∷ ts) h = rw (adjoin_past f (from + bytes_of t (size f s)) (s + 1) ts (omega arith)) (and-false (eqb (offset f s) from))

module _ (e : Edition) (f : List ℕ) where
  pub adjoin_start : (at : ℕ) → at ≡ contents (edition_of e) → adjoin f (contents (edition_of e)) 0 (edition_of e).sections ≡ adjoin f at 0 (sections_from e 0)
  adjoin_start at p = rw (p, sections_start e)

  -- one that begins elsewhere
  pub adjoin_apart : (s at : ℕ) → s < e.sections → (offset f s ≡ at → ⊥) → false ≡ adjoin f at s (sections_from e s)
  unfolding adjoin
  adjoin_apart s at h p = rw (sections_turn e s h, ne_eqb (offset f s) at p)

  pub adjoin_turn : (s at : ℕ) → s < e.sections → offset f s ≡ at
      → adjoin f at s (sections_from e s) ≡ adjoin f (at + bytes_in (words_at e s) (size f s)) (s + 1) (sections_from e (s + 1))
  unfolding adjoin bytes_of bytes_in
  adjoin_turn s at h p = rw (sections_turn e s h, eq-eqb (offset f s) at p)

  -- one that ends behind the file
  pub adjoin_stop : (s at : ℕ) → s < e.sections → offset f s ≡ at → length f < at + bytes_in (words_at e s) (size f s) → false ≡ adjoin f at s (sections_from e s)
  adjoin_stop s at h p l = sym (adjoin_turn s at h p ∙ adjoin_past f (at + bytes_in (words_at e s) (size f s)) (s + 1) (sections_from e (s + 1)) l)

  pub adjoin_end : (s at : ℕ) → e.sections ≤ s → eqb at (length f) ≡ adjoin f at s (sections_from e s)
  unfolding adjoin
  adjoin_end s at h = rw (sections_end e s h)
