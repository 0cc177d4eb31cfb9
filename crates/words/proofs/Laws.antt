-- What each return of the functions comes to, over plain lists: a number is the first four bytes of what is left, and the definition's
-- tests of texts are chains over bytes that stand one beside the other, or over the places of a text.
use mathlib.Core.Path.{◌≡◌, refl, sym, ap}
use mathlib.Core.Bool.{Bool, true, false, ◌&&◌}
use mathlib.Core.List.{List, [], ◌∷◌}
use Prim.Native.Nat.{ℕ, suc, ◌+◌, ◌*◌, ◌≤◌, ◌<◌}
use native.Mathlib.Decide.{dec_lt}
use native.Mathlib.Numerals.{add-one}
use native.Mathlib.Omega.{arith}
use lib.Dec.{eqb}
use lib.ListN.{length, drop, get_or, length-drop, drop_of_length-le}
use lib.Seq.{drop-cons}
use mir.Syntax.{w8, w32}
use mir.Val.{Fits}
use borrow.Author.Tests.{eq-eqb, ne_eqb}
use Rattle.std.proofs.Common.{get_or-drop}
use Rattle.std.specs.Int.{from_le_bytes}
use Rattle.std.specs.List.{list_all, zip}
use Rattle.definition.specs.Words.{four, word, long}
use Rattle.definition.specs.Texts.{same, begins, contains}

-- ---- numbers
pub four_short : (l : List ℕ) → length l < 4 → four l ≡ 0
unfolding four
four_short [] h = refl
four_short (a ∷ []) h = refl
four_short (a ∷ b ∷ []) h = refl
four_short (a ∷ b ∷ c ∷ []) h = refl
four_short (a ∷ b ∷ c ∷ d ∷ r) h = absurd (omega arith)

pub word_out : (f : List ℕ) (i : ℕ) → length f < i + 4 → 0 ≡ word f i
unfolding word
word_out f i h = sym (four_short (drop i f) (omega (arith, length-drop i f)))

-- the first four bytes of what is left
pub four_read : (l : List ℕ) → 4 ≤ length l → four l ≡ from_le_bytes w32 (get_or l 0 0 ∷ get_or l 1 0 ∷ get_or l 2 0 ∷ get_or l 3 0 ∷ [])
unfolding four
four_read [] h = absurd (omega arith)
four_read (a ∷ []) h = absurd (omega arith)
four_read (a ∷ b ∷ []) h = absurd (omega arith)
four_read (a ∷ b ∷ c ∷ []) h = absurd (omega arith)
four_read (a ∷ b ∷ c ∷ d ∷ r) h = omega arith

pub word_read : (f : List ℕ) (i : ℕ) → i + 4 ≤ length f
    → from_le_bytes w32 (get_or f i 0 ∷ get_or f (i + 1) 0 ∷ get_or f (i + 2) 0 ∷ get_or f (i + 3) 0 ∷ []) ≡ word f i
unfolding word
word_read f i h =
    let l = length-drop i f in
    let at = λ (k : ℕ). get_or-drop i f k 0 in
    let z : i + 0 ≡ i = omega arith in
    rw (four_read (drop i f) (omega arith), at 0, at 1, at 2, at 3, z)

-- of bytes
pub word_small : (f : List ℕ) → ((k : ℕ) → Fits w8 (get_or f k 0)) → (i : ℕ) → word f i < 4294967296
unfolding word
word_small f bytes i = go (dec_lt (length (drop i f)) 4)
  where
    at : (k : ℕ) → Fits w8 (get_or (drop i f) k 0)
    at k = rw (get_or-drop i f k 0) (bytes (i + k))

    go : Dec (length (drop i f) < 4) → four (drop i f) < 4294967296
    go (yes h) = omega (arith, four_short (drop i f) h)
    go (no h) = omega (arith, four_read (drop i f) (omega arith), at 0, at 1, at 2, at 3)

pub long_read : (f : List ℕ) (i a b : ℕ) → a ≡ word f i → b ≡ word f (i + 4) → a + 4294967296 * b ≡ long f i
unfolding long
long_read f i a b p q = rw (p, q)

-- where the high word is not wholly inside
pub long_low : (f : List ℕ) (i a : ℕ) → length f < i + 8 → a ≡ word f i → a ≡ long f i
long_low f i a h e =
    let z : 0 ≡ word f (i + 4) = word_out f (i + 4) (omega arith) in
    let s : a + 4294967296 * 0 ≡ long f i = long_read f i a 0 e z in
    omega arith

-- ---- texts
-- two bytes one beside the other
abbrev pub alike : ℕ × ℕ → Bool
alike p = eqb p.0 p.1

pub same_zip : (s t : List ℕ) → length s ≡ length t → list_all alike (zip s t) ≡ same s t
unfolding same
same_zip [] [] h = refl
same_zip [] (b ∷ t) h = absurd (omega arith)
same_zip (a ∷ s) [] h = absurd (omega arith)
same_zip (a ∷ s) (b ∷ t) h = ap (λ (x : Bool). eqb a b && x) (same_zip s t (omega arith))

pub same_length : (s t : List ℕ) → (length s ≡ length t → ⊥) → false ≡ same s t
unfolding same
same_length [] [] h = absurd (h refl)
same_length [] (b ∷ t) h = refl
same_length (a ∷ s) [] h = refl
same_length (a ∷ s) (b ∷ t) h = go (eqb a b) (same_length s t (λ e. h (ap suc e)))
  where
    go : (x : Bool) → false ≡ same s t → false ≡ (x && same s t)
    go true e = e
    go false e = refl

pub begins_short : (w s : List ℕ) → length s < length w → false ≡ begins w s
unfolding begins
begins_short [] s h = absurd (omega arith)
begins_short (a ∷ w) [] h = refl
begins_short (a ∷ w) (b ∷ s) h = go (eqb a b) (begins_short w s (omega arith))
  where
    go : (x : Bool) → false ≡ begins w s → false ≡ (x && begins w s)
    go true e = e
    go false e = refl

pub begins_turn : (w s : List ℕ) (i k : ℕ) → k < length w → i + k < length s → get_or w k 0 ≡ get_or s (i + k) 0
    → begins (drop k w) (drop (i + k) s) ≡ begins (drop (k + 1) w) (drop (i + (k + 1)) s)
unfolding begins
begins_turn w s i k h g e =
    let p : i + (k + 1) ≡ suc (i + k) = omega arith in
    rw (p, add-one, drop-cons w k 0 h, drop-cons s (i + k) 0 g, eq-eqb (get_or w k 0) (get_or s (i + k) 0) e)

pub begins_differ : (w s : List ℕ) (i k : ℕ) → k < length w → i + k < length s → (get_or w k 0 ≡ get_or s (i + k) 0 → ⊥)
    → false ≡ begins (drop k w) (drop (i + k) s)
unfolding begins
begins_differ w s i k h g e = rw (drop-cons w k 0 h, drop-cons s (i + k) 0 g, ne_eqb (get_or w k 0) (get_or s (i + k) 0) e)

pub begins_end : (w s : List ℕ) (k : ℕ) → length w ≤ k → true ≡ begins (drop k w) s
unfolding begins
begins_end w s k h = rw (drop_of_length-le w h)

-- at the end of s only the empty text begins
pub begins_past : (w s : List ℕ) (i : ℕ) → length s ≤ i → eqb (length w) 0 ≡ begins w (drop i s)
unfolding begins
begins_past w s i h = rw (drop_of_length-le s h) (go w)
  where
    go : (w : List ℕ) → eqb (length w) 0 ≡ begins w []
    go [] = refl
    go (a ∷ w) = ne_eqb (suc (length w)) 0 (λ e. omega arith)

pub contains_hit : (w s : List ℕ) (i : ℕ) → i < length s → begins w (drop i s) ≡ true → true ≡ contains w (drop i s)
unfolding contains
contains_hit w s i h e = rw (drop-cons s i 0 h) (rw (← drop-cons s i 0 h, e))

pub contains_turn : (w s : List ℕ) (i : ℕ) → i < length s → begins w (drop i s) ≡ false → contains w (drop i s) ≡ contains w (drop (i + 1) s)
unfolding contains
contains_turn w s i h e = rw (add-one, drop-cons s i 0 h) (rw (← drop-cons s i 0 h, e))

pub contains_end : (w s : List ℕ) (i : ℕ) → length s ≤ i → begins w (drop i s) ≡ contains w (drop i s)
unfolding contains
contains_end w s i h = rw (drop_of_length-le s h)

pub begins_start : (w s : List ℕ) (i : ℕ) → begins w (drop i s) ≡ begins (drop 0 w) (drop (i + 0) s)
begins_start w s i = let p : i + 0 ≡ i = omega arith in rw p
