-- What each return of the functions comes to, over plain lists: a range that is cut at the text's end is the range, and behind the last number
-- there are zeros.
use mathlib.Core.Path.{◌≡◌, refl, sym, ap, ◌∙◌}
use mathlib.Core.List.{List, [], ◌∷◌}
use Prim.Native.Nat.{min, ℕ, ◌+◌, ◌*◌, ◌-◌, ◌/◌, ◌≤◌, ◌<◌}
use native.Mathlib.Decide.{dec_le}
use native.Mathlib.Omega.{arith}
use borrow.Author.Tests.{le-leb, lt-leb, eq-eqb, ne_eqb}
use lib.Dec.{leb}
use lib.ListN.{length, take, drop, length-drop, drop_of_length-le}
use lib.Seq.{take_all, take-nil, length-take-le}
use Rattle.definition.specs.Words.{part}
use Rattle.definition.specs.Texts.{is_empty}
use Rattle.definition.specs.Lists.{at}
use Rattle.definition.proofs.ListLaws.{at_out}
use Rattle.sheet.specs.Buffers.{start_of, start_at}
use Rattle.sheet.specs.Ranges.{between, SamePlace}

-- ---- ranges
pub least_left : (a b : ℕ) → a ≤ b → min a b ≡ a
least_left a b h = omega arith

pub least_right : (a b : ℕ) → b < a → min a b ≡ b
least_right a b h = omega arith

pub least_le : (a b : ℕ) → (min a b ≤ a) × (min a b ≤ b)
least_le a b = (omega arith, omega arith)

-- cut at the text's end, it is the same range
pub range_is : (t : List ℕ) (from to s e : ℕ) → e ≡ min to (length t) → s ≡ min from e → take (e - s) (drop s t) ≡ between t from to
unfolding between part
range_is t from to s e p q = go (dec_le from e)
  where
    front : Dec (to ≤ length t) → s ≡ from → take (e - s) (drop s t) ≡ take (to - from) (drop from t)
    front (yes k) z = let x : e ≡ to = p ∙ least_left to (length t) k in rw (x, z)
    front (no k) z =
        let x : e ≡ length t = p ∙ least_right to (length t) (omega arith) in
        let m : length (drop from t) ≤ length t - from = omega (arith, length-drop from t) in
        let n : length (drop from t) ≤ to - from = omega (arith, length-drop from t) in
        rw (x, z) (take_all (length t - from) (drop from t) m ∙ sym (take_all (to - from) (drop from t) n))

    past : Dec (to ≤ length t) → e < from → take (to - from) (drop from t) ≡ []
    past (yes k) z =
        let x : to - from ≡ 0 = omega (arith, least_left to (length t) k) in
        rw x
    past (no k) z =
        let x : length t ≤ from = omega (arith, least_right to (length t) (omega arith)) in
        rw (drop_of_length-le t x) (take-nil (to - from))

    go : Dec (from ≤ e) → take (e - s) (drop s t) ≡ take (to - from) (drop from t)
    go (yes h) = front (dec_le to (length t)) (q ∙ least_left from e h)
    go (no h) =
        let z : e - s ≡ 0 = omega (arith, least_right from e (omega arith)) in
        ap (λ (n : ℕ). take n (drop s t)) z ∙ sym (past (dec_le to (length t)) (omega arith))

pub length_between : (t : List ℕ) (from to : ℕ) → length (between t from to) ≡ min to (length t) - from
length_between t from to =
    let e = min to (length t) in
    let s = min from e in
    let m : e - s ≤ length (drop s t) = omega (arith, length-drop s t, (least_le to (length t)).1) in
    ap length (sym (range_is t from to s e refl refl)) ∙ length-take-le (e - s) (drop s t) m ∙ go (dec_le from e)
  where
    go : Dec (from ≤ min to (length t)) → min to (length t) - min from (min to (length t)) ≡ min to (length t) - from
    go (yes h) = ap (λ (n : ℕ). min to (length t) - n) (least_left from (min to (length t)) h)
    go (no h) = let z = least_right from (min to (length t)) (omega arith) in omega arith

pub empty_is : (t : List ℕ) (from to e : ℕ) → e ≡ min to (length t) → leb e from ≡ is_empty (between t from to)
unfolding is_empty
empty_is t from to e p = go (between t from to) (dec_le e from) (length_between t from to)
  where
    go : (l : List ℕ) → Dec (e ≤ from) → length l ≡ min to (length t) - from → leb e from ≡ is_empty l
    go [] (yes h) q = le-leb e from h
    go [] (no h) q = absurd (omega arith)
    go (b ∷ l) (yes h) q = absurd (omega arith)
    go (b ∷ l) (no h) q = lt-leb e from (omega arith)

-- ---- numbers
pub start_first : (ends : ℕ → ℕ) (i : ℕ) → i ≡ 0 → 0 ≡ start_of ends i
unfolding start_of
start_first ends i z = rw (eq-eqb i 0 z)

pub start_later : (ends : ℕ → ℕ) (i e : ℕ) → (i ≡ 0 → ⊥) → e ≡ ends (i - 1) → e ≡ start_of ends i
unfolding start_of
start_later ends i e n h = rw (ne_eqb i 0 n) h

pub line_out : (l : List ℕ) (i k : ℕ) → length l / 5 < i → 0 ≡ at l (5 * i + k)
line_out l i k h = at_out l (5 * i + k) (omega arith)

-- ---- tokens
-- two places behind all tokens, and the same place
pub place_past : (ks : List ℕ) (p q : ℕ) → length ks < p → length ks < q → SamePlace ks p q
unfolding start_of
place_past ks p q h k = record {
  number = sym (at_out ks p (omega arith)) ∙ at_out ks q (omega arith);
  start =
      let x = at_out ks (p - 1) (omega arith) in
      let y = at_out ks (q - 1) (omega arith) in
      rw (ne_eqb p 0 (λ z. omega arith), ne_eqb q 0 (λ z. omega arith), ← x, ← y);
}

pub place_is : (ks : List ℕ) (p q : ℕ) → p ≡ q → SamePlace ks p q
place_is ks p q e = record { number = ap (at ks) e; start = ap (start_at ks) e }
