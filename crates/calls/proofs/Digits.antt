-- A hexadecimal number is read digit by digit from the first: a digit fits behind a number exactly when that is below 2^60.
use mathlib.Core.Path.{◌≡◌, refl, sym, ap, ◌∙◌}
use mathlib.Core.Bool.{Bool, true, ◌&&◌}
use mathlib.Core.Option.{Option, none, some}
use mathlib.Core.List.{List, [], ◌∷◌}
use Prim.Native.Nat.{ℕ, ◌+◌, ◌*◌, ◌-◌, ◌≤◌, ◌<◌}
use native.Mathlib.Decide.{dec_lt}
use native.Mathlib.Omega.{arith}
use lib.Dec.{leb}
use lib.ListN.{length, get_or, take, drop, drop_of_length-le}
use borrow.Author.Tests.{leb-true, lt-ltb, le-ltb, eq-eqb, ne_eqb}
use Rattle.definition.specs.Words.{part}
use Rattle.definition.specs.Texts.{is_empty}
use Rattle.definition.specs.Offsets.{whole}
use Rattle.definition.specs.Numbers.{hex_value, push, read_digits, read_some, read_hex}
use Rattle.definition.proofs.Bools.{both_true, cond_some, none_some}
use Rattle.text.proofs.Lookups.{told_some, told_none}
use Rattle.std.specs.Prelude.{Option as Answer, Some, None}
use Rattle.records.specs.Options.{answer_of}
use native.Mathlib.Numerals.{add-one}
use lib.Seq.{drop-cons}
use Rattle.words.proofs.Parts.{size_most, part_cut}
use Rattle.calls.proofs.Trims.{part_first}

-- ---- one digit
inside : (b l h : ℕ) (x : Bool) → x ≡ (leb l b && leb b h) → x ≡ true → (l ≤ b) × (b ≤ h)
inside b l h x e t = let p = both_true (leb l b) (leb b h) (sym e ∙ t) in (leb-true l b p.0, leb-true b h p.1)

value_small : (b d : ℕ) → hex_value b ≡ some d → d < 16
unfolding hex_value
value_small b d e =
    let P : ℕ → Type 0 = λ n. n < 16 in
    cond_some P (leb 48 b && leb b 57) (λ h. omega (arith, inside b 48 57 _ refl h))
    (cond_some P (leb 97 b && leb b 102) (λ h. omega (arith, inside b 97 102 _ refl h))
    (cond_some P (leb 65 b && leb b 70) (λ h. omega (arith, inside b 65 70 _ refl h)) (λ q. none_some q))) e

-- ---- a digit behind a number
module _ (v b : ℕ) (r : Answer ℕ) (is : r ≡ answer_of (hex_value b)) where
  pub push_no : r ≡ None → None ≡ answer_of (push (some v) (hex_value b))
  unfolding push
  push_no h = rw (told_none (hex_value b) (sym is ∙ h))

  module _ (d : ℕ) (so : r ≡ Some d) where
    pub push_small : d < 16
    push_small = value_small b d (told_some (hex_value b) d (sym is ∙ so))

    pub push_over : (v * 16 < whole → ⊥) → None ≡ answer_of (push (some v) (hex_value b))
    unfolding push
    push_over h = go (dec_lt (v * 16) whole)
      where
        go : Dec (v * 16 < whole) → None ≡ answer_of (push (some v) (hex_value b))
        go (yes k) = absurd (h k)
        go (no k) = rw (told_some (hex_value b) d (sym is ∙ so), le-ltb (16 * v + d) whole (omega arith))

    pub push_fits : (x : ℕ) → (v * 16 < whole) × (x ≡ v * 16) → Some (x + d) ≡ answer_of (push (some v) (hex_value b))
    unfolding push
    push_fits x h =
        let e : x + d ≡ 16 * v + d = omega (arith, h.1) in
        rw (told_some (hex_value b) d (sym is ∙ so), e, lt-ltb (16 * v + d) whole (omega (arith, push_small, h.0)))

-- ---- the loop over the digits s: v is read of the first i
digits_none : (s : List ℕ) → read_digits none s ≡ none
unfolding read_digits push
digits_none [] = refl
digits_none (b ∷ s) = digits_none s

module _ (s : List ℕ) (i v : ℕ) (o : Option ℕ) (so : o ≡ read_digits (some v) (drop i s)) where
  digits_turn : i < length s → o ≡ read_digits (push (some v) (hex_value (get_or s i 0))) (drop (i + 1) s)
  unfolding read_digits
  digits_turn h = so ∙ rw (add-one, drop-cons s i 0 h)

  module _ (below : i < length s) (r : Answer ℕ) (is : r ≡ answer_of (push (some v) (hex_value (get_or s i 0)))) where
    pub digits_stop : r ≡ None → None ≡ answer_of o
    digits_stop h =
        let e : push (some v) (hex_value (get_or s i 0)) ≡ none = told_none _ (sym is ∙ h) in
        sym (ap answer_of (digits_turn below ∙ ap (λ (x : Option ℕ). read_digits x (drop (i + 1) s)) e ∙ digits_none (drop (i + 1) s)))

    pub digits_more : (w : ℕ) → r ≡ Some w → o ≡ read_digits (some w) (drop (i + 1) s)
    digits_more w h = digits_turn below ∙ rw (told_some _ w (sym is ∙ h))

  pub digits_end : length s ≤ i → Some v ≡ answer_of o
  unfolding read_digits
  digits_end h =
      let e : drop i s ≡ [] = drop_of_length-le s h in
      sym (ap answer_of (so ∙ ap (read_digits (some v)) e))

-- the digits that are lent
pub lent_is : (f : List ℕ) (at n : ℕ) → take (at + n - at) (drop at f) ≡ part f at n
unfolding part
lent_is f at n = let k : at + n - at ≡ n = omega arith in rw k

-- ---- at least one, and a sign
pub some_none : (f : List ℕ) (at n : ℕ) → n ≡ 0 → None ≡ answer_of (read_some (part f at n))
unfolding read_some part is_empty
some_none f at n h = rw h

pub some_is : (f : List ℕ) (at n : ℕ) (r : Answer ℕ) → (n ≡ 0 → ⊥) → at + n ≤ length f → r ≡ answer_of (read_digits (some 0) (part f at n)) → r ≡ answer_of (read_some (part f at n))
unfolding read_some is_empty
some_is f at n r h room e = let p = part_first f at n (omega arith) (omega arith) in e ∙ rw p

-- ---- m bytes are there
module _ (f : List ℕ) (at n m : ℕ) (is : m ≡ length (part f at n)) where
  pub hex_empty : m ≡ 0 → None ≡ answer_of (read_hex (part f at n))
  unfolding part read_hex
  hex_empty h = rw (← part_cut f at n m is, h)

  module _ (some_there : m ≡ 0 → ⊥) where
    pub hex_room : at + m ≤ length f
    hex_room = omega (arith, size_most f at n)

    hex_first : part f at n ≡ get_or f at 0 ∷ part f (at + 1) (m - 1)
    hex_first = sym (part_cut f at n m is) ∙ part_first f at m (omega (arith, hex_room)) (omega arith)

    pub hex_plus : (r : Answer ℕ) → get_or f at 0 ≡ 43 → r ≡ answer_of (read_some (part f (at + 1) (m - 1))) → r ≡ answer_of (read_hex (part f at n))
    unfolding read_hex
    hex_plus r h e = e ∙ rw (hex_first, eq-eqb (get_or f at 0) 43 h)

    pub hex_plain : (r : Answer ℕ) → (get_or f at 0 ≡ 43 → ⊥) → r ≡ answer_of (read_some (part f at m)) → r ≡ answer_of (read_hex (part f at n))
    unfolding read_hex
    hex_plain r h e = e ∙ rw (part_cut f at n m is, hex_first, ne_eqb (get_or f at 0) 43 h)
