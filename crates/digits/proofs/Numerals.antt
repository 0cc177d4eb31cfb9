-- Digits: how many there are, counted by divisions, and that filling them in from the last one down writes the numeral.
use mathlib.Core.Path.{◌≡◌, refl, ap, subst, ◌∙◌}
use mathlib.Core.Bool.{Bool, true, false, cond}
use mathlib.Core.List.{List, [], ◌∷◌, ◌++◌}
use Prim.Native.Nat.{ℕ, zero, suc, ◌+◌, ◌-◌, ◌*◌, ◌/◌, ◌%◌, ◌^◌, ◌<◌, ◌≤◌}
use native.Mathlib.Omega.{arith}
use native.Mathlib.Nat.{div-lt_iff_lt-mul, pow-suc, pow-zero, one-mul, mod-eq_of_lt, mod-lt, div-lt_self, lt_of_lt_of_le}
use borrow.Author.Tests.{lt-ltb, le-ltb, ltb-true}
use lib.Dec.{ltb, lit≤}
use lib.ListN.{length, drop, set, length-append, length-set}
use lib.Seq.{drop-cons, get_or-set_same, drop-set-lt, append_snoc}
use Rattle.definition.specs.Numbers.{digit, digits}
use Rattle.std.specs.Prelude.{Ok}
use Rattle.digits.specs.declared.Radix.{Radix}
use Rattle.digits.specs.declared.Radix.TheVariants.{Decimal, Lower, Upper}
use Rattle.leaf.specs.Leaf.{Leaf, no_room}
use Rattle.digits.specs.Numeral.{base_of, ten_of, most_of, numeral, filled}
use Rattle.leaf.proofs.Leaves.{leaf_short, leaf_fits}

-- ---- a digit
pub digit_low : (ten d : ℕ) → d < 10 → 48 + d ≡ digit ten d
unfolding digit
digit_low ten d h = rw (lt-ltb d 10 h)

pub digit_high : (ten d t : ℕ) → 10 ≤ d → t ≡ ten → t + (d - 10) ≡ digit ten d
unfolding digit
digit_high ten d t h e = rw (le-ltb d 10 h, e)

-- ---- the count
module _ (b ten : ℕ) where
  -- one digit, or one more than those of the quotient
  one_digit : (f r : ℕ) → r < b → length (digits b ten f r) ≡ 1
  unfolding digits
  one_digit zero r h = refl
  one_digit (suc f) r h = rw (lt-ltb r b h)

  more_digits : (f r : ℕ) → b ≤ r → length (digits b ten (suc f) r) ≡ length (digits b ten f (r / b)) + 1
  unfolding digits
  more_digits f r h = rw (le-ltb r b h) (length-append (digits b ten f (r / b)) (digit ten (r % b) ∷ []))

  -- t digits in all: n counted so far, of at most m + 1, and those of r still to count
  pub record Counting (m t n r : ℕ) : Type 0 where
    pub fuel : ℕ
    pub sum : fuel + n ≡ m + 1
    pub goes : t + 1 ≡ n + length (digits b ten fuel r)
    pub below : r < b ^ suc fuel

  step : (m t n r f : ℕ) → 2 ≤ b → f + n ≡ m + 1 → t + 1 ≡ n + length (digits b ten f r) → r < b ^ suc f → b ≤ r → Counting m t (n + 1) (r / b)
  step m t n r zero two s g k h =
      let e : b ^ 1 ≡ b = pow-suc b 0 ∙ ap (λ (x : ℕ). x * b) (pow-zero b) ∙ one-mul b in
      let z : r < b = subst (λ (x : ℕ). r < x) e k in
      absurd (omega arith)
  step m t n r (suc f) two s g k h =
      record {
        fuel = f;
        sum = omega arith;
        goes = omega (arith, more_digits f r h);
        below = (div-lt_iff_lt-mul {k = b} (omega arith)).1 (subst (λ (x : ℕ). r < x) (pow-suc b (suc f)) k);
      }

  counting_more : (m t n r : ℕ) → 2 ≤ b → Counting m t n r → b ≤ r → Counting m t (n + 1) (r / b)
  counting_more m t n r two c h = step m t n r c.fuel two c.sum c.goes c.below h

  counting_last : (m t n r : ℕ) → Counting m t n r → r < b → n ≡ t
  counting_last m t n r c h = omega (arith, one_digit c.fuel r h)

room : (x : Radix) (v : ℕ) → v < 2 ^ 64 → v < base_of x ^ suc (most_of x)
unfolding base_of most_of
room Decimal v h = lt_of_lt_of_le h (lit≤ tt)
room Lower v h = h
room Upper v h = h

few : (x : Radix) → most_of x ≤ 19
unfolding most_of
few Decimal = omega arith
few Lower = omega arith
few Upper = omega arith

-- the loop's invariant: whatever is counted so far at its start, n and r go on with it
pub record Turned (b v n r : ℕ) : Type 0 where
  pub on : (ten m t : ℕ) → Counting b ten m t 1 v → Counting b ten m t n r

pub turned_none : (b v : ℕ) → Turned b v 1 v
turned_none b v = record { on = λ ten m t k. k }

pub turned_more : (b v n r : ℕ) → 2 ≤ b → Turned b v n r → b ≤ r → Turned b v (n + 1) (r / b)
turned_more b v n r two c h = record { on = λ ten m t k. counting_more b ten m t n r two (c.on ten m t k) h }

-- at the radix x
module _ (x : Radix) (b v n r : ℕ) (base : b ≡ base_of x) (small : v < 2 ^ 64) (c : Turned b v n r) where
  counted : Counting b (ten_of x) (most_of x) (length (numeral x v)) n r
  unfolding numeral
  counted = c.on (ten_of x) (most_of x) (length (numeral x v))
      (record { fuel = most_of x; sum = refl; goes = rw base (omega arith); below = rw base (room x v small) })

  pub turned_few : n ≤ 20
  turned_few = omega (arith, counted.sum, few x)

  pub turned_last : r < b → n ≡ length (numeral x v)
  turned_last h = counting_last b (ten_of x) (most_of x) _ n r counted h

  -- a turn is to come, so it is less
  pub turned_fewer : 2 ≤ b → b ≤ r → n < 20
  turned_fewer two h =
      let k = counting_more b (ten_of x) (most_of x) _ n r two counted h in
      omega (arith, k.sum, few x)

pub quotient_less : (b r : ℕ) → 2 ≤ b → b ≤ r → r / b < r
quotient_less b r two h = div-lt_self (omega arith) two

pub remainder_less : (b r : ℕ) → 2 ≤ b → b ≤ 16 → r % b < 16
remainder_less b r two h = lt_of_lt_of_le (mod-lt r (omega arith)) h

-- ---- the filling
one_set : (x : ℕ) (d : List ℕ) → 1 ≤ length d → set d 0 x ≡ (x ∷ []) ++ drop 1 d
one_set x [] h = absurd (omega arith)
one_set x (y ∷ d) h = refl

module _ (b ten : ℕ) where
  pub fill_is : (f v : ℕ) (d : List ℕ) → length (digits b ten f v) ≤ length d
      → filled b ten (length (digits b ten f v)) v d ≡ digits b ten f v ++ drop (length (digits b ten f v)) d
  unfolding digits filled
  fill_is zero v d h = one_set (digit ten (v % b)) d h
  fill_is (suc f) v d h = go (ltb v b) refl h (fill_is f (v / b))
    where
      front : List ℕ
      front = digits b ten f (v / b)

      x : ℕ
      x = digit ten (v % b)

      all : Bool → List ℕ
      all q = cond q (digit ten v ∷ []) (front ++ (x ∷ []))

      go : (q : Bool) → ltb v b ≡ q → length (all q) ≤ length d
          → ((d : List ℕ) → length front ≤ length d → filled b ten (length front) (v / b) d ≡ front ++ drop (length front) d)
          → filled b ten (length (all q)) v d ≡ all q ++ drop (length (all q)) d
      go true q h ih = rw (mod-eq_of_lt (ltb-true v b q)) (one_set (digit ten v) d h)
      go false q h ih =
          let j = length front in
          let n : length (front ++ (x ∷ [])) ≡ suc j = length-append front (x ∷ []) ∙ (omega arith) in
          let below : j < length d = omega arith in
          let below2 : j < length (set d j x) = omega (arith, length-set d j x) in
          rw n
          (ih (set d j x) (omega arith)
          ∙ rw (drop-cons (set d j x) j 0 below2, get_or-set_same d j x 0 below, drop-set-lt (suc j) d j x (omega arith), append_snoc))

-- the returns of `digits`
module _ (x : Radix) (v n : ℕ) (d : List ℕ) (size : n ≡ length (numeral x v)) where
  pub digits_short : length d < n → Leaf (numeral x v) d no_room d
  digits_short h = leaf_short (numeral x v) d (omega arith)

  pub digits_fit : (e : List ℕ) → n ≤ length d → e ≡ filled (base_of x) (ten_of x) n v d → Leaf (numeral x v) d (Ok n) e
  unfolding numeral
  digits_fit e h p =
      leaf_fits (numeral x v) d n e size h (p ∙ rw size (fill_is (base_of x) (ten_of x) (most_of x) v d (omega arith)))

-- one turn of the filling: the code's i is above 0
pub fill_turn : (b ten i r : ℕ) (d : List ℕ) (x : ℕ) → 0 < i → x ≡ digit ten (r % b) → filled b ten i r d ≡ filled b ten (i - 1) (r / b) (set d (i - 1) x)
unfolding filled
fill_turn b ten zero r d x h e = absurd (omega arith)
fill_turn b ten (suc k) r d x h e =
    let p : suc k - 1 ≡ k = omega arith in
    rw (p, e)

pub fill_end : (b ten i r : ℕ) (d : List ℕ) → i ≤ 0 → filled b ten i r d ≡ d
unfolding filled
fill_end b ten zero r d h = refl
fill_end b ten (suc k) r d h = absurd (omega arith)
