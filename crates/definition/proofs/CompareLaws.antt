-- What CMP and TEST do to numbers of w bits. One law carries it: the wrapped difference of two operands is the wrapped difference of
-- their signed values too (`both_ways`). So SF and OF differ exactly where the first is less, and ZF says whether the two are equal.
use mathlib.Core.Path.{◌≡◌, sym, ◌∙◌}
use mathlib.Core.Bool.{not, cond, ◌&&◌, ◌||◌, beq}
use mathlib.Core.Logic.{◌⊎◌, inl, inr}
use Prim.Native.Nat.{ℕ, zero, suc, ◌+◌, ◌-◌, ◌^◌, ◌<◌, ◌≤◌}
use native.Mathlib.Nat.{two-pow-succ}
use native.Mathlib.Omega.{arith}
use native.Mathlib.Decide.{dec_lt, dec_le, ℕ_discrete}
use borrow.Author.Tests.{lt-ltb, le-ltb, le-leb, lt-leb, eq-eqb, ne_eqb}
use lib.Dec.{eqb, ltb, leb}
use Rattle.definition.specs.Intel.{half, signed, wrapped, misfits}

-- the numbers of w bits are twice those below half
doubled : (w : ℕ) → 0 < w → 2 ^ w ≡ half w + half w
unfolding half
doubled zero h = absurd (omega arith)
doubled (suc n) h =
    let k : suc n - 1 ≡ n = omega arith in
    rw k (two-pow-succ n)

-- ---- every test of two numbers by two: is the first less, are they equal
pub record Tests (x y : ℕ) : Type 0 where
  pub ge : leb y x ≡ not (ltb x y)
  pub gt : ltb y x ≡ (not (eqb x y) && not (ltb x y))
  pub le : leb x y ≡ (eqb x y || ltb x y)

pub tests : (x y : ℕ) → Tests x y
tests x y = go (dec_lt x y) (dec_lt y x)
  where
    go : Dec (x < y) → Dec (y < x) → Tests x y
    go (yes h) k =
        let n : x ≡ y → ⊥ = λ q. omega arith in
        record {
          ge = rw (lt-ltb x y h, lt-leb y x h);
          gt = rw (lt-ltb x y h, le-ltb y x (omega arith), ne_eqb x y n);
          le = rw (lt-ltb x y h, le-leb x y (omega arith), ne_eqb x y n);
        }
    go (no h) (yes k) =
        let n : x ≡ y → ⊥ = λ q. omega arith in
        record {
          ge = rw (le-ltb x y (omega arith), le-leb y x (omega arith));
          gt = rw (le-ltb x y (omega arith), lt-ltb y x k, ne_eqb x y n);
          le = rw (le-ltb x y (omega arith), lt-leb x y k, ne_eqb x y n);
        }
    go (no h) (no k) =
        let q : x ≡ y = omega arith in
        record {
          ge = rw (le-ltb x y (omega arith), le-leb y x (omega arith));
          gt = rw (le-ltb x y (omega arith), le-ltb y x (omega arith), eq-eqb x y q);
          le = rw (le-ltb x y (omega arith), le-leb x y (omega arith), eq-eqb x y q);
        }

-- ---- `signed` and `wrapped` as omega reads them; H is half, W is 2^w
abbrev Signed : ℕ → ℕ → ℕ → Type 0
Signed H x z = ((x < H) × (z ≡ x + H)) ⊎ ((H ≤ x) × (z + H ≡ x))

abbrev Wrapped : ℕ → ℕ → ℕ → ℕ → Type 0
Wrapped W x y r = ((y ≤ x) × (r + y ≡ x)) ⊎ ((x < y) × (r + y ≡ x + W))

signed_is : (w x : ℕ) → Signed (half w) x (signed w x)
unfolding signed
signed_is w x = go (dec_lt x (half w))
  where
    go : Dec (x < half w) → Signed (half w) x (cond (ltb x (half w)) (x + half w) (x - half w))
    go (yes h) = inl (h, rw (lt-ltb x (half w) h))
    go (no h) = let k : half w ≤ x = omega arith in inr (k, rw (le-ltb x (half w) k) (omega arith))

wrapped_is : (w x y : ℕ) → y < 2 ^ w → Wrapped (2 ^ w) x y (wrapped w x y)
unfolding wrapped
wrapped_is w x y f = go (dec_le y x)
  where
    go : Dec (y ≤ x) → Wrapped (2 ^ w) x y (cond (leb y x) (x - y) (x + 2 ^ w - y))
    go (yes h) = inl (h, rw (le-leb y x h) (omega arith))
    go (no h) = let k : x < y = omega arith in inr (k, rw (lt-leb y x k) (omega arith))

-- of any two numbers and their difference r, wrapped to H + H: the sign of r and the overflow agree unless the first is less
sign_overflow : (H u v r : ℕ) → u < H + H → v < H + H → Wrapped (H + H) u v r
    → beq (leb H r) (ltb (u + H) v || leb (v + H) u) ≡ not (ltb u v)
sign_overflow H u v r fu fv d = go d (dec_le H r)
  where
    go : Wrapped (H + H) u v r → Dec (H ≤ r) → beq (leb H r) (ltb (u + H) v || leb (v + H) u) ≡ not (ltb u v)
    go (inl p) (yes h) = rw (le-leb H r h, le-ltb (u + H) v (omega arith), le-leb (v + H) u (omega arith), le-ltb u v p.0)
    go (inl p) (no h) = rw (lt-leb H r (omega arith), le-ltb (u + H) v (omega arith), lt-leb (v + H) u (omega arith), le-ltb u v p.0)
    go (inr p) (yes h) = rw (le-leb H r h, le-ltb (u + H) v (omega arith), lt-leb (v + H) u (omega arith), lt-ltb u v p.0)
    go (inr p) (no h) = rw (lt-leb H r (omega arith), lt-ltb (u + H) v (omega arith), lt-ltb u v p.0)

-- and r is zero only where the two are equal
zero_equal : (W u v r : ℕ) → v < W → Wrapped W u v r → eqb u v ≡ eqb r 0
zero_equal W u v r f d = go d (ℕ_discrete u v)
  where
    go : Wrapped W u v r → Dec (u ≡ v) → eqb u v ≡ eqb r 0
    go (inl p) (yes q) = rw (eq-eqb u v q, eq-eqb r 0 (omega arith))
    go (inl p) (no q) = rw (ne_eqb u v q, ne_eqb r 0 (λ z. q (omega arith)))
    go (inr p) (yes q) = absurd (omega arith)
    go (inr p) (no q) = rw (ne_eqb u v q, ne_eqb r 0 (λ z. omega arith))

module _ (w : ℕ) (positive : 0 < w) where
  signed_fits : (x : ℕ) → x < 2 ^ w → signed w x < half w + half w
  signed_fits x f = go (signed_is w x) (doubled w positive)
    where
      go : Signed (half w) x (signed w x) → 2 ^ w ≡ half w + half w → signed w x < half w + half w
      go (inl p) q = omega arith
      go (inr p) q = omega arith

  module _ (x y : ℕ) (fx : x < 2 ^ w) (fy : y < 2 ^ w) where
    pub wrapped_fits : wrapped w x y < 2 ^ w
    wrapped_fits = go (wrapped_is w x y fy)
      where
        go : Wrapped (2 ^ w) x y (wrapped w x y) → wrapped w x y < 2 ^ w
        go (inl p) = omega arith
        go (inr p) = omega arith

    both_ways : Wrapped (half w + half w) (signed w x) (signed w y) (wrapped w x y)
    both_ways = go (signed_is w x) (signed_is w y) (wrapped_is w x y fy) (doubled w positive)
      where
        go : Signed (half w) x (signed w x) → Signed (half w) y (signed w y) → Wrapped (2 ^ w) x y (wrapped w x y)
            → 2 ^ w ≡ half w + half w → Wrapped (half w + half w) (signed w x) (signed w y) (wrapped w x y)
        go (inl p) (inl q) (inl r) z = inl (omega arith, omega arith)
        go (inl p) (inl q) (inr r) z = inr (omega arith, omega arith)
        go (inl p) (inr q) (inl r) z = absurd (omega arith)
        go (inl p) (inr q) (inr r) z = inl (omega arith, omega arith)
        go (inr p) (inl q) (inl r) z = inr (omega arith, omega arith)
        go (inr p) (inl q) (inr r) z = absurd (omega arith)
        go (inr p) (inr q) (inl r) z = inl (omega arith, omega arith)
        go (inr p) (inr q) (inr r) z = inr (omega arith, omega arith)

    -- SF = OF says that the first is not less, ZF that the two are equal, read as signed numbers or as they are
    pub not_less : beq (leb (half w) (wrapped w x y)) (misfits w x y) ≡ not (ltb (signed w x) (signed w y))
    unfolding misfits
    not_less = sign_overflow (half w) (signed w x) (signed w y) (wrapped w x y) (signed_fits x fx) (signed_fits y fy) both_ways

    pub signed_equal : eqb (signed w x) (signed w y) ≡ eqb (wrapped w x y) 0
    signed_equal = zero_equal (half w + half w) (signed w x) (signed w y) (wrapped w x y) (signed_fits y fy) both_ways

    pub plain_equal : eqb x y ≡ eqb (wrapped w x y) 0
    plain_equal = zero_equal (2 ^ w) x y (wrapped w x y) fy (wrapped_is w x y fy)

  -- against 0: the sign bit says less, and zero is zero
  pub signed_under : (x : ℕ) → x < 2 ^ w → ltb (signed w x) (signed w 0) ≡ leb (half w) x
  signed_under x f = go (signed_is w x) (signed_is w 0) (doubled w positive)
    where
      go : Signed (half w) x (signed w x) → Signed (half w) 0 (signed w 0) → 2 ^ w ≡ half w + half w
          → ltb (signed w x) (signed w 0) ≡ leb (half w) x
      go (inl p) (inl q) z = rw (lt-leb (half w) x p.0, le-ltb (signed w x) (signed w 0) (omega arith))
      go (inr p) (inl q) z = rw (le-leb (half w) x p.0, lt-ltb (signed w x) (signed w 0) (omega arith))
      go p (inr q) z = absurd (omega arith)

  pub signed_zero : (x : ℕ) → x < 2 ^ w → eqb (signed w x) (signed w 0) ≡ eqb x 0
  signed_zero x f =
      let z : 0 < 2 ^ w = omega arith in
      signed_equal x 0 f z ∙ sym (plain_equal x 0 f z)
