-- Tests: what a conjunction, a disjunction, a branch or an option says, and that equality of numbers may be turned round.
use mathlib.Core.Path.{◌≡◌, refl, sym, subst}
use mathlib.Core.Bool.{Bool, true, false, cond, ◌&&◌, ◌||◌, false≢true, true≢false}
use mathlib.Core.Option.{Option, none, some, none-ne-some, some-injective}
use Prim.Native.Nat.{ℕ, ◌<◌}
use native.Mathlib.Omega.{arith}
use native.Mathlib.Decide.{ℕ_discrete}
use borrow.Author.Tests.{eq-eqb, ne_eqb}
use lib.Dec.{eqb}

pub none_some {ℓ κ} : {A : Type ℓ} {C : Type κ} {a : A} → ◌≡◌ {A = Option A} none (some a) → C
none_some {a = a} e = absurd (none-ne-some a e)

pub both_true : (p q : Bool) → (p && q) ≡ true → (p ≡ true) × (q ≡ true)
both_true true q e = (refl, e)
both_true false q e = absurd (false≢true e)

pub both_false : (p q : Bool) → (p || q) ≡ false → (p ≡ false) × (q ≡ false)
both_false true q e = absurd (true≢false e)
both_false false q e = (refl, e)

pub or_cases {ℓ} : {C : Type ℓ} (p q : Bool) → (p ≡ true → C) → (q ≡ true → C) → (p || q) ≡ true → C
or_cases true q f g e = f refl
or_cases false q f g e = g e

pub or_left : (p q : Bool) → p ≡ true → (p || q) ≡ true
or_left true q e = refl
or_left false q e = absurd (false≢true e)

pub or_right : (p q : Bool) → q ≡ true → (p || q) ≡ true
or_right true q e = refl
or_right false q e = e

pub is_false : (b : Bool) → (b ≡ true → ⊥) → b ≡ false
is_false true h = absurd (h refl)
is_false false h = refl

pub is_true : (b : Bool) → (b ≡ false → ⊥) → b ≡ true
is_true true h = refl
is_true false h = absurd (h refl)

pub by_test {ℓ} : {C : Type ℓ} (b : Bool) → (b ≡ true → C) → (b ≡ false → C) → C
by_test true f g = f refl
by_test false f g = g refl

-- what holds of either way of a test holds of what the test chooses
pub by_cond {ℓ κ} : {A : Type ℓ} (P : A → Type κ) (b : Bool) {x y : A} → (b ≡ true → P x) → (b ≡ false → P y) → P (cond b x y)
by_cond P true f g = f refl
by_cond P false f g = g refl

-- an option that a test chooses, where it is something
pub cond_some {ℓ κ} : {A : Type ℓ} (P : A → Type κ) (b : Bool) {x t : A} {o : Option A} → (b ≡ true → P x) → (o ≡ some t → P t) → cond b (some x) o ≡ some t → P t
cond_some P true f g e = subst P (some-injective _ _ e) (f refl)
cond_some P false f g e = g e

-- a number that is not 0 was not chosen
pub passed : (b : Bool) (n m : ℕ) → 0 < n → cond b n m ≡ 0 → (b ≡ false) × (m ≡ 0)
passed true n m h e = absurd (omega arith)
passed false n m h e = (refl, e)

pub eqb_swap : (x y : ℕ) → eqb x y ≡ eqb y x
eqb_swap x y = go (ℕ_discrete x y)
  where
    go : Dec (x ≡ y) → eqb x y ≡ eqb y x
    go (yes q) = rw (eq-eqb x y q, eq-eqb y x (sym q))
    go (no n) = rw (ne_eqb x y n, ne_eqb y x (λ q. n (sym q)))
