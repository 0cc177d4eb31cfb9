-- A code is 1, 2, 3, 4, 5 or 6, or none of these: the cases of a statement's kind and of an expression's tag.
use mathlib.Core.Path.{◌≡◌}
use mathlib.Core.Bool.{false}
use Prim.Native.Nat.{ℕ}
use native.Mathlib.Decide.{ℕ_discrete}
use lib.Dec.{eqb}
use borrow.Author.Tests.{ne_eqb}

pub by_code {ℓ} : {Q : Type ℓ} (k : ℕ) → (k ≡ 1 → Q) → (k ≡ 2 → Q) → (k ≡ 3 → Q) → (k ≡ 4 → Q) → (k ≡ 5 → Q) → (k ≡ 6 → Q)
    → (eqb k 1 ≡ false → eqb k 2 ≡ false → eqb k 3 ≡ false → eqb k 4 ≡ false → eqb k 5 ≡ false → eqb k 6 ≡ false → Q) → Q
by_code {Q = Q} k one two three four five six other =
    go (ℕ_discrete k 1) (ℕ_discrete k 2) (ℕ_discrete k 3) (ℕ_discrete k 4) (ℕ_discrete k 5) (ℕ_discrete k 6)
  where
    go : Dec (k ≡ 1) → Dec (k ≡ 2) → Dec (k ≡ 3) → Dec (k ≡ 4) → Dec (k ≡ 5) → Dec (k ≡ 6) → Q
    go (yes e) b c d g h = one e
    go (no a) (yes e) c d g h = two e
    go (no a) (no b) (yes e) d g h = three e
    go (no a) (no b) (no c) (yes e) g h = four e
    go (no a) (no b) (no c) (no d) (yes e) h = five e
    go (no a) (no b) (no c) (no d) (no g) (yes e) = six e
    go (no a) (no b) (no c) (no d) (no g) (no h) = other (ne_eqb k 1 a) (ne_eqb k 2 b) (ne_eqb k 3 c) (ne_eqb k 4 d) (ne_eqb k 5 g) (ne_eqb k 6 h)
