-- A chain of tests of lengths: one that fails answers false, one that holds leaves the rest.
use mathlib.Core.Path.{◌≡◌, refl, sym}
use mathlib.Core.Bool.{Bool, true, false, not, ◌&&◌}
use Prim.Native.Nat.{ℕ}
use lib.Dec.{eqb}
use borrow.Author.Tests.{eq-eqb, ne_eqb, not-true, not-false}

pub other : (a n : ℕ) (b : Bool) → (a ≡ n → ⊥) → false ≡ (eqb a n && b)
other a n b h = rw (ne_eqb a n h) refl

pub same : (a n : ℕ) (r b : Bool) → a ≡ n → r ≡ b → r ≡ (eqb a n && b)
same a n r b h e = rw (eq-eqb a n h) e

-- a test that is a call's answer
pub falls : (t b s : Bool) → t ≡ s → not t ≡ true → false ≡ (s && b)
falls t b s e h = rw (sym e, not-true t h) refl

pub holds : (t b s r : Bool) → t ≡ s → not t ≡ false → r ≡ b → r ≡ (s && b)
holds t b s r e h k = rw (sym e, not-false t h) k
