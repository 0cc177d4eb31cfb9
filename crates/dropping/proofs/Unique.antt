-- Each contract of this crate is an equation for the answer and the tables, so no second answer meets it.
use mathlib.Core.Path.{◌≡◌, sym, ◌∙◌}
use mathlib.Core.Bool.{Bool}
use mathlib.Core.List.{List}
use Prim.Native.Nat.{ℕ}
use Rattle.passes.specs.Dropping.{kept_row, gathered, gather_from, drop_rows}
use Rattle.passes.proofs.Unique.{gathered_once}

module _ (R : List ℕ) (r s : ℕ) (R₁ R₂ : List ℕ) where
  pub drop_unused_labels_lem : (l n : ℕ) → gathered r R₁ ≡ drop_rows R l n → gathered s R₂ ≡ drop_rows R l n → (r ≡ s) × (R₁ ≡ R₂)
  drop_unused_labels_lem l n = gathered_once (drop_rows R l n) r s R₁ R₂

  pub gather : (S : List ℕ) (n m : ℕ) → gathered r R₁ ≡ gather_from (kept_row S n) R 0 m 0 → gathered s R₂ ≡ gather_from (kept_row S n) R 0 m 0 → (r ≡ s) × (R₁ ≡ R₂)
  gather S n m = gathered_once (gather_from (kept_row S n) R 0 m 0) r s R₁ R₂

pub is_kept : (r s : Bool) (S : List ℕ) (n w : ℕ) → r ≡ kept_row S n w → s ≡ kept_row S n w → r ≡ s
is_kept r s S n w p q = p ∙ sym q
