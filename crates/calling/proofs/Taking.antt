-- The arguments that the definition takes: the first of a run of list items, without the address that stands first, are a shorter run.
use mathlib.Core.Path.{◌≡◌, refl, sym, ap, ap₂, ◌∙◌}
use mathlib.Core.Bool.{Bool, true, false, cond}
use mathlib.Core.List.{List}
use Prim.Native.Nat.{ℕ, min, zero, suc, ◌+◌, ◌-◌, ◌≤◌, ◌<◌}
use native.Mathlib.Omega.{arith}
use lib.ListN.{take, drop, get_or}
use mir.Syntax.{w8}
use mir.Val.{Fits}
use borrow.Author.Tests.{lt-ltb}
use Rattle.definition.specs.Edition.{Edition}
use Rattle.definition.specs.Lists.{range}
use Rattle.definition.specs.Owners.{stmt_kind, stmt_field}
use Rattle.records.proofs.Items.{items_few, exprs_fit}
use Rattle.records.proofs.Laws.{kind_exprs}
use Rattle.calling.specs.Given.{CallAt}
use Rattle.lowering.specs.Commas.{trees_of, listed}
use Rattle.lowering.proofs.Commas.{take_listed}
use Rattle.calling.specs.Written.{skip, counted}

module _ (E : Edition) (f : List ℕ) where
  -- without the address
  dropped : (b : Bool) (item n : ℕ) → cond b (drop 1 (trees_of E f (listed f item n))) (trees_of E f (listed f item n)) ≡ trees_of E f (listed f (item + skip b n) (n - skip b n))
  unfolding trees_of listed range skip
  dropped false item n =
      let p : item ≡ item + 0 = omega arith in
      let q : n ≡ n - 0 = omega arith in
      ap₂ (λ (a m : ℕ). trees_of E f (listed f a m)) p q
  dropped true item zero = let z : 0 - skip true 0 ≡ 0 = omega arith in sym (ap (λ (m : ℕ). trees_of E f (listed f (item + skip true 0) m)) z)
  dropped true item (suc m) =
      let s : skip true (suc m) ≡ 1 = ap (λ (b : Bool). cond b 1 0) (lt-ltb 0 (suc m) (omega arith)) in
      let q : suc m - 1 ≡ m = omega arith in
      sym (ap (λ (k : ℕ). trees_of E f (listed f (item + k) (suc m - k))) s ∙ ap (λ (k : ℕ). trees_of E f (listed f (item + 1) k)) q)

  pub counted_are : (b : Bool) (item n c : ℕ)
      → take c (cond b (drop 1 (trees_of E f (listed f item n))) (trees_of E f (listed f item n))) ≡ trees_of E f (counted f b item n c)
  unfolding counted
  counted_are b item n c = ap (take c) (dropped b item n) ∙ take_listed E f c (item + skip b n) (n - skip b n)

-- ---- what the code computes
pub skip_le : (b : Bool) (n : ℕ) → skip b n ≤ n
unfolding skip
skip_le true zero = omega arith
skip_le true (suc n) = rw (lt-ltb 0 (suc n) (omega arith)) (omega arith)
skip_le false n = omega arith

-- ---- the run stays below 32 bits
module _ (f : List ℕ) (bytes : (k : ℕ) → Fits w8 (get_or f k 0)) (i item : ℕ) (at : CallAt f i item) (n : ℕ) (field : n ≡ stmt_field f i 2) where
  pub items_below : item + n < 4294967296
  items_below = omega (arith, exprs_fit f (items_few f bytes at.own) i refl at.inside at.first, kind_exprs f i (stmt_kind f i) n refl 3 at.kind field)

  module _ (b : Bool) (s : ℕ) (skips : s ≡ skip b n) where
    pub skip_fits : s ≤ n
    skip_fits = omega (arith, skip_le b n)

    pub sum_fits : item + s < 4294967296
    sum_fits = omega (arith, items_below, skip_fits)

    pub run_fits : (c m : ℕ) → m ≡ min c (n - s) → item + s + m < 4294967296
    run_fits c m h = omega (arith, items_below, skip_fits)
