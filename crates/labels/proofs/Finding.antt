-- The search for the block that begins at an address: it goes on where it stopped, and finds none exactly when the address is no block's start.
use mathlib.Core.Path.{◌≡◌, refl, sym, ap, ◌∙◌}
use mathlib.Core.Bool.{cond}
use mathlib.Core.List.{List, map}
use Prim.Native.Nat.{ℕ, zero, suc, ◌+◌, ◌≤◌}
use native.Mathlib.Omega.{arith}
use lib.Dec.{eqb}
use Rattle.std.specs.Prelude.{Option as Answer, Some, None, is_some}
use Rattle.std.specs.Option.{option_map}
use Rattle.std.specs.List.{find, range_with_len}
use Rattle.definition.specs.Edition.{Edition, blocks}
use Rattle.definition.specs.Lists.{any, among, range}
use Rattle.definition.specs.Contents.{size, block_long}
use Rattle.definition.specs.Ssa.{Block}
use Rattle.definition.specs.Read.{all_trees, block_at, read}
use Rattle.definition.specs.Lookup.{order}
use Rattle.definition.proofs.Bools.{by_test, eqb_swap}
use Rattle.records.proofs.Ranges.{map-map}
use Rattle.labels.specs.Labels.{found_from, start_at, block_of}

-- ---- the search, which the code writes as a chain over the numbers of the blocks
found_listed : (g : ℕ → ℕ) (a b m : ℕ) → find (λ (i : ℕ). eqb (g i) a) (range_with_len b m) ≡ found_from g a b m
unfolding found_from
found_listed g a b zero = refl
found_listed g a b (suc m) = ap (λ (r : Answer ℕ). cond (eqb (g b) a) (Some b) r) (found_listed g a (b + 1) m)

pub block_found : (f : List ℕ) (a n : ℕ) (r : Answer ℕ) → n ≡ size f blocks → option_map (λ (i : ℕ). i) r ≡ find (λ (i : ℕ). eqb (block_long f i 0) a) (range_with_len 0 n) → r ≡ block_of f a
unfolding block_of start_at
block_found f a n r e h = same r ∙ h ∙ found_listed (λ (i : ℕ). block_long f i 0) a 0 n ∙ ap (found_from (λ (i : ℕ). block_long f i 0) a 0) e
  where
    same : (r : Answer ℕ) → r ≡ option_map (λ (i : ℕ). i) r
    same None = refl
    same (Some i) = refl

-- ---- what it finds
pub found_high : (g : ℕ → ℕ) (a b m x : ℕ) → found_from g a b m ≡ Some x → b ≤ x
unfolding found_from
found_high g a b zero x e = absurd (cc)
found_high g a b (suc m) x e =
    by_test (eqb (g b) a) (λ t. let q = rw t at e in let p : b ≡ x = cc in omega arith) (λ t. omega (arith, found_high g a (b + 1) m x (rw t at e)))

found_among : (g : ℕ → ℕ) (a b m : ℕ) → is_some (found_from g a b m) ≡ among a (map g (range b m))
unfolding found_from among any range
found_among g a b zero = refl
found_among g a b (suc m) =
    by_test (eqb (g b) a)
    (λ t. rw (t, eqb_swap a (g b), t))
    (λ t. rw (t, eqb_swap a (g b), t) (found_among g a (b + 1) m))

order_is : (E : Edition) (f : List ℕ) → order (read E f) ≡ map (start_at f) (range 0 (size f blocks))
unfolding order read block_at start_at
order_is E f = map-map (λ (b : Block). b.start) (block_at E f (all_trees E f)) (range 0 (size f blocks))

-- a block is found exactly where one begins
pub block_some : (E : Edition) (f : List ℕ) (a : ℕ) → is_some (block_of f a) ≡ among a (order (read E f))
unfolding block_of
block_some E f a = found_among (start_at f) a 0 (size f blocks) ∙ ap (among a) (sym (order_is E f))
