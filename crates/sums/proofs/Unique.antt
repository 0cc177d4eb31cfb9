-- Each public contract of this crate says the answer exactly: two that meet it, of those over trees for one edition and one list of what is known, are
-- equal.
use mathlib.Core.Path.{◌≡◌, sym, ◌∙◌}
use mathlib.Core.Bool.{Bool}
use mathlib.Core.List.{List}
use Prim.Native.Nat.{ℕ}
use Rattle.definition.specs.Edition.{Edition}
use Rattle.definition.specs.Contents.{text}
use Rattle.definition.specs.Read.{tree_at, all_trees}
use Rattle.definition.specs.Offsets.{Known, look, stack_off, refused7}
use Rattle.values.specs.Tables.{table}
use Rattle.sums.specs.Address.{value_at, op_byte, used_at, const_at, sum_at}

pub value_at_lem : (tab numbers : List ℕ) (from i r s : ℕ) → r ≡ value_at tab numbers from i → s ≡ value_at tab numbers from i → r ≡ s
value_at_lem tab numbers from i r s p q = p ∙ sym q

pub op_byte_lem : (f : List ℕ) (t n r s : ℕ) → r ≡ op_byte f t n → s ≡ op_byte f t n → r ≡ s
op_byte_lem f t n r s p q = p ∙ sym q

pub used_at_lem : (g : ℕ → ℕ) (f : List ℕ) (n r s : ℕ) → r ≡ used_at g f n → s ≡ used_at g f n → r ≡ s
used_at_lem g f n r s p q = p ∙ sym q

pub const_at_lem : (f : List ℕ) (n : ℕ) (r s : Bool) → r ≡ const_at f n → s ≡ const_at f n → r ≡ s
const_at_lem f n r s p q = p ∙ sym q

pub sum_at_lem : (g : ℕ → ℕ) (f : List ℕ) (t n r s : ℕ) → r ≡ sum_at g f t n → s ≡ sum_at g f t n → r ≡ s
sum_at_lem g f t n r s p q = p ∙ sym q

module _ (f tab : List ℕ) (n t : ℕ) (E : Edition) (k : List Known) (section : text E ≡ t) (follows : tab ≡ table f n (look k)) where
  pub stack_off_lem : (i r s : ℕ)
      → ((E : Edition) (k : List Known) → text E ≡ t → tab ≡ table f n (look k) → r ≡ stack_off k (tree_at (all_trees E f) i))
      → ((E : Edition) (k : List Known) → text E ≡ t → tab ≡ table f n (look k) → s ≡ stack_off k (tree_at (all_trees E f) i)) → r ≡ s
  stack_off_lem i r s p q = p E k section follows ∙ sym (q E k section follows)

  pub outside : (r s : Bool)
      → ((E : Edition) (k : List Known) → text E ≡ t → tab ≡ table f n (look k) → r ≡ refused7 k (all_trees E f))
      → ((E : Edition) (k : List Known) → text E ≡ t → tab ≡ table f n (look k) → s ≡ refused7 k (all_trees E f)) → r ≡ s
  outside r s p q = p E k section follows ∙ sym (q E k section follows)
