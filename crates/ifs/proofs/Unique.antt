-- Each contract of this crate is an equation for the answer and the tables, so no second answer meets it.
use mathlib.Core.Path.{◌≡◌, sym, ◌∙◌}
use mathlib.Core.List.{List}
use Prim.Native.Nat.{ℕ, ◌+◌, ◌-◌}
use lib.ListN.{length}
use mathlib.Core.Bool.{Bool}
use Rattle.std.specs.Prelude.{Option, Result}
use Rattle.passes.specs.declared.sweeps.Formed.{Formed}
use Rattle.passes.specs.declared.sweeps.TooDeep.{TooDeep}
use Rattle.passes.specs.Regions.{found, label_from, if_goal, formed_if}
use Rattle.passes.specs.Sweeps.{more, tried, if_tried, swept, sweep_rows, if_rows}
use Rattle.passes.proofs.Unique.{swept_once, tried_once}

module _ (R S : List ℕ) (n : ℕ) (r s : Result Formed TooDeep) (R₁ S₁ R₂ S₂ : List ℕ) where
  pub structure_ifs_lem : swept r R₁ S₁ ≡ if_rows R S n → swept s R₂ S₂ ≡ if_rows R S n → (r ≡ s) × (R₁ ≡ R₂) × (S₁ ≡ S₂)
  structure_ifs_lem = swept_once (if_rows R S n) r s R₁ S₁ R₂ S₂

  pub sweep_ifs : swept r R₁ S₁ ≡ sweep_rows if_tried more (length R + n) R S 0 n 0 → swept s R₂ S₂ ≡ sweep_rows if_tried more (length R + n) R S 0 n 0
      → (r ≡ s) × (R₁ ≡ R₂) × (S₁ ≡ S₂)
  sweep_ifs = swept_once (sweep_rows if_tried more (length R + n) R S 0 n 0) r s R₁ S₁ R₂ S₂

pub try_if : (R S : List ℕ) (n k : ℕ) (r s : Result Bool TooDeep) (R₁ S₁ R₂ S₂ : List ℕ) → tried r R₁ S₁ ≡ if_tried R S n k → tried s R₂ S₂ ≡ if_tried R S n k
    → (r ≡ s) × (R₁ ≡ R₂) × (S₁ ≡ S₂)
try_if R S n k r s R₁ S₁ R₂ S₂ = tried_once (if_tried R S n k) r s R₁ S₁ R₂ S₂

pub find_label : (r s : Option ℕ) (n m d : ℕ) (R : List ℕ) (i : ℕ) → r ≡ found n (label_from n m d R i (n - i)) → s ≡ found n (label_from n m d R i (n - i)) → r ≡ s
find_label r s n m d R i p q = p ∙ sym q

pub if_goal_lem : (r s : Option ℕ) (R S : List ℕ) (n k : ℕ) → r ≡ found n (if_goal R S n k) → s ≡ found n (if_goal R S n k) → r ≡ s
if_goal_lem r s R S n k p q = p ∙ sym q

pub form_if_lem : (R R₁ R₂ : List ℕ) (n k j : ℕ) → R₁ ≡ formed_if R n k j → R₂ ≡ formed_if R n k j → R₁ ≡ R₂
form_if_lem R R₁ R₂ n k j p q = p ∙ sym q
