-- Each contract of this crate is an equation for the answer and the tables, so no second answer meets it.
use mathlib.Core.Path.{◌≡◌, sym, ◌∙◌}
use mathlib.Core.List.{List}
use Prim.Native.Nat.{ℕ, ◌+◌, ◌-◌}
use lib.ListN.{length}
use mathlib.Core.Bool.{Bool}
use Rattle.std.specs.Prelude.{Option, Result}
use Rattle.passes.specs.declared.sweeps.Formed.{Formed}
use Rattle.passes.specs.declared.sweeps.TooDeep.{TooDeep}
use Rattle.passes.specs.Regions.{found, back_from, do_goal, formed_do}
use Rattle.passes.specs.Sweeps.{tried, do_tried, swept, sweep_rows, keeps, do_rows}
use Rattle.passes.proofs.Unique.{swept_once, tried_once}

module _ (R S : List ℕ) (n : ℕ) (r s : Result Formed TooDeep) (R₁ S₁ R₂ S₂ : List ℕ) where
  pub structure_do_while_lem : swept r R₁ S₁ ≡ do_rows R S n → swept s R₂ S₂ ≡ do_rows R S n → (r ≡ s) × (R₁ ≡ R₂) × (S₁ ≡ S₂)
  structure_do_while_lem = swept_once (do_rows R S n) r s R₁ S₁ R₂ S₂

  pub sweep_do : swept r R₁ S₁ ≡ sweep_rows do_tried keeps (length R + n) R S 0 n 0 → swept s R₂ S₂ ≡ sweep_rows do_tried keeps (length R + n) R S 0 n 0
      → (r ≡ s) × (R₁ ≡ R₂) × (S₁ ≡ S₂)
  sweep_do = swept_once (sweep_rows do_tried keeps (length R + n) R S 0 n 0) r s R₁ S₁ R₂ S₂

pub try_do : (R S : List ℕ) (n k : ℕ) (r s : Result Bool TooDeep) (R₁ S₁ R₂ S₂ : List ℕ) → tried r R₁ S₁ ≡ do_tried R S n k → tried s R₂ S₂ ≡ do_tried R S n k
    → (r ≡ s) × (R₁ ≡ R₂) × (S₁ ≡ S₂)
try_do R S n k r s R₁ S₁ R₂ S₂ = tried_once (do_tried R S n k) r s R₁ S₁ R₂ S₂

pub last_back_lem : (r s : Option ℕ) (n m d : ℕ) (R : List ℕ) (i : ℕ) → r ≡ found n (back_from n m d R i (n - i)) → s ≡ found n (back_from n m d R i (n - i)) → r ≡ s
last_back_lem r s n m d R i p q = p ∙ sym q

pub do_goal_lem : (r s : Option ℕ) (R S : List ℕ) (n k : ℕ) → r ≡ found n (do_goal R S n k) → s ≡ found n (do_goal R S n k) → r ≡ s
do_goal_lem r s R S n k p q = p ∙ sym q

pub form_do_lem : (R R₁ R₂ : List ℕ) (k j : ℕ) → R₁ ≡ formed_do R k j → R₂ ≡ formed_do R k j → R₁ ≡ R₂
form_do_lem R R₁ R₂ k j p q = p ∙ sym q
