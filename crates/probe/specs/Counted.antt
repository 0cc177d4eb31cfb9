-- A writer's answer as one number, for a host that has no such type.
use Rattle.std.specs.Prelude.{◌≡◌, List, ℕ}
use Rattle.std.specs.Prelude.{Ok, Err}
use Rattle.leaf.specs.Leaf.{Wrote, answer, written}

unfoldable pub count_of : Wrote → ℕ
count_of (Ok n) = n
count_of (Err x) = 18446744073709551615

-- the text t written into d: the answer and what is left
pub record Counted (t d : List ℕ) (r : ℕ) (d' : List ℕ) : Type 0 where
  pub says : r ≡ count_of (answer t d)
  pub left : d' ≡ written t d
