-- Keys that a closure tells, whatever numbers they are: where the key of each number is what g makes of it, the answers are the tests of g's numbers.
use Rattle.std.specs.Prelude.{◌≡◌, Bool, not, map, ℕ, eqb}
use Rattle.definition.specs.Lists.{all_below, distinct, range}

-- key j x says that x is a key of j; r answers whether key i is none of those before it
pub record IsNew (key : ℕ → ℕ → Type 0) (i : ℕ) (r : Bool) : Type 0 where
  pub says : (g : ℕ → ℕ) → ((j x : ℕ) → key j x → x ≡ g j) → r ≡ all_below i (λ j. not (eqb (g i) (g j)))

-- r answers whether none of n keys stands twice
pub record AreDistinct (key : ℕ → ℕ → Type 0) (n : ℕ) (r : Bool) : Type 0 where
  pub says : (g : ℕ → ℕ) → ((j x : ℕ) → key j x → x ≡ g j) → r ≡ distinct (map g (range 0 n))
