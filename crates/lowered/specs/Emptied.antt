-- Tables emptied as far as they are filled: behind the file's places they hold zeros, and all zeros where the file is refused.
use Rattle.std.specs.Prelude.{cond, List, ◌++◌, ℕ, ◌≤◌, eqb, length, drop, replicate}
use Rattle.places.specs.Keys.{places_of}

-- how many numbers of a table by place are filled, where s is the answer of checks 1 to 7
unfoldable pub filled_to : List ℕ → ℕ → ℕ
filled_to f s = cond (eqb s 0) (places_of f).total 0

-- the first n numbers of l emptied
unfoldable pub emptied : ℕ → List ℕ → List ℕ
emptied n l = replicate n 0 ++ drop n l

-- each table has n numbers, or more
pub record Reach (n : ℕ) (ns os ps xs ls hs rs ms : List ℕ) : Type 0 where
  pub numbers : n ≤ length ns
  pub offs : n ≤ length os
  pub places : n ≤ length ps
  pub names : n ≤ length xs
  pub live : n ≤ length ls
  pub phi : n ≤ length hs
  pub roots : n ≤ length rs
  pub marks : n ≤ length ms
