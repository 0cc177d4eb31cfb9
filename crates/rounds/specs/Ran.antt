-- What a run of definitions does to a table of n numbers.
use Rattle.std.specs.Prelude.{◌≡◌, Bool, true, false, not, cond, ◌||◌, List, ℕ, ◌+◌, ◌≤◌, eqb, set}
use Rattle.definition.specs.Lists.{count, at}
use Rattle.definition.specs.Offsets.{Known, look, Def, round}
use Rattle.values.specs.Tables.{table}

-- the table, and whether it was changed
pub record Pass : Type 0 where
  pub tab : List ℕ
  pub changed : Bool

-- a pass of its two parts
abbrev pub pass_of : List ℕ → Bool → Pass
pass_of t c = record { tab = t; changed = c }

-- x is learnt of value v, unless it says nothing or something is known
unfoldable pub learnt : List ℕ → ℕ → ℕ → Pass
learnt tab v x = cond (not (eqb (at tab v) 0) || eqb x 0) (pass_of tab false) (pass_of (set tab v x) true)

-- how many places hold 0
unfoldable pub zeros : List ℕ → ℕ
zeros l = count (eqb 0) l

-- the table follows the definition's list, an answer of false says that nothing was learnt, and each change leaves one 0 less
pub record Ran (f : List ℕ) (n : ℕ) (ds : List Def) (tab after : List ℕ) (changed : Bool) : Type 0 where
  pub falls : zeros after + cond changed 1 0 ≤ zeros tab
  pub learns : (k : List Known) → tab ≡ table f n (look k) → after ≡ table f n (look (round ds k))
  pub still : changed ≡ false → (k : List Known) → tab ≡ table f n (look k) → round ds k ≡ k
