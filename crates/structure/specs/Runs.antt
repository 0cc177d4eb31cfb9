-- The three passes on rows, one behind the other: what they answer, and the rows behind them.
use Rattle.passes.specs.declared.sweeps.Formed.{Formed}
use Rattle.std.specs.Prelude.{List, ℕ, length, Result, Ok, Err}
use Rattle.passes.specs.declared.sweeps.TooDeep.{TooDeep}
use Rattle.passes.specs.Sweeps.{too_deep, Swept, if_rows, do_rows}
use Rattle.passes.specs.Dropping.{drop_rows}
use Rattle.structure.specs.Answers.{Passes}

pub record Ran : Type 0 where
  pub passes : Passes
  pub rows : List ℕ

-- its value from the two
abbrev pub ran : Passes → List ℕ → Ran
ran p R = record { passes = p; rows = R }

-- n rows left, with the ifs and loops formed
abbrev pub left : ℕ → ℕ → ℕ → Passes
left n ifs loops = Ok (record { rows = n; ifs = ifs; loops = loops })

-- behind the pass for loops
unfoldable pub behind_loops : ℕ → Result Formed TooDeep → List ℕ → List ℕ → Ran
behind_loops ifs (Err e₀) R S = ran (Err too_deep) R
behind_loops ifs (Ok f) R S = let g = drop_rows R (length S) f.rows in ran (left g.count ifs f.regions) g.rows

unfoldable pub loops_ran : ℕ → Swept → Ran
loops_ran ifs s = behind_loops ifs s.passed s.rows s.spans

-- behind the pass for ifs
unfoldable pub behind_ifs : Result Formed TooDeep → List ℕ → List ℕ → Ran
behind_ifs (Err e₀) R S = ran (Err too_deep) R
behind_ifs (Ok f) R S = loops_ran f.regions (do_rows R S f.rows)

unfoldable pub ifs_ran : Swept → Ran
ifs_ran s = behind_ifs s.passed s.rows s.spans

unfoldable pub ran_of : List ℕ → List ℕ → ℕ → Ran
ran_of R S n = ifs_ran (if_rows R S n)
