-- The answer of the passes and the rows behind them, from what each pass answered.
use mathlib.Core.Path.{◌≡◌, sym, ap, ◌∙◌}
use mathlib.Core.List.{List}
use Prim.Native.Nat.{ℕ}
use lib.ListN.{length}
use Rattle.std.specs.Prelude.{Result, Ok, Err}
use Rattle.passes.specs.declared.sweeps.Formed.{Formed}
use Rattle.passes.specs.declared.sweeps.TooDeep.{TooDeep}
use Rattle.passes.specs.Sweeps.{too_deep, Swept, swept, if_rows, do_rows}
use Rattle.passes.specs.Dropping.{Gathered, gathered, drop_rows}
use Rattle.structure.specs.Runs.{ran, left, behind_loops, loops_ran, behind_ifs, ifs_ran, ran_of}

-- what a pass ended with, its answer known
known : (v u : Result Formed TooDeep) (Q T : List ℕ) (z : Swept) → v ≡ u → swept v Q T ≡ z → swept u Q T ≡ z
known v u Q T z e h = ap (λ (x : Result Formed TooDeep). swept x Q T) (sym e) ∙ h

module _ (R S : List ℕ) (n : ℕ) (v : Result Formed TooDeep) (Q T : List ℕ) (e : swept v Q T ≡ if_rows R S n) where
  pub ifs_refused : v ≡ Err too_deep → ran (Err too_deep) Q ≡ ran_of R S n
  unfolding behind_ifs ifs_ran ran_of
  ifs_refused h = ap ifs_ran (known v (Err too_deep) Q T (if_rows R S n) h e)

  module _ (f : Formed) (is : v ≡ Ok f) (v' : Result Formed TooDeep) (Q' T' : List ℕ) (e' : swept v' Q' T' ≡ do_rows Q T f.rows) where
    ifs_left : loops_ran f.regions (do_rows Q T f.rows) ≡ ran_of R S n
    unfolding behind_ifs ifs_ran ran_of
    ifs_left = ap ifs_ran (known v (Ok f) Q T (if_rows R S n) is e)

    pub loops_refused : v' ≡ Err too_deep → ran (Err too_deep) Q' ≡ ran_of R S n
    unfolding behind_loops loops_ran
    loops_refused h = ap (loops_ran f.regions) (known v' (Err too_deep) Q' T' (do_rows Q T f.rows) h e') ∙ ifs_left

    pub all_left : (g : Formed) → v' ≡ Ok g → (Z : List ℕ) (k : ℕ) → gathered k Z ≡ drop_rows Q' (length T') g.rows
        → ran (left k f.regions g.regions) Z ≡ ran_of R S n
    unfolding behind_loops loops_ran
    all_left g h Z k q =
        ap (λ (x : Gathered). ran (left x.count f.regions g.regions) x.rows) q
        ∙ ap (loops_ran f.regions) (known v' (Ok g) Q' T' (do_rows Q T f.rows) h e') ∙ ifs_left
