-- What the answer of the passes says of the definition's `structure`: refused, or the lines of the rows that are left.
use mathlib.Core.Path.{◌≡◌, refl, sym, subst}
use mathlib.Core.List.{List}
use Prim.Native.Nat.{ℕ}
use lib.ListN.{length}
use Rattle.std.specs.Prelude.{Result, Ok, Err}
use Rattle.passes.specs.declared.sweeps.Formed.{Formed}
use Rattle.definition.specs.Tokens.{Line}
use Rattle.definition.specs.Listing.{structure}
use Rattle.definition.specs.Listing.Outcome.{refused}
use Rattle.passes.specs.declared.sweeps.TooDeep.{TooDeep}
use Rattle.passes.specs.Sweeps.{too_deep, swept, if_rows, do_rows}
use Rattle.passes.specs.Dropping.{drop_rows}
use Rattle.coding.proofs.Structuring.{Finished, Structured}
use Rattle.structure.specs.declared.answers.Kept.{Kept}
use Rattle.structure.specs.Answers.{Passes}
use Rattle.structure.specs.Runs.{Ran, ran, behind_loops, loops_ran, behind_ifs, ifs_ran, ran_of}
use Rattle.structure.proofs.Sheeted.{kept_of, refused_left}

pub record Says (low : List Line) (R : List ℕ) (n : ℕ) (p : Passes) (Z : List ℕ) : Type 0 where
  pub deep : p ≡ Err too_deep → structure low ≡ refused 9
  pub lists : (k : Kept) → p ≡ Ok k → Finished low R n Z k.rows k.ifs k.loops

module _ (low : List Line) (R S : List ℕ) (n : ℕ) (st : Structured low R S n) where
  abbrev Ends : Ran → Type 0
  Ends x = Says low R n x.passes x.rows

  too_deep_lem : (Z : List ℕ) → structure low ≡ refused 9 → Ends (ran (Err too_deep) Z)
  too_deep_lem Z e = record { deep = λ q. e; lists = λ k q. refused_left refl q }

  all_done : (k : Kept) (Z : List ℕ) → Finished low R n Z k.rows k.ifs k.loops → Ends (ran (Ok k) Z)
  unfolding kept_of
  all_done k Z f = record {
    deep = λ q. refused_left q refl;
    lists = λ j q. subst (λ (x : Passes). Finished low R n Z (kept_of x).rows (kept_of x).ifs (kept_of x).loops) q f;
  }

  from_loops : (Q T : List ℕ) (m c : ℕ) → swept (Ok (record { rows = m; regions = c })) Q T ≡ if_rows R S n → (v : Result Formed TooDeep) (Q' T' : List ℕ)
      → swept v Q' T' ≡ do_rows Q T m → Ends (behind_loops c v Q' T')
  unfolding behind_loops
  from_loops Q T m c e (Err e₀) Q' T' f = too_deep_lem Q' (st.loops_deep Q T m c Q' T' e f)
  from_loops Q T m c e (Ok g) Q' T' f =
      let d = drop_rows Q' (length T') g.rows in
      all_done (record { rows = d.count; ifs = c; loops = g.regions }) d.rows (st.finished Q T m c Q' T' g.rows g.regions d.rows d.count e f refl)

  from_ifs : (v : Result Formed TooDeep) (Q T : List ℕ) → swept v Q T ≡ if_rows R S n → Ends (behind_ifs v Q T)
  unfolding behind_ifs loops_ran
  from_ifs (Err e₀) Q T e = too_deep_lem Q (st.ifs_deep Q T e)
  from_ifs (Ok g) Q T e =
      let s = do_rows Q T g.rows in
      from_loops Q T g.rows g.regions e s.passed s.rows s.spans refl

  pub says : (p : Passes) (Z : List ℕ) → ran p Z ≡ ran_of R S n → Says low R n p Z
  unfolding ran_of ifs_ran
  says p Z e = let s = if_rows R S n in subst Ends (sym e) (from_ifs s.passed s.rows s.spans refl)
