-- Demand 3 for every file that edition 1 accepts, under its two premises: each live conditional branch has a destination, and no supplied
-- name spells the label of a block. The lowered lines are those of the definition; what they owe the passes is proved of lowering.
use mathlib.Core.Path.{◌≡◌, sym, subst}
use mathlib.Core.Bool.{true}
use mathlib.Core.List.{List}
use Prim.Native.Nat.{ℕ, ◌+◌, ◌≤◌, ◌<◌}
use lib.Dec.{ltb}
use Rattle.definition.specs.Lists.{all, count, among}
use Rattle.definition.specs.Edition.{edition1}
use Rattle.definition.specs.Ssa.{Function}
use Rattle.definition.specs.Read.{read}
use Rattle.definition.specs.Numbers.{label}
use Rattle.definition.specs.Lookup.{order}
use Rattle.definition.specs.Passes.{conds, aims, named, aimed}
use Rattle.definition.specs.Listing.{Listing, structure, list}
use Rattle.definition.specs.Listing.Outcome.{listed}
use Rattle.definition.proofs.ListLaws.{Each, count_any}
use Rattle.definition.proofs.Refusals.{lowered}
use Rattle.definition.proofs.Steps.{Run, run, few, unguarded}
use Rattle.definition.proofs.Plain.{Plain, Met}
use Rattle.definition.proofs.Structured.{Shaped, Structured, shaped, structured}
use Rattle.definition.proofs.Indents.{Low, indents}
use Rattle.definition.proofs.LoweredAims.{destined, unspelled}
use Rattle.definition.proofs.LoweredRead.{edition1_text}
use Rattle.definition.proofs.Accepted.{Within, owes, finished, lowered_within, is_plain, roomy}

-- the labels of a function: `loc_X` for the start X of every block
abbrev pub Own : Function → List ℕ → Type 0
Own F t = (a : ℕ) × (among a (order F) ≡ true) × (t ≡ label a)

module _ (f : List ℕ) (bytes : all (λ b. ltb b 256) f ≡ true) (L : Listing) (accepted : list edition1 f ≡ listed L) where
  plain : Plain (lowered edition1 f)
  plain = is_plain edition1 edition1_text f bytes L accepted

  to_it : structure (lowered edition1 f) ≡ listed L
  to_it = finished edition1 edition1_text f bytes L accepted

  -- every clause but the one on gotos and labels, for every accepted file
  pub without_premises : Shaped (lowered edition1 f) L.lines
  without_premises = shaped _ L plain to_it

  meets_own : destined (read edition1 f) ≡ true → unspelled (read edition1 f) ≡ true → Met (Own (read edition1 f)) (lowered edition1 f)
  unfolding aimed
  meets_own d u t o a =
      let e = o.2 in
      subst (λ (n : List ℕ). count (named n) (lowered edition1 f) ≡ 1) (sym e)
      ((owes edition1 edition1_text f bytes L accepted).meets d u o.0 o.1
      (count_any (aims (label o.0)) (lowered edition1 f) (subst (λ (n : List ℕ). 0 < count (aims n) (lowered edition1 f)) e a)))

  -- demand 3
  pub demand_3 : destined (read edition1 f) ≡ true → unspelled (read edition1 f) ≡ true
      → Structured (Own (read edition1 f)) (lowered edition1 f) L.lines
  demand_3 d u = structured _ L plain to_it _ (meets_own d u)

  -- ifs and loops are the numbers of steps of the two passes, and each pass ended where no region could be formed
  pub steps : Run (lowered edition1 f) L
  steps = run _ L plain.fits to_it

  -- they are no more than the conditional jumps, and the Rust's guard is out of reach
  pub few_steps : L.ifs + L.loops ≤ conds (lowered edition1 f)
  few_steps = few _ _ _ _ _ plain.fits steps.if_steps steps.do_steps

  pub guard_unreached : (L.ifs < 10000) × (L.loops < 10000)
  unfolding edition1
  guard_unreached =
      unguarded _ _ _ _ _ plain.fits (lowered_within edition1 edition1_text f bytes L accepted).lines
      steps.if_steps steps.do_steps

  -- every indent fits a byte
  pub low_indents : Each Low L.lines
  low_indents = indents _ L plain to_it

  -- the listing fits the lent buffers
  pub has_room : Within edition1.lent L.lines
  unfolding edition1
  has_room = roomy edition1 edition1_text f bytes L accepted
