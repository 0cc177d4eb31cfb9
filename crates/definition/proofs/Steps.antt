-- A pass is steps, one region each, until none can be formed or one goes too deep.
-- Each step takes a conditional jump away, so their number bounds the steps, and the fuel is never short.
use mathlib.Core.Path.{◌≡◌, refl, sym, ap, subst, ◌∙◌}
use mathlib.Core.Bool.{Bool, true, false}
use mathlib.Core.Option.{Option, none, some}
use mathlib.Core.List.{List, ◌∷◌, ◌++◌}
use Prim.Native.Nat.{ℕ, zero, suc, ◌+◌, ◌≤◌, ◌<◌}
use native.Mathlib.Omega.{arith}
use lib.ListN.{length}
use Rattle.definition.specs.Lists.{any, has}
use Rattle.definition.specs.Tokens.{Line}
use Rattle.definition.specs.Sorts.{sort}
use Rattle.definition.specs.Passes.{cond_name, deep, Formed, if_step, do_step, conds, Passed, pass_n, structure_ifs, structure_do_while, drop_unused_labels, form_if, form_do}
use Rattle.definition.specs.Passes.Passed.{done, too_deep}
use Rattle.definition.specs.Listing.{Listing, after_loops, after_ifs, structure}
use Rattle.definition.specs.Listing.Outcome.{listed}
use Rattle.definition.proofs.Bools.{by_test}
use Rattle.definition.proofs.ListLaws.{count_length}
use Rattle.definition.proofs.Refusals.{no_refusal}
use Rattle.definition.proofs.Fits.{Fit, Fits, fit_at, fit_back, fits_if, fits_do}
use Rattle.definition.proofs.Regions.{IfHere, if_step_lem, DoHere, do_step_lem}
use Rattle.definition.proofs.Counts.{if_conds, do_conds}

-- n regions formed one after the other, none of them too deep, take the lines `low` to `ls`
pub data Steps (step : List Line → Option Formed) (low : List Line) : ℕ → List Line → Type 0 where
  start : Steps step low 0 low
  more : {n : ℕ} {ls : List Line} {o : Formed} → Steps step low n ls → step ls ≡ some o → o.deep ≡ false → Steps step low (suc n) o.lines

-- so a pass ends: where no region can be formed, or where the next one goes too deep
pub data Ends (step : List Line → Option Formed) (low : List Line) : Passed → Type 0 where
  whole : {n : ℕ} {ls : List Line} → Steps step low n ls → step ls ≡ none → Ends step low (done n ls)
  deepens : {n : ℕ} {ls : List Line} {o : Formed} → Steps step low n ls → step ls ≡ some o → o.deep ≡ true → Ends step low too_deep

steps_keep : {step : List Line → Option Formed} (P : List Line → Type 0)
    → ((ls : List Line) (o : Formed) → step ls ≡ some o → o.deep ≡ false → P ls → P o.lines)
    → {low ls : List Line} {n : ℕ} → Steps step low n ls → P low → P ls
steps_keep P k start h = h
steps_keep P k (more {ls = ls} {o = o} s e d) h = k ls o e d (steps_keep P k s h)

-- ---- a pass, one step at a time
module _ (step : List Line → Option Formed) (ls : List Line) where
  pub pass_none : step ls ≡ none → (k n : ℕ) → pass_n step k n ls ≡ done n ls
  unfolding pass_n
  pass_none e zero n = refl
  pass_none e (suc k) n =
      ap (λ (r : Option Formed). elim r [ none ↦ done n ls | some o ↦ elim o.deep [ true ↦ too_deep | false ↦ pass_n step k (suc n) o.lines ] ]) e

  module _ (o : Formed) (e : step ls ≡ some o) (k n : ℕ) where
    by_deep : (b : Bool) → o.deep ≡ b → pass_n step (suc k) n ls ≡ elim b [ true ↦ too_deep | false ↦ pass_n step k (suc n) o.lines ]
    unfolding pass_n
    by_deep b d =
        ap (λ (r : Option Formed). elim r [ none ↦ done n ls | some o ↦ elim o.deep [ true ↦ too_deep | false ↦ pass_n step k (suc n) o.lines ] ]) e
        ∙ ap (λ (b : Bool). elim b [ true ↦ too_deep | false ↦ pass_n step k (suc n) o.lines ]) d

    pub pass_deep : o.deep ≡ true → pass_n step (suc k) n ls ≡ too_deep
    pass_deep = by_deep true

    pub pass_on : o.deep ≡ false → pass_n step (suc k) n ls ≡ pass_n step k (suc n) o.lines
    pass_on = by_deep false

-- what a step, or a try, may come to
pub by_formed : {C : Type 0} (r : Option Formed) → (r ≡ none → C)
    → ((o : Formed) → r ≡ some o → o.deep ≡ true → C) → ((o : Formed) → r ≡ some o → o.deep ≡ false → C) → C
by_formed none f g h = f refl
by_formed (some o) f g h = by_test o.deep (g o refl) (h o refl)

-- ---- a pass whose steps each take a conditional jump away
module _ (step : List Line → Option Formed) (keeps : (ls : List Line) (o : Formed) → step ls ≡ some o → Fits ls → Fits o.lines)
    (fewer : (ls : List Line) (o : Formed) → step ls ≡ some o → Fits ls → conds ls ≡ suc (conds o.lines)) where
  pass_from : (k n : ℕ) (low ls : List Line) → Steps step low n ls → Fits ls → conds ls ≤ k → Ends step low (pass_n step k n ls)
  pass_from zero n low ls s h w =
      by_formed (step ls) (λ e. subst (Ends step low) (sym (pass_none step ls e zero n)) (whole s e))
      (λ o e d. absurd (omega (arith, fewer ls o e h))) (λ o e d. absurd (omega (arith, fewer ls o e h)))
  pass_from (suc k) n low ls s h w =
      let on : (o : Formed) → step ls ≡ some o → o.deep ≡ false → Ends step low (pass_n step k (suc n) o.lines) =
      λ o e d. pass_from k (suc n) low o.lines (more s e d) (keeps ls o e h) (omega (arith, fewer ls o e h)) in
      by_formed (step ls) (λ e. subst (Ends step low) (sym (pass_none step ls e (suc k) n)) (whole s e))
      (λ o e d. subst (Ends step low) (sym (pass_deep step ls o e k n d)) (deepens s e d))
      (λ o e d. subst (Ends step low) (sym (pass_on step ls o e k n d)) (on o e d))

  pass_ends : (low : List Line) → Fits low → Ends step low (pass_n step (conds low) 0 low)
  pass_ends low h = pass_from (conds low) 0 low low start h (omega arith)

  steps_conds : {low ls : List Line} {n : ℕ} → Steps step low n ls → Fits low → n + conds ls ≡ conds low
  steps_conds start h = omega arith
  steps_conds (more {n = n} {ls = ls} {o = o} s e d) h =
      omega (arith, steps_conds s h, fewer ls o e (steps_keep Fits (λ ls o e d. keeps ls o e) s h))

  -- a property that each step keeps, where the jumps fit
  fits_keep : (Q : List Line → Type 0) → ((ls : List Line) (o : Formed) → step ls ≡ some o → o.deep ≡ false → Fits ls → Q ls → Q o.lines)
      → {low ls : List Line} {n : ℕ} → Steps step low n ls → Fits low → Q low → Fits ls × Q ls
  fits_keep Q k s f q = steps_keep (λ ls. Fits ls × Q ls) (λ ls o e d h. (keeps ls o e h.0, k ls o e d h.0 h.1)) s (f, q)

-- ---- the two passes
if_keeps : (ls : List Line) (o : Formed) → if_step ls ≡ some o → Fits ls → Fits o.lines
if_keeps = if_step_lem (λ ls o. Fits ls → Fits o.lines)
    (λ pre l mid goal rest t i h. fits_if pre l mid (goal ∷ rest) t (fit_at pre l _ t i.jump h) h)

if_fewer : (ls : List Line) (o : Formed) → if_step ls ≡ some o → Fits ls → conds ls ≡ suc (conds o.lines)
if_fewer = if_step_lem (λ ls o. Fits ls → conds ls ≡ suc (conds o.lines))
    (λ pre l mid goal rest t i h. if_conds pre l mid (goal ∷ rest) t i.jump (fit_at pre l _ t i.jump h))

do_keeps : (ls : List Line) (o : Formed) → do_step ls ≡ some o → Fits ls → Fits o.lines
do_keeps = do_step_lem (λ ls o. Fits ls → Fits o.lines)
    (λ pre l mid b post t i h. fits_do pre l mid post t b (fit_back pre l mid b post t i.is_back h) h)

do_fewer : (ls : List Line) (o : Formed) → do_step ls ≡ some o → Fits ls → conds ls ≡ suc (conds o.lines)
do_fewer = do_step_lem (λ ls o. Fits ls → conds ls ≡ suc (conds o.lines))
    (λ pre l mid b post t i h. do_conds pre l mid b post t i.head i.is_back (fit_back pre l mid b post t i.is_back h))

if_fits : {low ls : List Line} {n : ℕ} → Steps if_step low n ls → Fits low → Fits ls
if_fits s f = steps_keep Fits (λ ls o e d. if_keeps ls o e) s f

-- a property that each region keeps, where its conditional jump fits and nothing goes too deep
abbrev pub KeptByIf : (List Line → Type 0) → Type 0
KeptByIf Q =
    (pre : List Line) (l : Line) (mid : List Line) (goal : Line) (rest : List Line) (t : List ℕ) → IfHere t l mid goal → Fit t l.toks → any deep mid ≡ false
    → Q (pre ++ l ∷ (mid ++ goal ∷ rest)) → Q (form_if pre l mid (goal ∷ rest))

abbrev pub KeptByDo : (List Line → Type 0) → Type 0
KeptByDo Q =
    (pre : List Line) (l : Line) (mid : List Line) (b : Line) (post : List Line) (t : List ℕ) → DoHere pre t l mid b post → Fit t b.toks → any deep mid ≡ false
    → Q (pre ++ l ∷ (mid ++ b ∷ post)) → Q (form_do pre l mid b post)

-- all of a pass's regions keep it
pub if_steps_keep : (Q : List Line → Type 0) → KeptByIf Q → {low ls : List Line} {n : ℕ} → Steps if_step low n ls → Fits low → Q low → Fits ls × Q ls
if_steps_keep Q k =
    fits_keep if_step if_keeps if_fewer Q (if_step_lem (λ ls o. o.deep ≡ false → Fits ls → Q ls → Q o.lines)
    (λ pre l mid goal rest t i d f. k pre l mid goal rest t i (fit_at pre l _ t i.jump f) d))

pub do_steps_keep : (Q : List Line → Type 0) → KeptByDo Q → {low ls : List Line} {n : ℕ} → Steps do_step low n ls → Fits low → Q low → Fits ls × Q ls
do_steps_keep Q k =
    fits_keep do_step do_keeps do_fewer Q (do_step_lem (λ ls o. o.deep ≡ false → Fits ls → Q ls → Q o.lines)
    (λ pre l mid b post t i d f. k pre l mid b post t i (fit_back pre l mid b post t i.is_back f) d))

-- the passes are their steps, up to the end
pub if_ends : (low : List Line) → Fits low → Ends if_step low (structure_ifs low)
unfolding structure_ifs
if_ends = pass_ends if_step if_keeps if_fewer

pub do_ends : (ls : List Line) → Fits ls → Ends do_step ls (structure_do_while ls)
unfolding structure_do_while
do_ends = pass_ends do_step do_keeps do_fewer

done_steps : {step : List Line → Option Formed} {low ls : List Line} {n : ℕ} → Ends step low (done n ls) → Steps step low n ls × (step ls ≡ none)
done_steps (whole s e) = (s, e)

-- the number of regions is the number of steps, and the pass ends where no region can be formed
pub ifs_done : (low ls : List Line) (n : ℕ) → Fits low → structure_ifs low ≡ done n ls → Steps if_step low n ls × (if_step ls ≡ none)
ifs_done low ls n f e = done_steps (subst (Ends if_step low) e (if_ends low f))

-- each region takes one conditional jump
if_few : {low ls : List Line} {n : ℕ} → Steps if_step low n ls → Fits low → n + conds ls ≡ conds low
if_few = steps_conds if_step if_keeps if_fewer

do_few : {low ls : List Line} {n : ℕ} → Steps do_step low n ls → Fits low → n + conds ls ≡ conds low
do_few = steps_conds do_step do_keeps do_fewer

-- ---- a listing
-- how it came about: ifs and loops are the numbers of steps, and each pass went on until no region could be formed
pub record Run (low : List Line) (L : Listing) : Type 0 where
  pub mid : List Line
  pub fin : List Line
  pub if_steps : Steps if_step low L.ifs mid
  pub if_end : if_step mid ≡ none
  pub do_steps : Steps do_step mid L.loops fin
  pub do_end : do_step fin ≡ none
  pub lines_are : L.lines ≡ drop_unused_labels fin

listed_same : {M L : Listing} → listed M ≡ listed L → M ≡ L
listed_same e = cc

after_loops_lem : (low mid : List Line) (n : ℕ) (L : Listing) → Steps if_step low n mid → if_step mid ≡ none
    → (p : Passed) → Ends do_step mid p → after_loops n p ≡ listed L → Run low L
unfolding after_loops
after_loops_lem low mid n L s e too_deep (deepens u v d) h = no_refusal h
after_loops_lem low mid n L s e (done k fin) (whole u v) h =
    subst (Run low) (listed_same h) (record { mid = mid; fin = fin; if_steps = s; if_end = e; do_steps = u; do_end = v; lines_are = refl })

after_ifs_lem : (low : List Line) (L : Listing) → Fits low → (p : Passed) → Ends if_step low p → after_ifs p ≡ listed L → Run low L
unfolding after_ifs
after_ifs_lem low L f too_deep (deepens s e d) h = no_refusal h
after_ifs_lem low L f (done n mid) (whole s e) h = after_loops_lem low mid n L s e (structure_do_while mid) (do_ends mid (if_fits s f)) h

pub run : (low : List Line) (L : Listing) → Fits low → structure low ≡ listed L → Run low L
unfolding structure
run low L f h = after_ifs_lem low L f (structure_ifs low) (if_ends low f) h

-- no more regions than conditional jumps, and so never 10,000 steps of a pass where 768 lines were lowered
pub few : (low mid fin : List Line) (n k : ℕ) → Fits low → Steps if_step low n mid → Steps do_step mid k fin → n + k ≤ conds low
few low mid fin n k f s u = omega (arith, if_few s f, do_few u (if_fits s f))

pub unguarded : (low mid fin : List Line) (n k : ℕ) → Fits low → length low ≤ 768
    → Steps if_step low n mid → Steps do_step mid k fin → (n < 10000) × (k < 10000)
unfolding conds
unguarded low mid fin n k f w s u = omega (arith, few low mid fin n k f s u, count_length (λ x. has (cond_name (sort x))) low)
