-- A sweep tries each line once, by its index, and goes on with the next line.
-- It comes to what restarting at the top comes to, in lines, count and refusal, where forming a region leaves the lines before it without one.
use mathlib.Core.Path.{◌≡◌, refl, sym, ap, ap₂, subst, ◌∙◌}
use mathlib.Core.Bool.{Bool, true, false}
use mathlib.Core.Option.{Option, none, some}
use mathlib.Core.List.{List, [], ◌∷◌, ◌++◌, append-nil}
use Prim.Native.Nat.{ℕ, zero, suc, ◌+◌, ◌≤◌}
use native.Mathlib.Omega.{arith}
use lib.ListN.{length, take, drop, length-append, drop_of_length-le}
use lib.Seq.{append_snoc, take_at, drop_at}
use Rattle.definition.specs.Lists.{or_else}
use Rattle.definition.specs.Tokens.{Line}
use Rattle.definition.specs.Passes.{Formed, first_formed, conds, Passed, pass_n}
use Rattle.definition.specs.Passes.Passed.{done, too_deep}
use Rattle.definition.proofs.Regions.{Try}
use Rattle.definition.proofs.Steps.{by_formed, pass_none, pass_deep, pass_on}

-- what a scan found, changed by g; it stays where g changes nothing
abbrev pub changed : {A : Type 0} → (A → A) → Option A → Option A
changed g none = none
changed g (some x) = some (g x)

pub changed_not : {A : Type 0} (g : A → A) → ((x : A) → x ≡ g x) → (r : Option A) → r ≡ changed g r
changed_not g same none = refl
changed_not g same (some x) = ap some (same x)

unfoldable pub try_at : Try → List Line → List Line → Option Formed
try_at try pre [] = none
try_at try pre (l ∷ xs) = try pre l xs

-- a try at each of the f lines from line k on, with n regions formed before
unfoldable pub sweep_n : Try → ℕ → ℕ → ℕ → List Line → Passed
sweep_n try zero k n ls = done n ls
sweep_n try (suc f) k n ls =
    elim (try_at try (take k ls) (drop k ls)) [
      | none ↦ sweep_n try f (suc k) n ls
      | some o ↦ elim o.deep [ true ↦ too_deep | false ↦ sweep_n try f (suc k) (suc n) o.lines ]
    ]

-- each line, and each line that a region may add
unfoldable pub sweep : Try → List Line → Passed
sweep try ls = sweep_n try (length ls + conds ls) 0 0 ls

-- ---- the sweep, one turn
module _ (try : Try) (f k n : ℕ) (ls : List Line) where
  abbrev turned : Option Formed → Passed
  turned r = elim r [ none ↦ sweep_n try f (suc k) n ls | some o ↦ elim o.deep [ true ↦ too_deep | false ↦ sweep_n try f (suc k) (suc n) o.lines ] ]

  pub sweep_none : try_at try (take k ls) (drop k ls) ≡ none → sweep_n try (suc f) k n ls ≡ sweep_n try f (suc k) n ls
  unfolding sweep_n
  sweep_none e = ap turned e

  module _ (o : Formed) (e : try_at try (take k ls) (drop k ls) ≡ some o) where
    by_deep : (b : Bool) → o.deep ≡ b → sweep_n try (suc f) k n ls ≡ elim b [ true ↦ too_deep | false ↦ sweep_n try f (suc k) (suc n) o.lines ]
    unfolding sweep_n
    by_deep b d = ap turned e ∙ ap (λ (b : Bool). elim b [ true ↦ too_deep | false ↦ sweep_n try f (suc k) (suc n) o.lines ]) d

    pub sweep_deep : o.deep ≡ true → sweep_n try (suc f) k n ls ≡ too_deep
    sweep_deep = by_deep true

    pub sweep_on : o.deep ≡ false → sweep_n try (suc f) k n ls ≡ sweep_n try f (suc k) (suc n) o.lines
    sweep_on = by_deep false

-- behind the last line there is nothing to try
pub sweep_end : (try : Try) (f k n : ℕ) (ls : List Line) → length ls ≤ k → sweep_n try f k n ls ≡ done n ls
unfolding sweep_n try_at
sweep_end try zero k n ls w = refl
sweep_end try (suc f) k n ls w = sweep_none try f k n ls (ap (try_at try (take k ls)) (drop_of_length-le ls w)) ∙ sweep_end try f (suc k) n ls (omega arith)

-- ---- lines without a region
-- no line of `pre`, behind q and before xs, has a region
abbrev Dead : Try → List Line → List Line → List Line → Type 0
Dead try q [] xs = Unit {0}
Dead try q (p ∷ ps) xs = (try q p (ps ++ xs) ≡ none) × Dead try (q ++ (p ∷ [])) ps xs

-- what a region formed at l has to leave: `next` in the place of l, and no region before it
pub record Goes (try : Try) (Good : List Line → Type 0) (pre : List Line) (l : Line) (xs out : List Line) : Type 0 where
  pub next : Line
  pub ys : List Line
  pub out_is : out ≡ pre ++ next ∷ ys
  pub good : Good out
  pub fewer : conds (pre ++ l ∷ xs) ≡ suc (conds out)
  pub longer : length out ≤ suc (length (pre ++ l ∷ xs))
  pub still : try pre next ys ≡ none
  pub dead : (q : List Line) (p : Line) (ps : List Line) → q ++ p ∷ ps ≡ pre → try q p (ps ++ l ∷ xs) ≡ none → try q p (ps ++ next ∷ ys) ≡ none

module _ (try : Try) where
  at_place : (pre xs ls : List Line) (k : ℕ) → ls ≡ pre ++ xs → length pre ≡ k → try_at try (take k ls) (drop k ls) ≡ try_at try pre xs
  at_place pre xs ls k e w = ap₂ (try_at try) (ap (take k) e ∙ take_at pre xs k w) (ap (drop k) e ∙ drop_at pre xs k w)

  dead_snoc : (q pre : List Line) (l : Line) (xs : List Line) → Dead try q pre (l ∷ xs) → try (q ++ pre) l xs ≡ none → Dead try q (pre ++ (l ∷ [])) xs
  dead_snoc q [] l xs h e = (subst (λ (z : List Line). try z l xs ≡ none) (append-nil q) e, tt)
  dead_snoc q (p ∷ ps) l xs h e =
      let r = dead_snoc (q ++ (p ∷ [])) ps l xs h.1 (subst (λ (z : List Line). try z l xs ≡ none) (sym (append_snoc q p ps)) e) in
      (subst (λ (z : List Line). try q p z ≡ none) (sym (append_snoc ps l xs)) h.0, r)

  -- the step passes what has no region
  dead_skip : (q pre xs : List Line) → Dead try q pre xs → first_formed try q (pre ++ xs) ≡ first_formed try (q ++ pre) xs
  unfolding first_formed or_else
  dead_skip q [] xs h = ap (λ (z : List Line). first_formed try z xs) (sym (append-nil q))
  dead_skip q (p ∷ ps) xs h =
      ap (λ (r : Option Formed). or_else r (first_formed try (q ++ (p ∷ [])) (ps ++ xs))) h.0
      ∙ dead_skip (q ++ (p ∷ [])) ps xs h.1 ∙ ap (λ (z : List Line). first_formed try z xs) (append_snoc q p ps)

  module _ (Good : List Line → Type 0)
      (goes : (pre : List Line) (l : Line) (xs : List Line) (o : Formed) → try pre l xs ≡ some o → Good (pre ++ l ∷ xs) → Goes try Good pre l xs o.lines) where
    dead_keep : (pre : List Line) (l : Line) (xs out : List Line) (g : Goes try Good pre l xs out) (q ps : List Line) → q ++ ps ≡ pre
        → Dead try q ps (l ∷ xs) → Dead try q ps (g.next ∷ g.ys)
    dead_keep pre l xs out g q [] e h = tt
    dead_keep pre l xs out g q (p ∷ ps) e h = (g.dead q p ps e h.0, dead_keep pre l xs out g (q ++ (p ∷ [])) ps (append_snoc q p ps ∙ e) h.1)

    -- restarting, with fuel m, and going on, with fuel f, come to the same, where no line of `pre` has a region
    abbrev Alike : ℕ → Type 0
    Alike f =
        (pre xs ls : List Line) (k m n : ℕ) → ls ≡ pre ++ xs → length pre ≡ k → Dead try [] pre xs → Good ls → length ls + conds ls ≤ f + k → conds ls ≤ m
        → pass_n (first_formed try []) m n ls ≡ sweep_n try f k n ls

    last : (f : ℕ) (pre ls : List Line) (k m n : ℕ) → ls ≡ pre ++ [] → length pre ≡ k → Dead try [] pre []
        → pass_n (first_formed try []) m n ls ≡ sweep_n try f k n ls
    unfolding first_formed
    last f pre ls k m n e w h =
        pass_none (first_formed try []) ls (ap (first_formed try []) e ∙ dead_skip [] pre [] h) m n
        ∙ sym (sweep_end try f k n ls (omega (arith, ap length (e ∙ append-nil pre))))

    module _ (f : ℕ) (ih : Alike f) (pre : List Line) (l : Line) (xs ls : List Line) (k n : ℕ)
        (e : ls ≡ pre ++ l ∷ xs) (w : length pre ≡ k) (h : Dead try [] pre (l ∷ xs)) (g : Good ls) (fuel : length ls + conds ls ≤ suc f + k) where
      here : try_at try (take k ls) (drop k ls) ≡ try pre l xs
      unfolding try_at
      here = at_place pre (l ∷ xs) ls k e w

      step_here : (o : Formed) → try pre l xs ≡ some o → first_formed try [] ls ≡ some o
      unfolding first_formed or_else
      step_here o er = ap (first_formed try []) e ∙ dead_skip [] pre (l ∷ xs) h ∙ ap (λ (r : Option Formed). or_else r (first_formed try (pre ++ (l ∷ [])) xs)) er

      gone : (o : Formed) → try pre l xs ≡ some o → Goes try Good pre l xs o.lines
      gone o er = goes pre l xs o er (subst Good e g)

      turn : (m : ℕ) → conds ls ≤ m → pass_n (first_formed try []) m n ls ≡ sweep_n try (suc f) k n ls
      turn m v =
          by_formed (try pre l xs)
          (λ er.
          ih (pre ++ (l ∷ [])) xs ls (suc k) m n (e ∙ sym (append_snoc pre l xs)) (omega (arith, length-append pre (l ∷ []))) (dead_snoc [] pre l xs h er) g (omega arith) v
          ∙ sym (sweep_none try f k n ls (here ∙ er)))
          (λ o er d. deepened o er d m v) (λ o er d. went o er d m v)
        where
          deepened : (o : Formed) → try pre l xs ≡ some o → o.deep ≡ true → (m : ℕ) → conds ls ≤ m → pass_n (first_formed try []) m n ls ≡ sweep_n try (suc f) k n ls
          deepened o er d zero v = absurd (omega (arith, (gone o er).fewer, ap conds e))
          deepened o er d (suc m) v = pass_deep (first_formed try []) ls o (step_here o er) m n d ∙ sym (sweep_deep try f k n ls o (here ∙ er) d)

          went : (o : Formed) → try pre l xs ≡ some o → o.deep ≡ false → (m : ℕ) → conds ls ≤ m → pass_n (first_formed try []) m n ls ≡ sweep_n try (suc f) k n ls
          went o er d zero v = absurd (omega (arith, (gone o er).fewer, ap conds e))
          went o er d (suc m) v =
              let r = gone o er in
              pass_on (first_formed try []) ls o (step_here o er) m n d
              ∙ ih (pre ++ (r.next ∷ [])) r.ys o.lines (suc k) m (suc n)
              (r.out_is ∙ sym (append_snoc pre r.next r.ys)) (omega (arith, length-append pre (r.next ∷ [])))
              (dead_snoc [] pre r.next r.ys (dead_keep pre l xs o.lines r [] pre refl h) r.still) r.good
              (omega (arith, ap length e, ap conds e, r.longer, r.fewer)) (omega (arith, ap conds e, r.fewer))
              ∙ sym (sweep_on try f k n ls o (here ∙ er) d)

    alike : (f : ℕ) → Alike f
    alike zero pre [] ls k m n e w h g fuel v = last zero pre ls k m n e w h
    alike zero pre (l ∷ xs) ls k m n e w h g fuel v = absurd (omega (arith, ap length e, length-append pre (l ∷ xs)))
    alike (suc f) pre [] ls k m n e w h g fuel v = last (suc f) pre ls k m n e w h
    alike (suc f) pre (l ∷ xs) ls k m n e w h g fuel v = turn f (alike f) pre l xs ls k n e w h g fuel m v

    pub pass_is_sweep : (ls : List Line) → Good ls → pass_n (first_formed try []) (conds ls) 0 ls ≡ sweep try ls
    unfolding sweep
    pass_is_sweep ls g = alike (length ls + conds ls) [] ls ls 0 (conds ls) 0 refl refl tt g (omega arith) (omega arith)
