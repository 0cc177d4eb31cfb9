-- What the table of owners holds after all mentions: entries of 1 are the expressions that are mentioned once.
use mathlib.Core.Path.{◌≡◌, refl, sym, ap, ◌∙◌}
use mathlib.Core.Bool.{Bool, cond, ◌&&◌}
use native.Mathlib.Numerals.{add-one}
use lib.ListN.{take}
use Rattle.std.specs.List.{list_all}
use Rattle.std.proofs.lemmas.List.Folds.{list_all_more}
use mathlib.Core.List.{List, [], ◌∷◌}
use Prim.Native.Nat.{ℕ, zero, suc, ◌-◌, ◌≤◌, ◌<◌}
use native.Mathlib.Decide.{ℕ_discrete}
use native.Mathlib.Omega.{arith}
use lib.Dec.{eqb}
use lib.ListN.{length, get_or, set, replicate, length-set, length-replicate, get_or-replicate}
use lib.Seq.{get_or-set_same, get_or-set_other, set_out}
use borrow.Author.Tests.{eq-eqb, ne_eqb}
use Rattle.definition.specs.Lists.{count, gather, range, all_below, at}
use Rattle.definition.proofs.Runs.{loop_start}
use Rattle.owned.specs.Tally.{more, mentioned, tally}
use Rattle.records.proofs.Below.{all_same}

-- ---- one mention
pub more_none : (x : ℕ) → x ≡ 0 → 1 ≡ more x
unfolding more
more_none x e = rw e

pub more_some : (x : ℕ) → (x ≡ 0 → ⊥) → 2 ≡ more x
unfolding more
more_some zero h = absurd (h refl)
more_some (suc n) h = refl

pub mention_in : (t : List ℕ) (e x : ℕ) → x ≡ more (get_or t e 0) → set t e x ≡ mentioned t e
unfolding mentioned at
mention_in t e x h = rw h

pub mention_out : (t : List ℕ) (e : ℕ) → length t ≤ e → t ≡ mentioned t e
unfolding mentioned
mention_out t e h = sym (set_out t e (more (at t e)) h)

mention_length : (t : List ℕ) (e : ℕ) → length (mentioned t e) ≡ length t
unfolding mentioned
mention_length t e = length-set t e (more (at t e))

pub mention_keeps : (t u v : List ℕ) (e : ℕ) → u ≡ mentioned t e → length t ≡ length v → length u ≡ length v
mention_keeps t u v e p h = ap length p ∙ mention_length t e ∙ h

-- ---- the first entries
pub front_all : (p : ℕ → Bool) (t : List ℕ) (n : ℕ) → n ≤ length t → list_all p (take n t) ≡ all_below n (λ e. p (at t e))
unfolding all_below at
front_all p t zero h = refl
front_all p t (suc n) h =
    rw (← add-one) (list_all_more p t n 0 (omega arith) ∙ ap (λ (b : Bool). b && p (get_or t n 0)) (front_all p t n (omega arith)))

-- ---- runs of mentions
pub tally_length : (es t : List ℕ) → length (tally t es) ≡ length t
unfolding tally
tally_length [] t = refl
tally_length (e ∷ es) t = tally_length es (mentioned t e) ∙ mention_length t e

pub tally_keeps : (t u v es : List ℕ) → u ≡ tally t es → length t ≡ length v → length u ≡ length v
tally_keeps t u v es p h = ap length p ∙ tally_length es t ∙ h

-- a tally is a run
pub tally_none : (t : List ℕ) → tally t [] ≡ t
unfolding tally
tally_none t = refl

pub tally_next : (t : List ℕ) (e : ℕ) (es : List ℕ) → tally t (e ∷ es) ≡ tally (mentioned t e) es
unfolding tally
tally_next t e es = refl

-- and begins with all of n records
pub runs_start : (g : ℕ → List ℕ) (n m : ℕ) (t : List ℕ) → n ≡ m → tally t (gather g (range 0 m)) ≡ tally t (gather g (range 0 (n - 0)))
runs_start g n m t = loop_start (λ (k : ℕ). tally t (gather g (range 0 k))) n m

-- ---- what an entry says
-- after n mentions more
after : ℕ → ℕ → ℕ
after x zero = x
after x (suc n) = after (more x) n

same_entry : (t : List ℕ) (e : ℕ) → e < length t → at (mentioned t e) e ≡ more (at t e)
unfolding at mentioned
same_entry t e h = get_or-set_same t e (more (get_or t e 0)) 0 h

other_entry : (t : List ℕ) (x e : ℕ) → (e ≡ x → ⊥) → at (mentioned t x) e ≡ at t e
unfolding at mentioned
other_entry t x e h = get_or-set_other t x e (more (get_or t x 0)) 0 h

tally_at : (es t : List ℕ) (e : ℕ) → e < length t → at (tally t es) e ≡ after (at t e) (count (eqb e) es)
unfolding tally count after
tally_at [] t e h = refl
tally_at (x ∷ es) t e h =
    let k : e < length (mentioned t x) = omega (arith, mention_length t x) in
    tally_at es (mentioned t x) e k ∙ step (ℕ_discrete e x)
  where
    step : Dec (e ≡ x) → after (at (mentioned t x) e) (count (eqb e) es) ≡ after (at t e) (cond (eqb e x) (suc (count (eqb e) es)) (count (eqb e) es))
    step (yes q) = rw (eq-eqb e x q, ← q) (ap (λ (y : ℕ). after y (count (eqb e) es)) (same_entry t e h))
    step (no q) = rw (ne_eqb e x q) (ap (λ (y : ℕ). after y (count (eqb e) es)) (other_entry t x e q))

-- a third mention and any later one change nothing
stays : (n : ℕ) → after 2 n ≡ 2
unfolding after more
stays zero = refl
stays (suc n) = stays n

once : (n : ℕ) → eqb (after 0 n) 1 ≡ eqb n 1
unfolding after more
once zero = refl
once (suc zero) = refl
once (suc (suc n)) = ap (λ (x : ℕ). eqb x 1) (stays n) ∙ sym (ne_eqb (suc (suc n)) 1 (λ e. omega arith))

zero_entry : (n e : ℕ) → e < n → at (replicate n 0) e ≡ 0
unfolding at
zero_entry n e h = get_or-replicate n e 0 0 h

-- a table that began as zeros: 1 says one mention
pub tally_once : (m : ℕ) (es : List ℕ) (n : ℕ) → n ≤ m
    → all_below n (λ e. eqb (at (tally (replicate m 0) es) e) 1) ≡ all_below n (λ e. eqb (count (eqb e) es) 1)
tally_once m es n h = all_same _ _ n (λ e k.
    let l : e < m = omega arith in
    let b : e < length (replicate m 0) = omega (arith, length-replicate {A = ℕ} m 0) in
    ap (λ (x : ℕ). eqb x 1) (tally_at es (replicate m 0) e b ∙ ap (λ (x : ℕ). after x (count (eqb e) es)) (zero_entry m e l))
    ∙ once (count (eqb e) es))
