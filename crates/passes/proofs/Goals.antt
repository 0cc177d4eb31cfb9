-- Where the region at a row ends: the scan's turns, what each return of the goal comes to, and that a goal lies behind its row.
use mathlib.Core.Path.{◌≡◌, refl, sym, ap, ◌∙◌}
use mathlib.Core.Bool.{Bool, true, false, cond, ◌||◌, true≢false}
use mathlib.Core.List.{List}
use mathlib.Core.Logic.{◌⊎◌, inl, inr, ⊎_elim}
use Prim.Native.Nat.{ℕ, zero, suc, ◌+◌, ◌-◌, ◌≤◌, ◌<◌}
use native.Mathlib.Omega.{arith}
use borrow.Author.Tests.{eq-eqb, ne_eqb}
use lib.Dec.{eqb}
use Rattle.definition.specs.Lists.{at}
use Rattle.std.specs.Prelude.{Option, None, Some}
use Rattle.outline.specs.declared.rows.Seen.{Seen}
use Rattle.outline.specs.declared.rows.Seen.TheVariants.{Pass, Hit, End}
use Rattle.outline.specs.Rows.{indent_of, name_of}
use Rattle.outline.specs.Tests.{is_label, is_cond, verdict, back_verdict, along}
use Rattle.outline.specs.Spans.{outside, reached_in}
use Rattle.outline.proofs.Along.{along_turn, along_end}
use Rattle.passes.specs.Regions.{found, onward, label_from, latest, back_from, if_goal_at, if_goal, do_goal_at, do_goal}

-- ---- the row that a search came to
found_end : (n : ℕ) → None ≡ found n n
unfolding found
found_end n = sym (ap (λ (b : Bool). cond b None (Some n)) (eq-eqb n n refl))

found_row : (n j : ℕ) → (j ≡ n → ⊥) → Some j ≡ found n j
unfolding found
found_row n j h = sym (ap (λ (b : Bool). cond b None (Some j)) (ne_eqb j n h))

pub found_is : (n x j : ℕ) → Some j ≡ found n x → (x ≡ j) × (x ≡ n → ⊥)
unfolding found
found_is n x j e = go (eqb x n) refl e
  where
    go : (b : Bool) → eqb x n ≡ b → Some j ≡ cond b None (Some x) → (x ≡ j) × (x ≡ n → ⊥)
    go true q e = cc
    go false q e = (cc, λ z. true≢false (sym (eq-eqb x n z) ∙ q))

-- ---- a loop that acts on what each row says
module _ (act : Seen → ℕ → ℕ → ℕ → ℕ) (says : ℕ → Seen) (n : ℕ) (R : List ℕ) where
  abbrev from : ℕ → ℕ → ℕ
  from j f = along (λ i w r. act (says w) i n r) n R j f

  from_turn : (j : ℕ) → j < n → (w : ℕ) → w ≡ at R j → (v : Seen) → v ≡ says w → from j (n - j) ≡ act v j n (from (j + 1) (n - (j + 1)))
  from_turn j h w e v ev = along_turn (λ i w r. act (says w) i n r) n R j n h w e ∙ ap (λ (x : Seen). act x j n (from (j + 1) (n - (j + 1)))) (sym ev)

  -- where it answers a row's place, the end, or what is said behind the row, it ends in between
  module _ (one : (v : Seen) (i r : ℕ) → (act v i n r ≡ i) ⊎ ((act v i n r ≡ n) ⊎ (act v i n r ≡ r))) where
    pub within : (f i : ℕ) → i + f ≡ n → (i ≤ from i f) × (from i f ≤ n)
    unfolding along
    within zero i e = (omega arith, omega arith)
    within (suc f) i e =
        let h = within f (suc i) (omega arith) in
        ⊎_elim (λ p. (omega arith, omega arith))
        (λ q. ⊎_elim (λ p. (omega arith, omega arith)) (λ p. (omega (arith, h.0), omega (arith, h.1))) q) (one (says (at R i)) i (from (suc i) f))

-- ---- the scan for the label
module _ (n m d : ℕ) (R : List ℕ) (j : ℕ) where
  pub label_none : n ≤ j → None ≡ found n (label_from n m d R j (n - j))
  unfolding label_from
  label_none h = found_end n ∙ ap (found n) (sym (along_end (λ i w r. onward (verdict m d w) i n r) n R j n h))

  module _ (h : j < n) (w : ℕ) (e : w ≡ at R j) where
    label_turn : (x : Seen) → x ≡ verdict m d w → label_from n m d R j (n - j) ≡ onward x j n (label_from n m d R (j + 1) (n - (j + 1)))
    unfolding label_from
    label_turn = from_turn onward (verdict m d) n R j h w e

    pub label_found : Hit ≡ verdict m d w → Some j ≡ found n (label_from n m d R j (n - j))
    unfolding onward
    label_found q = found_row n j (λ z. omega arith) ∙ ap (found n) (sym (label_turn Hit q))

    pub label_ended : End ≡ verdict m d w → None ≡ found n (label_from n m d R j (n - j))
    unfolding onward
    label_ended q = found_end n ∙ ap (found n) (sym (label_turn End q))

    pub label_on : Pass ≡ verdict m d w → label_from n m d R j (n - j) ≡ label_from n m d R (j + 1) (n - (j + 1))
    unfolding onward
    label_on = label_turn Pass

pub onward_one : (n : ℕ) (v : Seen) (i r : ℕ) → (onward v i n r ≡ i) ⊎ ((onward v i n r ≡ n) ⊎ (onward v i n r ≡ r))
unfolding onward
onward_one n Pass i r = inr (inr refl)
onward_one n Hit i r = inl refl
onward_one n End i r = inr (inl refl)

pub latest_one : (n : ℕ) (v : Seen) (i r : ℕ) → (latest v i n r ≡ i) ⊎ ((latest v i n r ≡ n) ⊎ (latest v i n r ≡ r))
unfolding latest
latest_one n Pass i r = inr (inr refl)
latest_one n Hit i r = go (eqb r n)
  where
    go : (b : Bool) → (cond b i r ≡ i) ⊎ ((cond b i r ≡ n) ⊎ (cond b i r ≡ r))
    go true = inl refl
    go false = inr (inr refl)
latest_one n End i r = inr (inl refl)

pub label_within : (n m d : ℕ) (R : List ℕ) (i : ℕ) → i ≤ n → (i ≤ label_from n m d R i (n - i)) × (label_from n m d R i (n - i) ≤ n)
unfolding label_from
label_within n m d R i h = within onward (verdict m d) n R (onward_one n) (n - i) i (omega arith)

pub back_within : (n m d : ℕ) (R : List ℕ) (i : ℕ) → i ≤ n → (i ≤ back_from n m d R i (n - i)) × (back_from n m d R i (n - i) ≤ n)
unfolding back_from
back_within n m d R i h = within latest (back_verdict m d) n R (latest_one n) (n - i) i (omega arith)

-- a choice between n and s, and again n, that is not n
pub chosen : (b q : Bool) (s n : ℕ) → (cond b (cond q n s) n ≡ n → ⊥) → cond b (cond q n s) n ≡ s
chosen true true s n h = absurd (h refl)
chosen true false s n h = refl
chosen false q s n h = absurd (h refl)

-- so it lies behind k, as s does
after : (b : Bool) (q : ℕ → Bool) (s n k j : ℕ) → (k + 1 ≤ s) × (s ≤ n) → j ≡ cond b (cond (q s) n s) n → (j ≡ n → ⊥) → (k < j) × (j < n)
after b q s n k j h e a = let c : j ≡ s = e ∙ chosen b (q s) s n (λ z. a (e ∙ z)) in (omega (arith, h.0), omega (arith, h.1))

pub if_after : (R S : List ℕ) (n k j : ℕ) → k < n → j ≡ if_goal R S n k → (j ≡ n → ⊥) → (k < j) × (j < n)
unfolding if_goal if_goal_at
if_after R S n k j h =
    after (is_cond (at R k)) (λ s. eqb s n || (eqb s (k + 1) || reached_in R S (k + 1) s (k + 1) s)) _ n k j
    (label_within n (name_of (at R k)) (indent_of (at R k)) R (k + 1) (omega arith))

pub if_ahead : (R S : List ℕ) (n k j : ℕ) → k < n → Some j ≡ found n (if_goal R S n k) → (k < j) × (j < n)
if_ahead R S n k j h e = let f = found_is n _ j e in if_after R S n k j h (sym f.0) (λ z. f.1 (f.0 ∙ z))

-- ---- the search for the last back edge: that found so far, unless there is a later one
abbrev pub unless_later : ℕ → Option ℕ → ℕ → Option ℕ
unless_later n last r = cond (eqb r n) last (Some r)

pub back_start : (n r : ℕ) → found n r ≡ unless_later n None r
unfolding found
back_start n r = refl

module _ (n m d : ℕ) (R : List ℕ) (j : ℕ) (last : Option ℕ) where
  last_is : (r : ℕ) → r ≡ n → last ≡ unless_later n last r
  last_is r e = sym (ap (λ (b : Bool). cond b last (Some r)) (eq-eqb r n e))

  pub back_none : n ≤ j → last ≡ unless_later n last (back_from n m d R j (n - j))
  unfolding back_from
  back_none h = last_is _ (along_end (λ i w r. latest (back_verdict m d w) i n r) n R j n h)

  module _ (h : j < n) (w : ℕ) (e : w ≡ at R j) where
    back_turn : (x : Seen) → x ≡ back_verdict m d w → back_from n m d R j (n - j) ≡ latest x j n (back_from n m d R (j + 1) (n - (j + 1)))
    unfolding back_from
    back_turn = from_turn latest (back_verdict m d) n R j h w e

    pub back_ended : End ≡ back_verdict m d w → last ≡ unless_later n last (back_from n m d R j (n - j))
    unfolding latest
    back_ended q = last_is _ (back_turn End q)

    pub back_on : Pass ≡ back_verdict m d w → unless_later n last (back_from n m d R j (n - j)) ≡ unless_later n last (back_from n m d R (j + 1) (n - (j + 1)))
    unfolding latest
    back_on q = ap (unless_later n last) (back_turn Pass q)

    pub back_hit : Hit ≡ back_verdict m d w → unless_later n last (back_from n m d R j (n - j)) ≡ unless_later n (Some j) (back_from n m d R (j + 1) (n - (j + 1)))
    unfolding latest
    back_hit q = ap (unless_later n last) (back_turn Hit q) ∙ go (back_from n m d R (j + 1) (n - (j + 1))) (eqb _ n) refl
      where
        go : (r : ℕ) (b : Bool) → eqb r n ≡ b → unless_later n last (cond b j r) ≡ cond b (Some j) (Some r)
        go r true e = ap (λ (b : Bool). cond b last (Some j)) (ne_eqb j n (omega arith))
        go r false e = ap (λ (b : Bool). cond b last (Some r)) e

pub do_after : (R S : List ℕ) (n k j : ℕ) → k < n → j ≡ do_goal R S n k → (j ≡ n → ⊥) → (k < j) × (j < n)
unfolding do_goal do_goal_at
do_after R S n k j h =
    after (is_label (at R k)) (λ s. eqb s n || (outside (at S (name_of (at R k))) s (s + 1) || reached_in R S (k + 1) s k (s + 1))) _ n k j
    (back_within n (name_of (at R k)) (indent_of (at R k) + 1) R (k + 1) (omega arith))

pub do_ahead : (R S : List ℕ) (n k j : ℕ) → k < n → Some j ≡ found n (do_goal R S n k) → (k < j) × (j < n)
do_ahead R S n k j h e = let f = found_is n _ j e in do_after R S n k j h (sym f.0) (λ z. f.1 (f.0 ∙ z))

pub back_below : (n m d : ℕ) (R : List ℕ) (i j : ℕ) → i ≤ n → Some j ≡ found n (back_from n m d R i (n - i)) → j < n
back_below n m d R i j h e =
    let f = found_is n _ j e in
    let r : ℕ = back_from n m d R i (n - i) in
    let q : r ≡ j = f.0 in
    let z : r ≡ n → ⊥ = f.1 in
    omega (arith, (back_within n m d R i h).1)
