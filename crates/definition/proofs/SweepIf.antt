-- Forming an if leaves every earlier line without one: its scan passes the new region, and what kept it from forming stays; so the sweep for ifs is the pass.
use mathlib.Core.Path.{◌≡◌, refl, sym, ap, ap₂, subst, ◌∙◌}
use mathlib.Core.Logic.{◌⊎◌, inl, inr, ⊎_elim}
use mathlib.Core.Bool.{Bool, true, false, ◌&&◌, ◌||◌, false≢true}
use mathlib.Core.Option.{Option, none, some}
use mathlib.Core.List.{List, [], ◌∷◌, ◌++◌, append_assoc}
use Prim.Native.Nat.{ℕ, suc, ◌+◌, ◌≤◌, ◌<◌}
use native.Mathlib.Omega.{arith}
use borrow.Author.Tests.{eqb-true, ltb-false}
use lib.Dec.{eqb, ltb}
use Rattle.definition.specs.Texts.{same}
use Rattle.definition.specs.Lists.{count, has}
use Rattle.definition.specs.Tokens.{Line}
use Rattle.definition.specs.Sorts.{Sort, sort}
use Rattle.definition.specs.Sorts.Sort.{cond_to}
use Rattle.definition.specs.Passes.{label_name, cond_name, is, named, aims, reached, stops, no_line, Formed, Cut, cons_cut, scan_at, scan, if_cut, if_at, if_try, if_step, structure_ifs, raise, raised, opened, closer, form_if}
use Rattle.definition.proofs.Bools.{or_cases, or_left, or_right, is_false, by_test, both_true}
use Rattle.definition.proofs.TextLaws.{same_eq, same_refl}
use Rattle.definition.proofs.ListLaws.{Each, bit, count_cons, count_append, count_at, each_map, ◌▸◌, end}
use Rattle.definition.proofs.SortLaws.{cond_sort, cond_aims}
use Rattle.definition.proofs.Fits.{Fit, fit_at, fits_if}
use Rattle.definition.proofs.Regions.{ScanPasses, hits, scanned, IfHere, if_here, unless_test, unless_none}
use Rattle.definition.proofs.Stops.{stops_not, stops_plain, depth, shallower}
use Rattle.definition.proofs.Counts.{if_lines_lem, if_conds, if_labels, if_aims}
use Rattle.definition.proofs.Plain.{Distinct, Good}
use Rattle.definition.proofs.Reach.{Reach, reach_of, of_reach}
use Rattle.definition.proofs.Sweep.{changed, changed_not, Goes, sweep, pass_is_sweep}

-- ---- a run of lines that a scan passes
abbrev Clear : List ℕ → ℕ → List Line → Type 0
Clear t d xs = Each (λ x. (hits t d x ≡ false) × (stops d x ≡ false)) xs

abbrev add_cut : List Line → Option Cut → Option Cut
add_cut xs = changed (λ c. record { mid = xs ++ c.mid; post = c.post })

add_cons : (x : Line) (xs : List Line) (r : Option Cut) → cons_cut x (add_cut xs r) ≡ add_cut (x ∷ xs) r
unfolding cons_cut
add_cons x xs none = refl
add_cons x xs (some c) = refl

scan_clear : (t : List ℕ) (d : ℕ) (xs zs : List Line) → Clear t d xs → scan t d (xs ++ zs) ≡ add_cut xs (scan t d zs)
unfolding scan scan_at
scan_clear t d [] zs h = changed_not _ (λ c. refl) (scan t d zs)
scan_clear t d (x ∷ xs) zs (c ▸ h) =
    ap₂ (λ (a b : Bool). scan_at a b x (xs ++ zs) (scan t d (xs ++ zs))) c.0 c.1
    ∙ ap (cons_cut x) (scan_clear t d xs zs h) ∙ add_cons x xs (scan t d zs)

-- what a scan finds is a label
scan_label : (t : List ℕ) (d : ℕ) (zs : List Line) (c : Cut) → scan t d zs ≡ some c → 0 < count (named t) zs
scan_label t d zs c e =
    let s = scanned t d zs c e in
    omega (arith, ap (count (named t)) s.whole, count_at (named t) c.mid s.goal s.rest, ap bit s.is_goal)

-- ---- the region formed at l, and a scan from an earlier line to the label t₀ at depth d₀
module _ (l : Line) (mid : List Line) (goal : Line) (rest : List Line) (t : List ℕ) (i : IfHere t l mid goal) (f : Fit t l.toks) where
  abbrev old : List Line
  old = l ∷ (mid ++ goal ∷ rest)

  abbrev new : List Line
  new = opened l ∷ (raised mid ++ closer l.indent ∷ goal ∷ rest)

  aims_old : (u : List ℕ) → count (aims u) old ≡ count (aims u) new + bit (same t u)
  aims_old u = if_aims [] l mid (goal ∷ rest) t i.jump f u

  -- of the gotos behind a label that a scan finds before l, one to t is gone
  behind : (u : List ℕ) (ys : List Line) → (count (aims u) (ys ++ old) ≤ count (aims u) (ys ++ new)) ⊎ ((u ≡ t) × (0 < count (named t) (ys ++ old)))
  behind u ys =
      by_test (same t u)
      (λ e. inr (sym (same_eq t u e), omega (arith, count_append (named t) ys old, count_at (named t) (l ∷ mid) goal rest, ap bit i.is_goal)))
      (λ e. inl (omega (arith, count_append (aims u) ys old, count_append (aims u) ys new, aims_old u, ap bit e)))

  module _ (t₀ : List ℕ) (d₀ : ℕ) (one : count (named t₀) (mid ++ goal ∷ rest) ≤ 1) where
    no_hit : (x : Line) → named t₀ x ≡ false → hits t₀ d₀ x ≡ false
    no_hit x e = ap (λ (b : Bool). b && eqb (suc x.indent) d₀) e

    too_deep_lem : (x : Line) → d₀ ≤ x.indent → hits t₀ d₀ x ≡ false
    too_deep_lem x w = is_false _ (λ h. omega (arith, eqb-true (suc x.indent) d₀ (both_true (named t₀ x) (eqb (suc x.indent) d₀) h).1))

    -- a scan from further out passes the raised body, and the body where it has no such label
    clear_raised : (xs : List Line) → ScanPasses l.indent xs → d₀ ≤ l.indent → Clear t₀ d₀ (raised xs)
    clear_raised xs h w = each_map raise (λ x k. let v : d₀ ≤ suc x.indent = omega (arith, depth l.indent x k) in (too_deep_lem (raise x) v, stops_not d₀ (raise x) v)) h

    clear_body : (xs : List Line) → ScanPasses l.indent xs → d₀ ≤ l.indent → count (named t₀) xs ≡ 0 → Clear t₀ d₀ xs
    clear_body [] h w z = end
    clear_body (x ∷ xs) (k ▸ h) w z =
        let c = count_cons (named t₀) x xs in
        (no_hit x (is_false (named t₀ x) (λ e. omega (arith, ap bit e))), shallower d₀ l.indent x w k) ▸ clear_body xs h w (omega arith)

    -- the two scans: the new one fails; or both find a label, with the same labels passed, and every goto behind but one to t
    record TwoCuts (o n : Option Cut) : Type 0 where
      c : Cut
      c' : Cut
      old_is : o ≡ some c
      new_is : n ≡ some c'
      empty : no_line c.mid ≡ true → no_line c'.mid ≡ true
      labels : (u : List ℕ) → count (named u) c.mid ≡ count (named u) c'.mid
      gotos : (u : List ℕ) → (count (aims u) c.post ≤ count (aims u) c'.post) ⊎ ((u ≡ t) × (0 < count (named t) c.post))

    abbrev AfterIf : Option Cut → Option Cut → Type 0
    AfterIf o n = (n ≡ none) ⊎ TwoCuts o n

    abbrev around : Option Cut → Option Cut
    around r = add_cut (opened l ∷ raised mid) (add_cut (closer l.indent ∷ []) r)

    new_scan : d₀ ≤ l.indent → scan t₀ d₀ new ≡ around (scan t₀ d₀ (goal ∷ rest))
    new_scan w =
        scan_clear t₀ d₀ (opened l ∷ raised mid) (closer l.indent ∷ goal ∷ rest)
        ((too_deep_lem (opened l) w, stops_not d₀ (opened l) w) ▸ clear_raised mid i.runs w)
        ∙ ap (add_cut (opened l ∷ raised mid)) (scan_clear t₀ d₀ (closer l.indent ∷ []) (goal ∷ rest)
        ((too_deep_lem (closer l.indent) w, stops_not d₀ (closer l.indent) w) ▸ end))

    old_scan : d₀ ≤ l.indent → count (named t₀) mid ≡ 0 → scan t₀ d₀ old ≡ add_cut (l ∷ mid) (scan t₀ d₀ (goal ∷ rest))
    old_scan w z = scan_clear t₀ d₀ (l ∷ mid) (goal ∷ rest) ((too_deep_lem l w, stops_not d₀ l w) ▸ clear_body mid i.runs w z)

    at_region : (b : Bool) → ltb l.indent d₀ ≡ b → (r : Option Cut) → scan t₀ d₀ (goal ∷ rest) ≡ r → AfterIf (scan t₀ d₀ old) (scan t₀ d₀ new)
    unfolding scan scan_at label_name named is has no_line
    at_region true e r er =
        let tail : List Line = raised mid ++ closer l.indent ∷ goal ∷ rest in
        inl (ap₂ (λ (a b : Bool). scan_at a b (opened l) tail (scan t₀ d₀ tail))
        (no_hit (opened l) (ap (λ (s : Sort). is t₀ (label_name s)) f.open_sort))
        (stops_plain d₀ (opened l) (ap (λ (s : Sort). has (label_name s)) f.open_sort) ∙ e))
    at_region false e none er = inl (new_scan (ltb-false l.indent d₀ e) ∙ ap around er)
    at_region false e (some q) er =
        let w : d₀ ≤ l.indent = ltb-false l.indent d₀ e in
        let z : count (named t₀) mid ≡ 0 = omega (arith, scan_label t₀ d₀ (goal ∷ rest) q er, count_append (named t₀) mid (goal ∷ rest)) in
        inr (record {
          c = record { mid = l ∷ (mid ++ q.mid); post = q.post };
          c' = record { mid = opened l ∷ (raised mid ++ closer l.indent ∷ q.mid); post = q.post };
          old_is = old_scan w z ∙ ap (add_cut (l ∷ mid)) er;
          new_is = new_scan w ∙ ap around er;
          empty = λ h. absurd (false≢true h);
          labels = λ u. sym (if_labels [] l mid q.mid t i.jump f u);
          gotos = λ u. inl (omega arith);
        })

    pass_line : (x : Line) (xs : List Line) (a b : Bool) (o n : Option Cut) → AfterIf o n → AfterIf (scan_at a b x (xs ++ old) o) (scan_at a b x (xs ++ new) n)
    unfolding scan_at cons_cut no_line
    pass_line x xs true b o n r =
        inr (record {
          c = record { mid = []; post = x ∷ (xs ++ old) };
          c' = record { mid = []; post = x ∷ (xs ++ new) };
          old_is = refl;
          new_is = refl;
          empty = λ h. h;
          labels = λ u. refl;
          gotos = λ u. behind u (x ∷ xs);
        })
    pass_line x xs false true o n r = inl refl
    pass_line x xs false false o n (inl e) = inl (ap (cons_cut x) e)
    pass_line x xs false false o n (inr k) =
        inr (record {
          c = record { mid = x ∷ k.c.mid; post = k.c.post };
          c' = record { mid = x ∷ k.c'.mid; post = k.c'.post };
          old_is = ap (cons_cut x) k.old_is;
          new_is = ap (cons_cut x) k.new_is;
          empty = λ h. absurd (false≢true h);
          labels = λ u. omega (arith, count_cons (named u) x k.c.mid, count_cons (named u) x k.c'.mid, k.labels u);
          gotos = k.gotos;
        })

    scans : (xs : List Line) → AfterIf (scan t₀ d₀ (xs ++ old)) (scan t₀ d₀ (xs ++ new))
    unfolding scan
    scans [] = at_region (ltb l.indent d₀) refl (scan t₀ d₀ (goal ∷ rest)) refl
    scans (x ∷ xs) = pass_line x xs (hits t₀ d₀ x) (stops d₀ x) (scan t₀ d₀ (xs ++ old)) (scan t₀ d₀ (xs ++ new)) (scans xs)

  -- ---- an earlier line l₀ that could not be formed
  module _ (pre₀ : List Line) (l₀ : Line) (xs : List Line) (dis : Distinct (pre₀ ++ l₀ ∷ (xs ++ old))) where
    labels_at : (u : List ℕ) → count (named u) (pre₀ ++ l₀ ∷ (xs ++ old)) ≡ count (named u) pre₀ + bit (named u l₀) + count (named u) (xs ++ old)
    labels_at u = count_at (named u) pre₀ l₀ (xs ++ old)

    aims_at : (u : List ℕ) → count (aims u) (pre₀ ++ l₀ ∷ (xs ++ old)) ≡ count (aims u) pre₀ + bit (aims u l₀) + count (aims u) xs + count (aims u) old
    aims_at u = omega (arith, count_at (aims u) pre₀ l₀ (xs ++ old), count_append (aims u) xs old)

    -- the label t stands once
    goal_once : count (named t) (xs ++ old) ≤ 1
    goal_once = omega (arith, labels_at t, dis t (omega (arith, aims_at t, aims_old t, ap bit (same_refl t))))

    module _ (t₀ : List ℕ) (jump₀ : sort l₀ ≡ cond_to t₀) where
      once : count (named t₀) (mid ++ goal ∷ rest) ≤ 1
      once =
          omega (
            arith,
            labels_at t₀,
            count_append (named t₀) xs old,
            count_cons (named t₀) l (mid ++ goal ∷ rest),
            dis t₀ (omega (arith, aims_at t₀, ap bit (cond_aims l₀ t₀ jump₀))),
          )

      abbrev test : Cut → Bool
      test c = no_line c.mid || reached (pre₀ ++ l₀ ∷ c.post) c.mid

      module _ (o n : Option Cut) (eo : scan t₀ l₀.indent (xs ++ old) ≡ o) (k : TwoCuts t₀ l₀.indent once o n) where
        -- a label that the scan passed is not t where t stands behind it
        not_goal : (u : List ℕ) → (u ≡ t) × (0 < count (named t) k.c.post) → 0 < count (named u) k.c.mid → ⊥
        not_goal u p a =
            let s = scanned t₀ l₀.indent (xs ++ old) k.c (eo ∙ k.old_is) in
            omega (
              arith,
              ap (λ (z : List ℕ). count (named z) k.c.mid) p.0,
              p.1,
              goal_once,
              ap (count (named t)) s.whole,
              ap (count (named t)) s.post_is,
              count_append (named t) k.c.mid (s.goal ∷ s.rest),
            )

        again : Reach (pre₀ ++ l₀ ∷ k.c.post) k.c.mid → Reach (pre₀ ++ l₀ ∷ k.c'.post) k.c'.mid
        again r = (
          r.0,
          omega (arith, r.1, k.labels r.0),
          ⊎_elim (λ w. omega (arith, w, r.2, count_at (aims r.0) pre₀ l₀ k.c.post, count_at (aims r.0) pre₀ l₀ k.c'.post))
              (λ p. absurd (not_goal r.0 p r.1)) (k.gotos r.0),
        )

        both_cut : test k.c ≡ true → test k.c' ≡ true
        both_cut =
            let c : Cut = k.c in
            let c' : Cut = k.c' in
            let e' : Bool = no_line c'.mid in
            let r' : Bool = reached (pre₀ ++ l₀ ∷ c'.post) c'.mid in
            or_cases (no_line c.mid) (reached (pre₀ ++ l₀ ∷ c.post) c.mid) (λ h. or_left e' r' (k.empty h))
            (λ h. or_right e' r' (of_reach (pre₀ ++ l₀ ∷ c'.post) c'.mid (again (reach_of (pre₀ ++ l₀ ∷ c.post) c.mid h))))

      cut_none : (r : Option Cut) (c : Cut) → r ≡ some c → test c ≡ true → if_cut pre₀ l₀ r ≡ none
      unfolding if_cut
      cut_none r c e h = ap (if_cut pre₀ l₀) e ∙ unless_none (test c) c.mid (form_if pre₀ l₀ c.mid c.post) h

      cut_test : (r : Option Cut) (c : Cut) → r ≡ some c → if_cut pre₀ l₀ r ≡ none → test c ≡ true
      unfolding if_cut
      cut_test r c e h = unless_test (test c) c.mid (form_if pre₀ l₀ c.mid c.post) (sym (ap (if_cut pre₀ l₀) e) ∙ h)

      dead_cut : (o n : Option Cut) → scan t₀ l₀.indent (xs ++ old) ≡ o → AfterIf t₀ l₀.indent once o n → if_cut pre₀ l₀ o ≡ none → if_cut pre₀ l₀ n ≡ none
      unfolding if_cut
      dead_cut o n eo (inl z) e = ap (if_cut pre₀ l₀) z
      dead_cut o n eo (inr k) e = cut_none n k.c' k.new_is (both_cut o n eo k (cut_test o k.c k.old_is e))

    dead_at : (c : Option (List ℕ)) → cond_name (sort l₀) ≡ c → if_at pre₀ l₀ (xs ++ old) c ≡ none → if_at pre₀ l₀ (xs ++ new) c ≡ none
    unfolding if_at
    dead_at none n e = refl
    dead_at (some u) n e =
        let j = cond_sort (sort l₀) u n in
        dead_cut u j (scan u l₀.indent (xs ++ old)) (scan u l₀.indent (xs ++ new)) refl (scans u l₀.indent (once u j) xs) e

-- ---- the theorem: each line is tried once, the line behind an `if (..) {` next
pub distinct_if : (pre : List Line) (l : Line) (mid post : List Line) (t : List ℕ) → sort l ≡ cond_to t → Fit t l.toks
    → Distinct (pre ++ l ∷ (mid ++ post)) → Distinct (form_if pre l mid post)
distinct_if pre l mid post t j f d u a = omega (arith, if_labels pre l mid post t j f u, d u (omega (arith, if_aims pre l mid post t j f u)))

goes : (pre : List Line) (l : Line) (mid : List Line) (goal : Line) (rest : List Line) (t : List ℕ) → IfHere t l mid goal → Good (pre ++ l ∷ (mid ++ goal ∷ rest))
    → Goes if_try Good pre l (mid ++ goal ∷ rest) (form_if pre l mid (goal ∷ rest))
unfolding if_try if_at cond_name
goes pre l mid goal rest t i g =
    let post : List Line = goal ∷ rest in
    let f : Fit t l.toks = fit_at pre l (mid ++ post) t i.jump g.0 in
    let next : List Line = raised mid ++ closer l.indent ∷ post in
    record {
      next = opened l;
      ys = next;
      out_is = refl;
      good = (fits_if pre l mid post t f g.0, distinct_if pre l mid post t i.jump f g.1);
      fewer = if_conds pre l mid post t i.jump f;
      longer = omega (arith, if_lines_lem pre l mid post t i.jump f);
      still = ap (λ (s : Sort). if_at pre (opened l) next (cond_name s)) f.open_sort;
      dead = λ q p ps e h.
          dead_at l mid goal rest t i f q p ps
          (subst Distinct (ap (λ (z : List Line). z ++ l ∷ (mid ++ post)) (sym e) ∙ append_assoc q (p ∷ ps) (l ∷ (mid ++ post))) g.1) (cond_name (sort p)) refl h;
    }

-- a region formed leaves the lines good, takes a conditional jump, adds at most a line and wakes no line before it
pub if_goes : (pre : List Line) (l : Line) (xs : List Line) (o : Formed) → if_try pre l xs ≡ some o → Good (pre ++ l ∷ xs) → Goes if_try Good pre l xs o.lines
if_goes pre l xs o = if_here pre l xs o (λ z q. Good (pre ++ l ∷ z) → Goes if_try Good pre l z q.lines) (λ t mid goal rest. goes pre l mid goal rest t)

pub ifs_swept : (ls : List Line) → Good ls → structure_ifs ls ≡ sweep if_try ls
unfolding structure_ifs if_step
ifs_swept = pass_is_sweep if_try Good if_goes
