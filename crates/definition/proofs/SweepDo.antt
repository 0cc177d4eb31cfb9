-- Forming a loop leaves every earlier label without one: its search passes the new loop and finds no new back edge, and what kept it from forming stays.
-- So the sweep for loops is the pass.
use mathlib.Core.Path.{◌≡◌, refl, sym, ap, ap₂, subst, ◌∙◌}
use mathlib.Core.Logic.{◌⊎◌, inl, inr, ⊎_elim}
use mathlib.Core.Bool.{Bool, true, false, ◌||◌, true≢false}
use mathlib.Core.Option.{Option, none, some}
use mathlib.Core.List.{List, [], ◌∷◌, ◌++◌, append_assoc}
use Prim.Native.Nat.{ℕ, suc, ◌+◌, ◌≤◌, ◌<◌}
use native.Mathlib.Omega.{arith}
use borrow.Author.Tests.{eqb-true, ltb-false}
use lib.Dec.{eqb, ltb}
use Rattle.definition.specs.Texts.{same}
use Rattle.definition.specs.Lists.{count, has}
use Rattle.definition.specs.Tokens.{Line}
use Rattle.definition.specs.Sorts.{Sort, sort}
use Rattle.definition.specs.Sorts.Sort.{label, do_open, while_close}
use Rattle.definition.specs.Passes.{label_name, cond_name, is, named, aims, aimed, backs, reached, stops, Formed, Back, back_at, last_back, do_cut, do_at, do_try, do_step, structure_do_while, raise, raised, do_line, while_line, form_do}
use Rattle.definition.proofs.Bools.{or_cases, or_left, or_right, is_false, by_test, both_true}
use Rattle.definition.proofs.TextLaws.{same_eq, same_refl}
use Rattle.definition.proofs.ListLaws.{Each, bit, count_cons, count_append, count_at, any_none, any_count, count_any, each_map, ◌▸◌, end, each_to}
use Rattle.definition.proofs.SortLaws.{label_sort, cond_aims}
use Rattle.definition.proofs.TokenSorts.{do_sort}
use Rattle.definition.proofs.Fits.{Fit, fit_back, fits_do}
use Rattle.definition.proofs.Regions.{ScanPasses, edge, edge_sort, backed, DoHere, do_here, unless_test, unless_none}
use Rattle.definition.proofs.Stops.{stops_not, stops_plain, label_runs, depth, shallower}
use Rattle.definition.proofs.Counts.{do_lines, do_conds, do_labels, do_aims}
use Rattle.definition.proofs.Plain.{Distinct, Good}
use Rattle.definition.proofs.Reach.{Reach, reach_of, of_reach}
use Rattle.definition.proofs.Sweep.{changed, changed_not, Goes, sweep, pass_is_sweep}

no_edge : (t : List ℕ) (d : ℕ) (x : Line) (s : Sort) → sort x ≡ s → cond_name s ≡ none → edge t d x ≡ false
unfolding backs is
no_edge t d x s e n =
    is_false (edge t d x) (λ h. true≢false (sym (both_true (eqb x.indent d) (backs t x) h).1 ∙ ap (λ (s : Sort). is t (cond_name s)) e ∙ ap (is t) n))

-- ---- runs of lines that the search for the last back edge passes: with no edge, and with any
abbrev Idle : List ℕ → ℕ → List Line → Type 0
Idle t d xs = Each (λ x. (stops d x ≡ false) × (edge t d x ≡ false)) xs

abbrev add_back : List Line → Option Back → Option Back
add_back xs = changed (λ c. record { mid = xs ++ c.mid; back = c.back; post = c.post })

add_cons : (x : Line) (xs zs : List Line) (r : Option Back) → back_at false false x zs (add_back xs r) ≡ add_back (x ∷ xs) r
unfolding back_at
add_cons x xs zs none = refl
add_cons x xs zs (some c) = refl

idle_back : (t : List ℕ) (d : ℕ) (xs zs : List Line) → Idle t d xs → last_back t d (xs ++ zs) ≡ add_back xs (last_back t d zs)
unfolding last_back
idle_back t d [] zs h = changed_not _ (λ c. refl) (last_back t d zs)
idle_back t d (x ∷ xs) zs (c ▸ h) =
    ap₂ (λ (a b : Bool). back_at a b x (xs ++ zs) (last_back t d (xs ++ zs))) c.0 c.1
    ∙ ap (back_at false false x (xs ++ zs)) (idle_back t d xs zs h) ∙ add_cons x xs (xs ++ zs) (last_back t d zs)

runs_back : (t : List ℕ) (d : ℕ) (xs zs : List Line) (c : Back) → ScanPasses d xs → last_back t d zs ≡ some c → last_back t d (xs ++ zs) ≡ add_back xs (some c)
unfolding last_back back_at
runs_back t d [] zs c h e = e
runs_back t d (x ∷ xs) zs c (k ▸ h) e = ap₂ (λ (a : Bool) (r : Option Back). back_at a (edge t d x) x (xs ++ zs) r) k (runs_back t d xs zs c h e)

-- a back edge is a goto
back_aims : (t : List ℕ) (d : ℕ) (zs : List Line) (c : Back) → last_back t d zs ≡ some c → 0 < count (aims t) zs
back_aims t d zs c e =
    let s = backed t d zs c e in
    omega (arith, ap (count (aims t)) s.whole, count_at (aims t) c.mid c.back c.post, ap bit (cond_aims c.back t s.is_back))

-- ---- the loop formed at l, and a search from an earlier label t₀ at depth d₀
module _ (pre : List Line) (l : Line) (mid : List Line) (b : Line) (post : List Line) (t : List ℕ) (i : DoHere pre t l mid b post) (f : Fit t b.toks) where
  abbrev d : ℕ
  d = suc l.indent

  abbrev old_to : List Line → List Line
  old_to zs = l ∷ (mid ++ b ∷ zs)

  abbrev new_to : List Line → List Line
  new_to zs = do_line l ∷ (raised mid ++ while_line d b ∷ zs)

  abbrev old : List Line
  old = old_to post

  abbrev new : List Line
  new = new_to post

  -- one label t and one goto to t are gone
  labels_old : (u : List ℕ) (zs : List Line) → count (named u) (old_to zs) ≡ count (named u) (new_to zs) + bit (same t u)
  labels_old u zs = do_labels [] l mid b zs t i.head i.is_back f u

  aims_old : (u : List ℕ) (zs : List Line) → count (aims u) (old_to zs) ≡ count (aims u) (new_to zs) + bit (same t u)
  aims_old u zs = do_aims [] l mid b zs t i.head i.is_back f u

  aims_tail : (u : List ℕ) → same t u ≡ false → (ys : List Line) → count (aims u) (ys ++ old) ≡ count (aims u) (ys ++ new)
  aims_tail u e ys = omega (arith, count_append (aims u) ys old, count_append (aims u) ys new, aims_old u post, ap bit e)

  -- no other goto names t, before l or behind b
  nowhere : count (aims t) pre + count (aims t) post ≡ 0
  unfolding aimed
  nowhere = omega (arith, any_none (aims t) (pre ++ l ∷ (mid ++ post)) i.alone, count_at (aims t) pre l (mid ++ post), count_append (aims t) mid post)

  module _ (t₀ : List ℕ) (d₀ : ℕ) (ne : same t t₀ ≡ false) where
    -- a search from further out passes the raised body and sees no edge there
    idle_raised : (xs : List Line) → ScanPasses d xs → d₀ ≤ d → Idle t₀ d₀ (raised xs)
    unfolding label_name has
    idle_raised xs h w =
        each_map raise (λ x k.
        let deeper : edge t₀ d₀ (raise x) ≡ true → ⊥ =
        λ e.
        let n : d ≤ x.indent = ltb-false x.indent d (sym (stops_plain d x (ap (λ (s : Sort). has (label_name s)) (edge_sort t₀ d₀ (raise x) e))) ∙ k) in
        omega (arith, eqb-true (suc x.indent) d₀ (both_true (eqb (suc x.indent) d₀) (backs t₀ (raise x)) e).0) in
        (stops_not d₀ (raise x) (omega (arith, depth d x k)), is_false (edge t₀ d₀ (raise x)) deeper)) h

    abbrev around : Option Back → Option Back
    around r = add_back (do_line l ∷ raised mid) (add_back (while_line d b ∷ []) r)

    new_back : d₀ ≤ d → last_back t₀ d₀ new ≡ around (last_back t₀ d₀ post)
    unfolding cond_name
    new_back w =
        idle_back t₀ d₀ (do_line l ∷ raised mid) (while_line d b ∷ post)
        ((stops_not d₀ (do_line l) w, no_edge t₀ d₀ (do_line l) do_open do_sort refl) ▸ idle_raised mid i.runs w)
        ∙ ap (add_back (do_line l ∷ raised mid)) (idle_back t₀ d₀ (while_line d b ∷ []) post
        ((stops_not d₀ (while_line d b) w, no_edge t₀ d₀ (while_line d b) while_close f.while_sort refl) ▸ end))

    old_back : (q : Back) → d₀ ≤ d → last_back t₀ d₀ post ≡ some q → last_back t₀ d₀ old ≡ add_back (l ∷ mid) (add_back (b ∷ []) (some q))
    unfolding label_name has
    old_back q w e =
        let b_runs : stops d₀ b ≡ false = stops_not d₀ b (omega (arith, i.level)) in
        runs_back t₀ d₀ (l ∷ mid) (b ∷ post) (record { mid = b ∷ q.mid; back = q.back; post = q.post })
        (shallower d₀ d l w (label_runs l (ap (λ (s : Sort). has (label_name s)) i.head)) ▸ each_to (λ x. shallower d₀ d x w) i.runs)
        (runs_back t₀ d₀ (b ∷ []) post q (b_runs ▸ end) e)

    -- the two searches: the new one fails; or it finds an edge beside another goto to t₀; or both find one
    -- and then, but for t, the labels and gotos passed, and the gotos behind, are the same
    record TwoBacks (o n : Option Back) : Type 0 where
      c : Back
      c' : Back
      old_is : o ≡ some c
      new_is : n ≡ some c'
      labels : (u : List ℕ) → same t u ≡ false → count (named u) c.mid ≡ count (named u) c'.mid
      gotos_in : (u : List ℕ) → same t u ≡ false → count (aims u) c.mid ≡ count (aims u) c'.mid
      gotos : (u : List ℕ) → same t u ≡ false → count (aims u) c.post ≡ count (aims u) c'.post
      off : (0 < count (named t) c.post) ⊎ (count (aims t) c.post ≡ 0)

    data AfterDo (o n : Option Back) : Type 0 where
      gone : n ≡ none → AfterDo o n
      other : (c' : Back) → n ≡ some c' → 0 < count (aims t₀) c'.mid + count (aims t₀) c'.post → AfterDo o n
      both : TwoBacks o n → AfterDo o n

    at_loop : (s : Bool) → ltb d d₀ ≡ s → (r : Option Back) → last_back t₀ d₀ post ≡ r → AfterDo (last_back t₀ d₀ old) (last_back t₀ d₀ new)
    unfolding last_back back_at label_name has
    at_loop true e r er =
        let tail : List Line = raised mid ++ while_line d b ∷ post in
        gone (ap (λ (a : Bool). back_at a (edge t₀ d₀ (do_line l)) (do_line l) tail (last_back t₀ d₀ tail))
        (stops_plain d₀ (do_line l) (ap (λ (s : Sort). has (label_name s)) do_sort) ∙ e))
    at_loop false e none er = gone (new_back (ltb-false d d₀ e) ∙ ap around er)
    at_loop false e (some q) er =
        let w : d₀ ≤ d = ltb-false d d₀ e in
        let s = backed t₀ d₀ post q er in
        both (record {
          c = record { mid = old_to q.mid; back = q.back; post = q.post };
          c' = record { mid = new_to q.mid; back = q.back; post = q.post };
          old_is = old_back q w er;
          new_is = new_back w ∙ ap around er;
          labels = λ u z. omega (arith, labels_old u q.mid, ap bit z);
          gotos_in = λ u z. omega (arith, aims_old u q.mid, ap bit z);
          gotos = λ u z. refl;
          off = inr (omega (arith, nowhere, ap (count (aims t)) s.whole, count_at (aims t) q.mid q.back q.post));
        })

    pass_line : (x : Line) (xs : List Line) (s h : Bool) (o n : Option Back) → last_back t₀ d₀ (xs ++ old) ≡ o → AfterDo o n
        → AfterDo (back_at s h x (xs ++ old) o) (back_at s h x (xs ++ new) n)
    unfolding back_at
    pass_line x xs true h o n eo r = gone refl
    pass_line x xs false false o n eo (gone e) = gone (ap (back_at false false x (xs ++ new)) e)
    pass_line x xs false true none n eo (gone e) =
        both (record {
          c = record { mid = []; back = x; post = xs ++ old };
          c' = record { mid = []; back = x; post = xs ++ new };
          old_is = refl;
          new_is = ap (back_at false true x (xs ++ new)) e;
          labels = λ u z. refl;
          gotos_in = λ u z. refl;
          gotos = λ u z. aims_tail u z xs;
          off = inl (omega (arith, count_append (named t) xs old, labels_old t post, ap bit (same_refl t)));
        })
    pass_line x xs false true (some q) n eo (gone e) =
        other (record { mid = []; back = x; post = xs ++ new }) (ap (back_at false true x (xs ++ new)) e)
        (omega (arith, back_aims t₀ d₀ (xs ++ old) q eo, aims_tail t₀ ne xs))
    pass_line x xs false h o n eo (other c' e w) =
        other (record { mid = x ∷ c'.mid; back = c'.back; post = c'.post }) (ap (back_at false h x (xs ++ new)) e)
        (omega (arith, w, count_cons (aims t₀) x c'.mid))
    pass_line x xs false h o n eo (both k) =
        both (record {
          c = record { mid = x ∷ k.c.mid; back = k.c.back; post = k.c.post };
          c' = record { mid = x ∷ k.c'.mid; back = k.c'.back; post = k.c'.post };
          old_is = ap (back_at false h x (xs ++ old)) k.old_is;
          new_is = ap (back_at false h x (xs ++ new)) k.new_is;
          labels = λ u z. omega (arith, k.labels u z, count_cons (named u) x k.c.mid, count_cons (named u) x k.c'.mid);
          gotos_in = λ u z. omega (arith, k.gotos_in u z, count_cons (aims u) x k.c.mid, count_cons (aims u) x k.c'.mid);
          gotos = k.gotos;
          off = k.off;
        })

    searches : (xs : List Line) → AfterDo (last_back t₀ d₀ (xs ++ old)) (last_back t₀ d₀ (xs ++ new))
    unfolding last_back
    searches [] = at_loop (ltb d d₀) refl (last_back t₀ d₀ post) refl
    searches (x ∷ xs) = pass_line x xs (stops d₀ x) (edge t₀ d₀ x) (last_back t₀ d₀ (xs ++ old)) (last_back t₀ d₀ (xs ++ new)) refl (searches xs)

  -- ---- an earlier label l₀ that could not be formed
  module _ (pre₀ : List Line) (l₀ : Line) (xs : List Line) (dis : Distinct (pre₀ ++ l₀ ∷ (xs ++ old))) (alone₀ : count (aims t) pre₀ ≡ 0) where
    -- the label t stands once
    head_once : bit (named t l₀) + count (named t) xs + count (named t) old ≤ 1
    head_once =
        let a : 0 < count (aims t) (pre₀ ++ l₀ ∷ (xs ++ old)) =
        omega (arith, count_at (aims t) pre₀ l₀ (xs ++ old), count_append (aims t) xs old, aims_old t post, ap bit (same_refl t)) in
        omega (arith, count_at (named t) pre₀ l₀ (xs ++ old), count_append (named t) xs old, dis t a)

    module _ (t₀ : List ℕ) (head₀ : sort l₀ ≡ label t₀) where
      apart : same t t₀ ≡ false
      unfolding named label_name is
      apart =
          is_false (same t t₀) (λ h.
          let n : bit (named t l₀) ≡ 1 = ap (λ (s : Sort). bit (is t (label_name s))) (head₀ ∙ ap label (sym (same_eq t t₀ h))) ∙ ap bit (same_refl t) in
          omega (arith, head_once, labels_old t post, ap bit (same_refl t)))

      -- the lines around the back edge
      abbrev without : Back → List Line
      without c = pre₀ ++ l₀ ∷ (c.mid ++ c.post)

      abbrev test : Back → Bool
      test c = aimed t₀ (without c) || reached (pre₀ ++ c.post) c.mid

      aims_all : (c : Back) (u : List ℕ) → count (aims u) (without c) ≡ count (aims u) pre₀ + bit (aims u l₀) + count (aims u) c.mid + count (aims u) c.post
      aims_all c u = omega (arith, count_at (aims u) pre₀ l₀ (c.mid ++ c.post), count_append (aims u) c.mid c.post)

      other_cut : (c : Back) → 0 < count (aims t₀) c.mid + count (aims t₀) c.post → test c ≡ true
      unfolding aimed
      other_cut c w =
          or_left (aimed t₀ (without c)) (reached (pre₀ ++ c.post) c.mid) (count_any (aims t₀) (without c) (omega (arith, aims_all c t₀)))

      module _ (o n : Option Back) (eo : last_back t₀ (suc l₀.indent) (xs ++ old) ≡ o) (k : TwoBacks t₀ (suc l₀.indent) apart o n) where
        -- a label t passed is not reached: it stands once, and no goto but the loop's own names it
        not_head : 0 < count (named t) k.c.mid → 0 < count (aims t) (pre₀ ++ k.c.post) → ⊥
        not_head a w =
            let s = backed t₀ (suc l₀.indent) (xs ++ old) k.c (eo ∙ k.old_is) in
            ⊎_elim
            (λ p. omega (arith, p, head_once, ap (count (named t)) s.whole, count_append (named t) xs old, count_at (named t) k.c.mid k.c.back k.c.post))
            (λ z. omega (arith, z, count_append (aims t) pre₀ k.c.post)) k.off

        again : Reach (pre₀ ++ k.c.post) k.c.mid → Reach (pre₀ ++ k.c'.post) k.c'.mid
        again r =
            by_test (same t r.0)
            (λ e.
            let u : r.0 ≡ t = sym (same_eq t r.0 e) in
            absurd (not_head (subst (λ (z : List ℕ). 0 < count (named z) k.c.mid) u r.1)
            (subst (λ (z : List ℕ). 0 < count (aims z) (pre₀ ++ k.c.post)) u r.2)))
            (λ e. (
              r.0,
              omega (arith, r.1, k.labels r.0 e),
              omega (arith, r.2, k.gotos r.0 e, count_append (aims r.0) pre₀ k.c.post, count_append (aims r.0) pre₀ k.c'.post),
            ))

        both_cut : test k.c ≡ true → test k.c' ≡ true
        unfolding aimed
        both_cut =
            let c : Back = k.c in
            let c' : Back = k.c' in
            let a' : Bool = aimed t₀ (without c') in
            let r' : Bool = reached (pre₀ ++ c'.post) c'.mid in
            or_cases (aimed t₀ (without c)) (reached (pre₀ ++ c.post) c.mid)
            (λ h. or_left a' r' (count_any (aims t₀) (without c')
            (omega (arith, any_count (aims t₀) (without c) h, aims_all c t₀, aims_all c' t₀, k.gotos_in t₀ apart, k.gotos t₀ apart))))
            (λ h. or_right a' r' (of_reach (pre₀ ++ c'.post) c'.mid (again (reach_of (pre₀ ++ c.post) c.mid h))))

      cut_none : (r : Option Back) (c : Back) → r ≡ some c → test c ≡ true → do_cut pre₀ l₀ t₀ r ≡ none
      unfolding do_cut
      cut_none r c e h = ap (do_cut pre₀ l₀ t₀) e ∙ unless_none (test c) c.mid (form_do pre₀ l₀ c.mid c.back c.post) h

      cut_test : (r : Option Back) (c : Back) → r ≡ some c → do_cut pre₀ l₀ t₀ r ≡ none → test c ≡ true
      unfolding do_cut
      cut_test r c e h = unless_test (test c) c.mid (form_do pre₀ l₀ c.mid c.back c.post) (sym (ap (do_cut pre₀ l₀ t₀) e) ∙ h)

      dead_cut : (o n : Option Back) → last_back t₀ (suc l₀.indent) (xs ++ old) ≡ o → AfterDo t₀ (suc l₀.indent) apart o n
          → do_cut pre₀ l₀ t₀ o ≡ none → do_cut pre₀ l₀ t₀ n ≡ none
      unfolding do_cut
      dead_cut o n eo (gone z) e = ap (do_cut pre₀ l₀ t₀) z
      dead_cut o n eo (other c' z w) e = cut_none n c' z (other_cut c' w)
      dead_cut o n eo (both k) e = cut_none n k.c' k.new_is (both_cut o n eo k (cut_test o k.c k.old_is e))

    dead_at : (c : Option (List ℕ)) → label_name (sort l₀) ≡ c → do_at pre₀ l₀ (xs ++ old) c ≡ none → do_at pre₀ l₀ (xs ++ new) c ≡ none
    unfolding do_at
    dead_at none n e = refl
    dead_at (some u) n e =
        let h = label_sort (sort l₀) u n in
        dead_cut u h (last_back u (suc l₀.indent) (xs ++ old)) (last_back u (suc l₀.indent) (xs ++ new)) refl (searches u (suc l₀.indent) (apart u h) xs) e

-- ---- the theorem: each line is tried once, the line behind a `do {` next
distinct_do : (pre : List Line) (l : Line) (mid : List Line) (b : Line) (post : List Line) (t : List ℕ) → DoHere pre t l mid b post → Fit t b.toks
    → Distinct (pre ++ l ∷ (mid ++ b ∷ post)) → Distinct (form_do pre l mid b post)
distinct_do pre l mid b post t i f d u a =
    omega (arith, do_labels pre l mid b post t i.head i.is_back f u, d u (omega (arith, do_aims pre l mid b post t i.head i.is_back f u)))

goes : (pre : List Line) (l : Line) (mid : List Line) (b : Line) (post : List Line) (t : List ℕ) → DoHere pre t l mid b post → Good (pre ++ l ∷ (mid ++ b ∷ post))
    → Goes do_try Good pre l (mid ++ b ∷ post) (form_do pre l mid b post)
unfolding do_try do_at label_name
goes pre l mid b post t i g =
    let f : Fit t b.toks = fit_back pre l mid b post t i.is_back g.0 in
    let old : List Line = l ∷ (mid ++ b ∷ post) in
    let next : List Line = raised mid ++ while_line (suc l.indent) b ∷ post in
    record {
      next = do_line l;
      ys = next;
      out_is = refl;
      good = (fits_do pre l mid post t b f g.0, distinct_do pre l mid b post t i f g.1);
      fewer = do_conds pre l mid b post t i.head i.is_back f;
      longer = omega (arith, do_lines pre l mid b post t i.head i.is_back f);
      still = ap (λ (s : Sort). do_at pre (do_line l) next (label_name s)) do_sort;
      dead = λ q p ps e h.
          dead_at pre l mid b post t i f q p ps (subst Distinct (ap (λ (z : List Line). z ++ old) (sym e) ∙ append_assoc q (p ∷ ps) old) g.1)
          (omega (arith, nowhere pre l mid b post t i f, ap (count (aims t)) e, count_append (aims t) q (p ∷ ps))) (label_name (sort p)) refl h;
    }

-- a loop formed leaves the lines good, takes a conditional jump, adds at most a line and wakes no line before it
pub do_goes : (pre : List Line) (l : Line) (xs : List Line) (o : Formed) → do_try pre l xs ≡ some o → Good (pre ++ l ∷ xs) → Goes do_try Good pre l xs o.lines
do_goes pre l xs o = do_here pre l xs o (λ z q. Good (pre ++ l ∷ z) → Goes do_try Good pre l z q.lines) (λ t mid b post. goes pre l mid b post t)

pub loops_swept : (ls : List Line) → Good ls → structure_do_while ls ≡ sweep do_try ls
unfolding structure_do_while do_step
loops_swept = pass_is_sweep do_try Good do_goes
