-- A run of definitions follows the definition's round: one definition by the table's entry for its value, and runs one behind the other.
use mathlib.Core.Path.{◌≡◌, refl, sym, ap, subst, ◌∙◌}
use mathlib.Core.Bool.{Bool, true, false, cond, ◌||◌, true≢false}
use mathlib.Core.List.{List, [], ◌∷◌, ◌++◌, map, map-append, append-nil}
use Prim.Native.Nat.{ℕ, zero, suc, ◌+◌, ◌≤◌, ◌<◌}
use native.Mathlib.Decide.{ℕ_discrete}
use native.Mathlib.Omega.{arith}
use lib.Dec.{eqb}
use lib.ListN.{length, set}
use borrow.Author.Tests.{eq-eqb, ne_eqb}
use Rattle.definition.specs.Edition.{Edition}
use Rattle.definition.specs.Lists.{only, gather, range, at}
use Rattle.definition.specs.Owners.{block_phis, block_stmts, first_phi, first_stmt}
use Rattle.definition.specs.Read.{all_trees, stmt_at, phi_at, block_at}
use Rattle.definition.specs.Offsets.{Known, look, Def, phi_def, stmt_def, block_defs, defined, rule, learn, round}
use Rattle.definition.proofs.Bools.{both_false}
use Rattle.definition.proofs.ListLaws.{bit, count_cons, only_append}
use Rattle.records.proofs.Ranges.{range_parts, gather_append}
use Rattle.places.specs.declared.Places.{Places}
use Rattle.values.specs.Tables.{numbered, table}
use Rattle.values.proofs.Tables.{table_write, Names}
use Rattle.sums.specs.Ground.{Ground}
use Rattle.rounds.specs.Defs.{turn_of, mine, phi_defs, stmt_defs, defs_below}
use Rattle.rounds.specs.Ran.{Pass, pass_of, learnt, zeros, Ran}
use Rattle.rounds.proofs.Closing.{known, learn_none, learn_old, learn_new, round_append}
use Rattle.sums.proofs.Naming.{known_at, number_low}

-- ---- zeros
zeros_set : (l : List ℕ) (i x : ℕ) → i < length l → at l i ≡ 0 → (x ≡ 0 → ⊥) → zeros (set l i x) + 1 ≡ zeros l
unfolding zeros at
zeros_set [] i x h e n = absurd (omega arith)
zeros_set (y ∷ l) zero x h e n =
    let a : bit (eqb 0 x) ≡ 0 = ap bit (ne_eqb 0 x (λ q. n (sym q))) in
    let b : bit (eqb 0 y) ≡ 1 = ap bit (eq-eqb 0 y (sym e)) in
    omega (arith, count_cons (eqb 0) x l, count_cons (eqb 0) y l)
zeros_set (y ∷ l) (suc i) x h e n =
    omega (arith, count_cons (eqb 0) y (set l i x), count_cons (eqb 0) y l, zeros_set l i x (omega arith) e n)

-- ---- runs
module _ (f : List ℕ) (n : ℕ) where
  -- one that learns nothing
  ran_still : (ds : List Def) (tab : List ℕ) → ((k : List Known) → tab ≡ table f n (look k) → round ds k ≡ k) → Ran f n ds tab tab false
  ran_still ds tab h = record {
    falls = omega arith;
    learns = λ k e. e ∙ ap (λ (j : List Known). table f n (look j)) (sym (h k e));
    still = λ q k e. h k e;
  }

  ran_none : (tab : List ℕ) → Ran f n [] tab tab false
  unfolding round
  ran_none tab = ran_still [] tab (λ k e. refl)

  ran_then : (xs ys : List Def) (t u w : List ℕ) (a b : Bool) → Ran f n xs t u a → Ran f n ys u w b → Ran f n (xs ++ ys) t w (a || b)
  ran_then xs ys t u w a b p q = record {
    falls = less a b p.falls q.falls;
    learns = λ k e. q.learns (round xs k) (p.learns k e) ∙ ap (λ (j : List Known). table f n (look j)) (sym (round_append xs ys k));
    still = λ z k e.
        let both = both_false a b z in
        round_append xs ys k ∙ ap (round ys) (p.still both.0 k e)
        ∙ q.still both.1 k (p.learns k e ∙ ap (λ (j : List Known). table f n (look j)) (p.still both.0 k e));
  }
    where
      less : (a b : Bool) → zeros u + cond a 1 0 ≤ zeros t → zeros w + cond b 1 0 ≤ zeros u → zeros w + cond (a || b) 1 0 ≤ zeros t
      less true true h l = omega arith
      less true false h l = omega arith
      less false b h l = omega arith

  -- equal definitions
  pub ran_same : (ds es : List Def) (t u : List ℕ) (c : Bool) → ds ≡ es → Ran f n es t u c → Ran f n ds t u c
  ran_same ds es t u c e r = rw e r

-- ---- one definition, whose value stands at place p
module _ (f numbers : List ℕ) (places : Places) (g : Ground f numbers places) (tab : List ℕ) (long : length tab ≡ length numbers)
    (d : Def) (p : ℕ) (names : Names f (length numbers) p (defined d)) (x : ℕ)
    (derives : (k : List Known) → tab ≡ table f (length numbers) (look k) → x ≡ rule k d) where
  old_ran : (at tab (at numbers p) ≡ 0 → ⊥) → Ran f (length numbers) (d ∷ []) tab tab false
  unfolding round
  old_ran h = ran_still f (length numbers) (d ∷ []) tab (λ k e. learn_old k d (λ z. h (known_at f numbers places g tab k p (defined d) names e ∙ z)))

  none_ran : x ≡ 0 → Ran f (length numbers) (d ∷ []) tab tab false
  unfolding round
  none_ran z = ran_still f (length numbers) (d ∷ []) tab (λ k e. learn_none k d (sym (derives k e) ∙ z))

  set_known : (k : List Known) → tab ≡ table f (length numbers) (look k) → set tab (at numbers p) x ≡ table f (length numbers) (look (known d x k))
  unfolding look
  set_known k e =
      ap (λ (l : List ℕ). set tab (at l p) x) g.values ∙ ap (λ (l : List ℕ). set l (at (numbered f (length numbers)) p) x) e
      ∙ table_write f (length numbers) (look k) p (defined d) names x

  new_ran : at tab (at numbers p) ≡ 0 → (x ≡ 0 → ⊥) → Ran f (length numbers) (d ∷ []) tab (set tab (at numbers p) x) true
  unfolding round
  new_ran z h = record {
    falls =
        let low = number_low f numbers places g p (defined d) names in
        let s = zeros_set tab (at numbers p) x (omega arith) z h in
        omega arith;
    learns = λ k e.
        let q : x ≡ rule k d = derives k e in
        let l : learn k d ≡ known d x k = learn_new k d (sym (known_at f numbers places g tab k p (defined d) names e) ∙ z) (λ w. h (q ∙ w)) ∙ ap (λ (y : ℕ). known d y k) (sym q) in
        set_known k e ∙ ap (λ (j : List Known). table f (length numbers) (look j)) (sym l);
    still = λ q k e. absurd (true≢false q);
  }

  learnt_ran : Ran f (length numbers) (d ∷ []) tab (learnt tab (at numbers p) x).tab (learnt tab (at numbers p) x).changed
  unfolding learnt
  learnt_ran = go (ℕ_discrete (at tab (at numbers p)) 0) (ℕ_discrete x 0)
    where
      go : Dec (at tab (at numbers p) ≡ 0) → Dec (x ≡ 0) → Ran f (length numbers) (d ∷ []) tab (learnt tab (at numbers p) x).tab (learnt tab (at numbers p) x).changed
      go (no h) z = rw (ne_eqb (at tab (at numbers p)) 0 h) (old_ran h)
      go (yes h) (yes z) = rw (eq-eqb (at tab (at numbers p)) 0 h, eq-eqb x 0 z) (none_ran z)
      go (yes h) (no z) = rw (eq-eqb (at tab (at numbers p)) 0 h, ne_eqb x 0 z) (new_ran h z)

  pub learn_ran : (after : List ℕ) (u : ℕ) (changed : Bool) → u ≡ at numbers p → pass_of after changed ≡ learnt tab u x → Ran f (length numbers) (d ∷ []) tab after changed
  learn_ran after u changed e q =
      subst (λ (s : Pass). Ran f (length numbers) (d ∷ []) tab s.tab s.changed) (sym (q ∙ ap (λ (v : ℕ). learnt tab v x) e)) learnt_ran

-- ---- whose turn it is
module _ (own : Bool) where
  pub mine_append : (xs ys : List Def) → mine own (xs ++ ys) ≡ mine own xs ++ mine own ys
  unfolding mine
  mine_append xs ys = only_append (λ (d : Def). turn_of own (defined d).reg) xs ys

  pub mine_one : (d : Def) → turn_of own (defined d).reg ≡ true → mine own (d ∷ []) ≡ d ∷ []
  unfolding mine only
  mine_one d e = rw e

  pub mine_other : (d : Def) → turn_of own (defined d).reg ≡ false → mine own (d ∷ []) ≡ []
  unfolding mine only
  mine_other d e = rw e

  pub mine_none : mine own [] ≡ []
  unfolding mine only
  mine_none = refl

-- ---- the definitions of records
-- what goes by parts, over records from a on
by_parts : {A : Type 0} {B : Type 0} (h : List A → List B) → ((xs ys : List A) → h (xs ++ ys) ≡ h xs ++ h ys) → (g : ℕ → A) (a n : ℕ)
    → h (map g (range a (n + 1))) ≡ h (map g (range a n)) ++ h (map g (range (a + n) 1))
by_parts h parts g a n =
    ap (λ (l : List ℕ). h (map g l)) (range_parts a n 1) ∙ ap h (map-append g (range a n) (range (a + n) 1)) ∙ parts (map g (range a n)) (map g (range (a + n) 1))

pub phis_parts : (f : List ℕ) (a n : ℕ) → phi_defs f a (n + 1) ≡ phi_defs f a n ++ phi_defs f (a + n) 1
unfolding phi_defs
phis_parts f = by_parts (map phi_def) (map-append phi_def) (phi_at f)

module _ (E : Edition) (f : List ℕ) where
  pub stmts_parts : (a n : ℕ) → stmt_defs E f a (n + 1) ≡ stmt_defs E f a n ++ stmt_defs E f (a + n) 1
  unfolding stmt_defs
  stmts_parts = by_parts (gather (λ s. stmt_def s.kind)) (gather_append (λ s. stmt_def s.kind)) (stmt_at E f (all_trees E f))

  pub blocks_parts : (b : ℕ) → defs_below E f (b + 1) ≡ defs_below E f b ++ block_defs (block_at E f (all_trees E f) b)
  unfolding defs_below gather range
  blocks_parts b =
      let at = block_at E f (all_trees E f) in
      let z : 0 + b ≡ b = omega arith in
      by_parts (gather block_defs) (gather_append block_defs) at 0 b
      ∙ ap (λ (l : List Def). gather block_defs (map at (range 0 b)) ++ l) (rw z (append-nil (block_defs (at b))))

  block_parts : (b : ℕ) → block_defs (block_at E f (all_trees E f) b) ≡ phi_defs f (first_phi f b) (block_phis f b) ++ stmt_defs E f (first_stmt f b) (block_stmts f b)
  unfolding block_defs block_at phi_defs stmt_defs
  block_parts b = refl

-- the loops: a turn, how they begin, and the end; r is what the code answers of the two
module _ (f : List ℕ) (n : ℕ) (own : Bool) where
  -- runs of two lists of definitions, of those whose turn it is
  pub both_ran : (ds xs ys : List Def) (t u w : List ℕ) (a b r : Bool) → ds ≡ xs ++ ys → r ≡ (a || b) → Ran f n (mine own xs) t u a → Ran f n (mine own ys) u w b → Ran f n (mine own ds) t w r
  both_ran ds xs ys t u w a b r e o p q =
      rw o (ran_same f n (mine own ds) (mine own xs ++ mine own ys) t w (a || b) (ap (mine own) e ∙ mine_append own xs ys) (ran_then f n (mine own xs) (mine own ys) t u w a b p q))

  pub nothing_ran : (ds : List Def) (t : List ℕ) → mine own ds ≡ [] → Ran f n (mine own ds) t t false
  nothing_ran ds t e = ran_same f n (mine own ds) [] t t false e (ran_none f n t)

  pub all_ran : (ds : ℕ → List Def) (i m l : ℕ) (t u : List ℕ) (c : Bool) → i ≤ m → m ≤ i → m ≡ l → Ran f n (mine own (ds i)) t u c → Ran f n (mine own (ds l)) t u c
  all_ran ds i m l t u c p q s r = let e : l ≡ i = omega arith in rw e r

  pub block_ran : (E : Edition) (b x y l m : ℕ) (t u w : List ℕ) (c d r : Bool) → x ≡ first_phi f b → y ≡ first_stmt f b → l ≡ block_phis f b → m ≡ block_stmts f b → r ≡ (c || d)
      → Ran f n (mine own (phi_defs f x l)) t u c → Ran f n (mine own (stmt_defs E f y m)) u w d → Ran f n (mine own (block_defs (block_at E f (all_trees E f) b))) t w r
  block_ran E b x y l m t u w c d r ex ey el em e p q =
      both_ran (block_defs (block_at E f (all_trees E f) b)) (phi_defs f x l) (stmt_defs E f y m) t u w c d r (block_parts E f b ∙ rw (ex, ey, el, em)) e p q
