-- Addresses are marked one behind the other; the loops, what the returns come to, and the table that is left: since no two blocks begin at the same
-- address, the first block that begins at one is the only one.
use mathlib.Core.Path.{◌≡◌, refl, sym, ap, ap₂, ◌∙◌}
use mathlib.Core.Bool.{Bool, true, false, not, cond, ◌||◌}
use mathlib.Core.List.{List, [], ◌∷◌, ◌++◌, map}
use Prim.Native.Nat.{ℕ, zero, suc, ◌+◌, ◌-◌, ◌≤◌}
use native.Mathlib.Omega.{arith}
use lib.Dec.{eqb}
use lib.ListN.{length, set, replicate}
use borrow.Author.Tests.{eq-eqb, ne_eqb, eqb-true, not-true}
use Rattle.std.specs.Prelude.{Option as Answer, Some, None}
use Rattle.definition.specs.Edition.{blocks}
use Rattle.definition.specs.Lists.{any, among, distinct, range}
use Rattle.definition.specs.Contents.{size, block_word, block_long, stmt_long}
use Rattle.definition.specs.Owners.{stmt_kind, stmt_field}
use Rattle.definition.specs.Meaning.{starts}
use Rattle.definition.specs.Lookup.{option_list, is_next, unless_next}
use Rattle.definition.proofs.Runs.{run_then}
use Rattle.definition.proofs.Bools.{by_test, both_true, both_false, eqb_swap}
use Rattle.reads.specs.Counts.{visit}
use Rattle.labels.specs.Labels.{found_from, start_at, block_of, with_mark, labelled, next_at, taken_at, fall_at, edges_at, target_at}
use Rattle.labels.proofs.Finding.{found_high}

-- ---- edges and targets
module _ (f t : List ℕ) where
  module _ (b w : ℕ) where
    pub taken_none : w ≡ block_word f b 2 → (w ≡ 1 → ⊥) → t ≡ visit (labelled f) t (taken_at f b)
    unfolding taken_at option_list visit
    taken_none e h = rw (← e, ne_eqb w 1 h)

    pub taken_there : (a : ℕ) (u : List ℕ) → w ≡ block_word f b 2 → w ≡ 1 → a ≡ block_long f b 3 → u ≡ labelled f t a → u ≡ visit (labelled f) t (taken_at f b)
    unfolding taken_at option_list visit
    taken_there a u e h p q = q ∙ rw (← e, eq-eqb w 1 h, p)

    pub fall_none : w ≡ block_word f b 5 → (w ≡ 1 → ⊥) → t ≡ visit (labelled f) t (fall_at f b)
    unfolding fall_at unless_next visit
    fall_none e h = rw (← e, ne_eqb w 1 h)

    pub fall_next : (a : ℕ) (r : Bool) → w ≡ block_word f b 5 → w ≡ 1 → a ≡ block_long f b 6 → r ≡ is_next (next_at f b) a → r ≡ true → t ≡ visit (labelled f) t (fall_at f b)
    unfolding fall_at unless_next visit
    fall_next a r e h p q s = rw (← e, eq-eqb w 1 h, ← p, sym q ∙ s)

    pub fall_there : (a : ℕ) (r : Bool) (u : List ℕ) → w ≡ block_word f b 5 → w ≡ 1 → a ≡ block_long f b 6 → r ≡ is_next (next_at f b) a → r ≡ false → u ≡ labelled f t a
        → u ≡ visit (labelled f) t (fall_at f b)
    unfolding fall_at unless_next visit
    fall_there a r u e h p q s d = d ∙ rw (← e, eq-eqb w 1 h, ← p, sym q ∙ s)

  pub edges_then : (b : ℕ) (u v : List ℕ) → u ≡ visit (labelled f) t (taken_at f b) → v ≡ visit (labelled f) u (fall_at f b) → v ≡ visit (labelled f) t (edges_at f b)
  unfolding edges_at visit
  edges_then b u v = run_then (visit (labelled f)) (labelled f) (λ l. refl) (λ l x xs. refl) t u v (taken_at f b) (fall_at f b)

  module _ (i k : ℕ) (kind : k ≡ stmt_kind f i) where
    pub target_other : (k ≡ 4 → ⊥) → t ≡ visit (labelled f) t (target_at f i)
    unfolding target_at visit
    target_other h = rw (← kind, ne_eqb k 4 h)

    pub target_none : (w : ℕ) → k ≡ 4 → w ≡ stmt_field f i 3 → (w ≡ 1 → ⊥) → t ≡ visit (labelled f) t (target_at f i)
    unfolding target_at option_list visit
    target_none w h e n = rw (← kind, eq-eqb k 4 h, ← e, ne_eqb w 1 n)

    pub target_there : (w a : ℕ) (u : List ℕ) → k ≡ 4 → w ≡ stmt_field f i 3 → w ≡ 1 → a ≡ stmt_long f i 8 → u ≡ labelled f t a → u ≡ visit (labelled f) t (target_at f i)
    unfolding target_at option_list visit
    target_there w a u h e n p q = q ∙ rw (← kind, eq-eqb k 4 h, ← e, eq-eqb w 1 n, p)

-- ---- the table
-- the block found is marked in a table from block b on
abbrev mark_behind : ℕ → List ℕ → Answer ℕ → List ℕ
mark_behind b t None = t
mark_behind b t (Some x) = set t (x - b) 1

module _ (g : ℕ → ℕ) (a : ℕ) (h : ℕ → ℕ) (z : List ℕ) where
  -- a does not begin here
  unmarked : (b m : ℕ) → among a (map g (range b m)) ≡ false → map (λ i. cond (eqb a (g i)) 1 (h i)) (range b m) ≡ map h (range b m)
  unfolding among any range
  unmarked b zero e = refl
  unmarked b (suc m) e =
      let p = both_false (eqb a (g b)) (any (eqb a) (map g (range (b + 1) m))) e in
      rw p.0 (ap (λ (l : List ℕ). h b ∷ l) (unmarked (b + 1) m p.1))

  -- the first of m blocks from b on that begins at a
  marked_run : (b m : ℕ) → distinct (map g (range b m)) ≡ true
      → mark_behind b (map h (range b m) ++ z) (found_from g a b m) ≡ map (λ i. cond (eqb a (g i)) 1 (h i)) (range b m) ++ z
  unfolding found_from range distinct
  marked_run b zero d = refl
  marked_run b (suc m) d =
      let p = both_true (not (among (g b) (map g (range (b + 1) m)))) (distinct (map g (range (b + 1) m))) d in
      by_test (eqb (g b) a)
      (λ t.
      let q : among a (map g (range (b + 1) m)) ≡ false = ap (λ (x : ℕ). among x (map g (range (b + 1) m))) (sym (eqb-true (g b) a t)) ∙ not-true (among (g b) (map g (range (b + 1) m))) p.0 in
      let k : b - b ≡ 0 = omega arith in
      rw (t, eqb_swap a (g b), t, k) (ap (λ (l : List ℕ). 1 ∷ (l ++ z)) (sym (unmarked (b + 1) m q))))
      (λ t. rw (t, eqb_swap a (g b), t) (rest (found_from g a (b + 1) m) (found_high g a (b + 1) m) (map h (range (b + 1) m) ++ z) (map (λ i. cond (eqb a (g i)) 1 (h i)) (range (b + 1) m) ++ z) (marked_run (b + 1) m p.1)))
    where
      rest : (r : Answer ℕ) → ((x : ℕ) → r ≡ Some x → b + 1 ≤ x) → (l u : List ℕ) → mark_behind (b + 1) l r ≡ u → mark_behind b (h b ∷ l) r ≡ h b ∷ u
      rest None high l u e = ap (λ (y : List ℕ). h b ∷ y) e
      rest (Some x) high l u e =
          let k : x - b ≡ suc (x - (b + 1)) = omega (arith, high x refl) in
          rw k (ap (λ (y : List ℕ). h b ∷ y) e)

pub map_same : (g h : ℕ → ℕ) → ((i : ℕ) → g i ≡ h i) → (xs : List ℕ) → map g xs ≡ map h xs
map_same g h e [] = refl
map_same g h e (x ∷ xs) = ap₂ (λ (a : ℕ) (l : List ℕ). a ∷ l) (e x) (map_same g h e xs)

module _ (f : List ℕ) (once : distinct (starts f) ≡ true) (z : List ℕ) where
  one_marked : (a : ℕ) (h : ℕ → ℕ) → labelled f (map h (range 0 (size f blocks)) ++ z) a ≡ map (λ i. cond (eqb a (start_at f i)) 1 (h i)) (range 0 (size f blocks)) ++ z
  unfolding labelled with_mark block_of starts start_at
  one_marked a h =
      whole (map h (range 0 (size f blocks)) ++ z) (found_from (start_at f) a 0 (size f blocks)) ∙ marked_run (start_at f) a h z 0 (size f blocks) once
    where
      whole : (t : List ℕ) (r : Answer ℕ) → with_mark t r ≡ mark_behind 0 t r
      whole t None = refl
      whole t (Some x) = let k : x ≡ x - 0 = omega arith in ap (λ (j : ℕ). set t j 1) k

  all_marked : (as' : List ℕ) (h : ℕ → ℕ) → visit (labelled f) (map h (range 0 (size f blocks)) ++ z) as'
      ≡ map (λ i. cond (among (start_at f i) as') 1 (h i)) (range 0 (size f blocks)) ++ z
  unfolding visit among any
  all_marked [] h = ap (λ (l : List ℕ). l ++ z) (map_same h (λ i. h i) (λ i. refl) (range 0 (size f blocks)))
  all_marked (a ∷ as') h =
      ap (λ (l : List ℕ). visit (labelled f) l as') (one_marked a h)
      ∙ all_marked as' (λ i. cond (eqb a (start_at f i)) 1 (h i))
      ∙ ap (λ (l : List ℕ). l ++ z) (map_same (λ i. cond (any (eqb (start_at f i)) as') 1 (cond (eqb a (start_at f i)) 1 (h i))) (λ i. cond (eqb (start_at f i) a || any (eqb (start_at f i)) as') 1 (h i))
      (λ i. ap (λ (b : Bool). cond (any (eqb (start_at f i)) as') 1 (cond b 1 (h i))) (eqb_swap a (start_at f i)) ∙ either (any (eqb (start_at f i)) as') (eqb (start_at f i) a) (h i)) (range 0 (size f blocks)))
    where
      either : (b c : Bool) (y : ℕ) → cond b 1 (cond c 1 y) ≡ cond (c || b) 1 y
      either true true y = refl
      either true false y = refl
      either false true y = refl
      either false false y = refl

abbrev blank : ℕ → ℕ
blank i = 0

zeros : (b n m : ℕ) → map blank (range b n) ++ replicate m 0 ≡ replicate (n + m) 0
unfolding range
zeros b zero m = let k : 0 + m ≡ m = omega arith in rw k
zeros b (suc n) m = let k : suc n + m ≡ suc (n + m) = omega arith in rw k (ap (λ (l : List ℕ). 0 ∷ l) (zeros (b + 1) n m))

-- all that is marked, in a table that was clear
pub marked_table : (f : List ℕ) → distinct (starts f) ≡ true → (t as' : List ℕ) → t ≡ replicate (length t) 0 → size f blocks ≤ length t
    → visit (labelled f) t as' ≡ map (λ i. cond (among (start_at f i) as') 1 0) (range 0 (size f blocks)) ++ replicate (length t - size f blocks) 0
marked_table f once t as' clear room =
    let n = size f blocks in
    let k : n + (length t - n) ≡ length t = omega arith in
    ap (λ (l : List ℕ). visit (labelled f) l as') (clear ∙ sym (zeros 0 n (length t - n) ∙ ap (λ (m : ℕ). replicate m 0) k))
    ∙ all_marked f once (replicate (length t - n) 0) as' blank
