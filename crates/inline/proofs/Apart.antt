-- No value is placed twice: a place is that of an Assign, and what an Assign defines is defined once (refusal 6). So each value's place is that of its own
-- statement.
use mathlib.Core.Path.{◌≡◌, refl, sym, ap, ap₂, ◌∙◌, subst}
use mathlib.Core.Bool.{Bool, true, not, cond, false≢true}
use mathlib.Core.List.{List, [], ◌∷◌, ◌++◌, map}
use Prim.Native.Nat.{ℕ, zero, suc, ◌+◌, ◌≤◌}
use native.Mathlib.Omega.{arith}
use lib.Dec.{eqb}
use borrow.Author.Tests.{eqb-true}
use Rattle.definition.specs.Edition.{Edition, blocks, phis, statements}
use Rattle.definition.specs.Lists.{all, any, count, gather, range, sum_below}
use Rattle.definition.specs.Contents.{size}
use Rattle.definition.specs.Owners.{block_stmts, first_stmt}
use Rattle.definition.specs.Shape.{owned}
use Rattle.definition.specs.Values.{Value, eqv}
use Rattle.definition.specs.Meaning.{phi_value, assigned, strict, loose, defined_once}
use Rattle.definition.proofs.Bools.{by_test, both_true, or_cases}
use Rattle.definition.proofs.ListLaws.{Each, end, ◌▸◌, each_to, bit, count_cons, count_append, any_none}
use Rattle.defined.specs.Defined.{lone}
use Rattle.defined.proofs.Defining.{once_is}
use Rattle.records.proofs.Ranges.{gather_append, range_parts}
use Rattle.records.proofs.Parts.{owned_parts}
use Rattle.definition.proofs.Equal.{eqv_true, eqv_refl}
use Rattle.values.proofs.Tables.{eqv_swap}
use Rattle.inline.specs.Placing.{Placed, placed_at, placed_in, all_placed, place_in, place_of}
use Rattle.inline.proofs.AtStatement.{target, placed_by}
use Rattle.inline.proofs.Adding.{gather_last}

-- the place is of v
abbrev pub holds : Value → Placed → Bool
holds v p = eqv p.is.of v

-- ---- what is defined once
all_any : (p : Value → Bool) (v : Value) (vs : List Value) → all p vs ≡ true → any (eqv v) vs ≡ true → p v ≡ true
unfolding all any
all_any p v [] a e = absurd (false≢true e)
all_any p v (w ∷ vs) a e =
    let b = both_true (p w) (all p vs) a in
    or_cases (eqv v w) (any (eqv v) vs) (λ h. ap p (eqv_true v w h) ∙ b.0) (all_any p v vs b.1) e

strict_once : (f : List ℕ) (v : Value) → defined_once f ≡ true → count (eqv v) (strict f) ≤ 1
unfolding lone
strict_once f v h =
    by_test (any (eqv v) (strict f))
    (λ e.
    let l = both_true (not (eqb v.ver 0)) (eqb (count (eqv v) (strict f ++ loose f)) 1) (all_any (lone f) v (strict f) (once_is f ∙ h) e) in
    omega (arith, eqb-true (count (eqv v) (strict f ++ loose f)) 1 l.1, count_append (eqv v) (strict f) (loose f)))
    (λ e. omega (arith, any_none (eqv v) (strict f) e))

-- ---- statements and blocks
count_gather : {A : Type 0} {B : Type 0} (p : A → Bool) (q : B → Bool) (g : ℕ → List A) (h : ℕ → List B) → ((i : ℕ) → count p (g i) ≤ count q (h i))
    → (is : List ℕ) → count p (gather g is) ≤ count q (gather h is)
unfolding gather count
count_gather p q g h e [] = omega arith
count_gather p q g h e (i ∷ is) =
    omega (arith, e i, count_gather p q g h e is, count_append p (g i) (gather g is), count_append q (h i) (gather h is))

-- runs that go on where the one before ends are one run
runs : {A : Type 0} (g : ℕ → List A) (h : ℕ → ℕ) (n : ℕ) → gather (λ i. gather g (range (sum_below i h) (h i))) (range 0 n) ≡ gather g (range 0 (sum_below n h))
unfolding sum_below gather range
runs g h zero = refl
runs {A} g h (suc n) =
    let p : suc n ≡ n + 1 = omega arith in
    let q : 0 + n ≡ n = omega arith in
    let z : 0 + sum_below n h ≡ sum_below n h = omega arith in
    let G : ℕ → List A = (λ (i : ℕ). gather g (range (sum_below i h) (h i))) in
    ap (λ (k : ℕ). gather G (range 0 k)) p ∙ gather_last G 0 n ∙ ap₂ (λ (x y : List A). x ++ y) (runs g h n) (ap G q)
    ∙ sym (ap (gather g) (range_parts 0 (sum_below n h) (h n) ∙ ap (λ (k : ℕ). range 0 (sum_below n h) ++ range k (h n)) z)
    ∙ gather_append g (range 0 (sum_below n h)) (range (sum_below n h) (h n)))

module _ (E : Edition) (f : List ℕ) (v : Value) where
  at_statement : (e i : ℕ) → count (holds v) (placed_at E f e i) ≤ count (eqv v) (assigned f i)
  unfolding count assigned
  at_statement e i =
      placed_by E f e i (λ l. count (holds v) l ≤ count (eqv v) (assigned f i)) (omega arith)
      (λ h k. rw (k, eqv_swap v (target f i)) (omega arith))

  placed_few : owned f ≡ true → count (holds v) (all_placed E f) ≤ count (eqv v) (gather (assigned f) (range 0 (size f statements)))
  unfolding all_placed placed_in first_stmt
  placed_few own =
      subst (λ (l : List Value). count (holds v) (all_placed E f) ≤ count (eqv v) l)
      (runs (assigned f) (block_stmts f) (size f blocks) ∙ ap (λ (n : ℕ). gather (assigned f) (range 0 n)) (owned_parts f own).all_stmts)
      (count_gather (holds v) (eqv v) (placed_in E f) (λ b. gather (assigned f) (range (first_stmt f b) (block_stmts f b)))
      (λ b. count_gather (holds v) (eqv v) (placed_at E f (first_stmt f b + block_stmts f b)) (assigned f) (at_statement (first_stmt f b + block_stmts f b))
      (range (first_stmt f b) (block_stmts f b))) (range 0 (size f blocks)))

  pub placed_once : owned f ≡ true → defined_once f ≡ true → count (holds v) (all_placed E f) ≤ 1
  unfolding strict
  placed_once own h =
      omega (arith, placed_few own, strict_once f v h, count_append (eqv v) (map (phi_value f) (range 0 (size f phis))) (gather (assigned f) (range 0 (size f statements))))

-- ---- each value's place
not_placed : (ps : List Placed) (v : Value) (n : ℕ) → count (holds v) ps ≡ 0 → place_in ps v n ≡ n
unfolding place_in
not_placed [] v n e = refl
not_placed (p ∷ ps) v n e =
    let c = count_cons (holds v) p ps in
    by_test (holds v p) (λ h. absurd (omega (arith, ap bit h)))
    (λ h. ap (λ (b : Bool). place_in ps v (cond b (suc p.stmt) n)) h ∙ not_placed ps v n (omega arith))

own_place : (ps : List Placed) → ((v : Value) → count (holds v) ps ≤ 1) → Each (λ p. (n : ℕ) → place_in ps p.is.of n ≡ suc p.stmt) ps
unfolding place_in
own_place [] h = end
own_place (p ∷ ps) h =
    (λ n.
    ap (λ (b : Bool). place_in ps p.is.of (cond b (suc p.stmt) n)) (eqv_refl p.is.of)
    ∙ not_placed ps p.is.of (suc p.stmt) (omega (arith, h p.is.of, count_cons (holds p.is.of) p ps, ap bit (eqv_refl p.is.of))))
    ▸ each_to (λ q e n. e (cond (eqv p.is.of q.is.of) (suc p.stmt) n)) (own_place ps (λ v. omega (arith, h v, count_cons (holds v) p ps)))

pub each_own : (E : Edition) (f : List ℕ) → owned f ≡ true → defined_once f ≡ true → Each (λ p. place_of E f p.is.of ≡ suc p.stmt) (all_placed E f)
unfolding place_of
each_own E f own h = each_to (λ p e. e 0) (own_place (all_placed E f) (λ v. placed_once E f v own h))
