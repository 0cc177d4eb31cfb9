-- The pushes that wait are those from one statement on: a call that takes them moves that statement behind itself, all else adds at the end.
use mathlib.Core.Path.{◌≡◌, refl, sym, ap, ap₂, ◌∙◌}
use mathlib.Core.Bool.{Bool, true, false, not, cond, ◌||◌}
use mathlib.Core.List.{List, [], ◌∷◌, map}
use Prim.Native.Nat.{ℕ, zero, suc, ◌+◌, ◌-◌, ◌≤◌}
use native.Mathlib.Omega.{arith}
use lib.Dec.{eqb}
use borrow.Author.Tests.{not-true}
use Rattle.std.specs.List.{range_with_len, list_any}
use Rattle.definition.specs.Edition.{Edition}
use Rattle.definition.specs.Lists.{any, gather, range}
use Rattle.definition.specs.Owners.{stmt_kind}
use Rattle.definition.specs.Ssa.{Stmt}
use Rattle.definition.specs.Read.{tree_at, all_trees, marked, stmt_at}
use Rattle.definition.specs.Lower.{takes, pushed}
use Rattle.definition.specs.Blocks.{pend_after}
use Rattle.definition.proofs.Bools.{both_true, by_test}
use Rattle.records.proofs.Ranges.{gather_map, map_gather, gather_same}
use Rattle.calls.specs.Numbered.{takes_at}
use Rattle.calls.specs.Waiting.{pushes_in, pending, stored_at, pushed_nodes}
use Rattle.calls.proofs.Recorded.{takes_is, pushed_is}

-- ---- behind a statement
pend_is : (s : Stmt) (l : List Stmt) (m t : Bool) → s.push ≡ m → takes s ≡ t → pend_after s l ≡ cond m (s ∷ l) (cond t [] l)
unfolding pend_after
pend_is s l m t p q = ap₂ (λ (x y : Bool). cond x (s ∷ l) (cond y [] l)) p q

-- none at first
pub pending_none : (E : Edition) (f : List ℕ) (i : ℕ) → pending E f i i ≡ []
unfolding pending pushes_in
pending_none E f i = let k : i - i ≡ 0 = omega arith in rw k

module _ (E : Edition) (f : List ℕ) (from i : ℕ) (b : Bool) (is : b ≡ takes_at f i) (before : from ≤ i) where
  abbrev S : Stmt
  S = stmt_at E f (all_trees E f) i

  abbrev Behind : ℕ → Type 0
  Behind r = (pend_after S (pending E f from i) ≡ pending E f r (i + 1)) × (r ≤ i + 1)

  push_is : S.push ≡ marked f i 4
  unfolding stmt_at
  push_is = refl

  takes_are : takes S ≡ b
  takes_are = takes_is E f (all_trees E f) i ∙ sym is

  -- one that takes them is no push
  takes_no_push : b ≡ true → marked f i 4 ≡ false
  unfolding takes_at
  takes_no_push h = not-true (marked f i 4) (both_true (not (marked f i 4)) (eqb (stmt_kind f i) 3) (sym is ∙ h)).0

  next_is : (m : Bool) → marked f i 4 ≡ m → pending E f from (i + 1) ≡ cond m (S ∷ pending E f from i) (pending E f from i)
  unfolding pending pushes_in
  next_is m e =
      let k : i + 1 - from ≡ suc (i - from) = omega arith in
      let z : from + (i - from) ≡ i = omega arith in
      by_test m (λ t. rw (t, k, z, e ∙ t)) (λ t. rw (t, k, z, e ∙ t))

  pub wait_none : b ≡ true → Behind (i + 1)
  wait_none h =
      (pend_is S (pending E f from i) false true (push_is ∙ takes_no_push h) (takes_are ∙ h) ∙ sym (pending_none E f (i + 1)), omega arith)

  pub wait_on : b ≡ false → Behind from
  wait_on h =
      let l = pending E f from i in
      (pend_is S l (marked f i 4) false push_is (takes_are ∙ h) ∙ sym (next_is (marked f i 4) refl), omega arith)

-- ---- what they push
-- the arguments of a 32-bit call are the trees of these nodes
pub pushed_nodes_lem : (E : Edition) (f : List ℕ) (from i : ℕ) → gather (λ (s : Stmt). pushed s.kind) (pending E f from i) ≡ map (tree_at (all_trees E f)) (pushed_nodes f from i)
unfolding pending pushed_nodes
pushed_nodes_lem E f from i =
    let t = all_trees E f in
    let js = pushes_in f from (i - from) in
    gather_map (λ (s : Stmt). pushed s.kind) (stmt_at E f t) js
    ∙ gather_same (λ j. pushed (stmt_at E f t j).kind) (λ j. map (tree_at t) (stored_at f j)) (pushed_is E f t) js
    ∙ sym (map_gather (tree_at t) (stored_at f) js)

-- ---- is one of the statements behind a call that takes them
any_map : {A : Type 0} {B : Type 0} (p : B → Bool) (q : A → Bool) (g : A → B) → ((x : A) → p (g x) ≡ q x) → (xs : List A) → any p (map g xs) ≡ any q xs
unfolding any
any_map p q g e [] = refl
any_map p q g e (x ∷ xs) = ap₂ ◌||◌ (e x) (any_map p q g e xs)

pub taken_is : (E : Edition) (f : List ℕ) (b : Bool) (a n : ℕ) → b ≡ any (takes_at f) (range a n) → b ≡ any takes (map (stmt_at E f (all_trees E f)) (range a n))
taken_is E f b a n e = e ∙ sym (any_map takes (takes_at f) (stmt_at E f (all_trees E f)) (takes_is E f (all_trees E f)) (range a n))

-- as the chain goes over their numbers
pub taken_chain : (p : ℕ → Bool) (a n : ℕ) → list_any p (range_with_len a n) ≡ any p (range a n)
unfolding any range
taken_chain p a zero = refl
taken_chain p a (suc n) = ap (λ (b : Bool). p a || b) (taken_chain p (a + 1) n)

pub taken_nowhere : (p : ℕ → Bool) (i end : ℕ) → end ≤ i → false ≡ any p (range (i + 1) (end - (i + 1)))
unfolding any range
taken_nowhere p i end h = let k : end - (i + 1) ≡ 0 = omega arith in rw k
