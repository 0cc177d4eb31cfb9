-- A statement's kind goes by the number in its record, so what a statement does to its block is read off the record.
use mathlib.Core.Path.{◌≡◌, sym, ap, ◌∙◌}
use mathlib.Core.Bool.{Bool, false, not, cond, ◌&&◌, ◌||◌}
use mathlib.Core.Option.{Option}
use mathlib.Core.List.{List, [], ◌∷◌, map}
use Prim.Native.Nat.{ℕ, zero, suc, ◌+◌, ◌-◌}
use native.Mathlib.Omega.{arith}
use lib.Dec.{eqb}
use borrow.Author.Tests.{eqb-true}
use Rattle.definition.specs.Edition.{Edition}
use Rattle.definition.specs.Lists.{range}
use Rattle.definition.specs.Owners.{stmt_kind, stmt_field}
use Rattle.definition.specs.Values.{Value, value}
use Rattle.definition.specs.Ssa.{Expr, Kind}
use Rattle.definition.specs.Ssa.Kind.{Assign, Store, Call, Branch, Flags, Return, Other}
use Rattle.definition.specs.Read.{tree_at, kind_at, marked, stmt_at}
use Rattle.definition.specs.Lower.{is_call, takes, pushed}
use Rattle.definition.specs.Blocks.{leaves, last_leaves}
use Rattle.definition.proofs.Bools.{by_cond}
use Rattle.calls.specs.Numbered.{leaves_at, takes_at}
use Rattle.calls.specs.Waiting.{stored_at}

module _ (E : Edition) (f : List ℕ) (t : List Expr) (i : ℕ) where
  -- what holds of a statement's kind, whichever number it has
  pub by_kind : (P : Kind → Type 0) → (stmt_kind f i ≡ 1 → P (Assign (value (stmt_field f i 0) (stmt_field f i 1)) (tree_at t (stmt_field f i 2))))
      → (stmt_kind f i ≡ 2 → P (Store (stmt_field f i 0) (tree_at t (stmt_field f i 1)) (tree_at t (stmt_field f i 2))))
      → (stmt_kind f i ≡ 3 → (x : List ℕ) (xs : List Expr) (r : Option Value) (vs : List Value) → P (Call x xs r vs))
      → (stmt_kind f i ≡ 4 → (c : Option (List ℕ)) (d : Option ℕ) (xs : List Expr) → P (Branch c d xs))
      → (stmt_kind f i ≡ 5 → (b : Bool) (x y : Expr) → P (Flags b x y))
      → (stmt_kind f i ≡ 6 → (x : Option Expr) → P (Return x))
      → (eqb (stmt_kind f i) 2 ≡ false → eqb (stmt_kind f i) 3 ≡ false → eqb (stmt_kind f i) 4 ≡ false → eqb (stmt_kind f i) 6 ≡ false
      → (x : List ℕ) (xs : List Expr) (vs : List Value) → P (Other x xs vs))
      → P (kind_at E f t i)
  unfolding kind_at
  by_kind P a s c b g r o =
      let k = stmt_kind f i in
      by_cond P (eqb k 1) (λ e. a (eqb-true k 1 e))
      (λ n1. by_cond P (eqb k 2) (λ e. s (eqb-true k 2 e))
      (λ n2. by_cond P (eqb k 3) (λ e. c (eqb-true k 3 e) _ _ _ _)
      (λ n3. by_cond P (eqb k 4) (λ e. b (eqb-true k 4 e) _ _ _)
      (λ n4. by_cond P (eqb k 5) (λ e. g (eqb-true k 5 e) _ _ _)
      (λ n5. by_cond P (eqb k 6) (λ e. r (eqb-true k 6 e) _)
      (λ n6. o n2 n3 n4 n6 _ _ _))))))

  -- ---- what it does to its block
  leaves_is : leaves (kind_at E f t i) ≡ leaves_at f i
  unfolding leaves leaves_at
  leaves_is =
      by_kind (λ k. leaves k ≡ (eqb (stmt_kind f i) 4 || eqb (stmt_kind f i) 6)) (λ e. rw e) (λ e. rw e) (λ e x xs r vs. rw e) (λ e c d xs. rw e)
      (λ e b x y. rw e) (λ e x. rw e) (λ m c b r x xs vs. rw (b, r))

  call_is : is_call (kind_at E f t i) ≡ eqb (stmt_kind f i) 3
  unfolding is_call
  call_is =
      by_kind (λ k. is_call k ≡ eqb (stmt_kind f i) 3) (λ e. rw e) (λ e. rw e) (λ e x xs r vs. rw e) (λ e c d xs. rw e) (λ e b x y. rw e)
      (λ e x. rw e) (λ m c b r x xs vs. rw c)

  pub takes_is : takes (stmt_at E f t i) ≡ takes_at f i
  unfolding takes takes_at stmt_at
  takes_is = ap (λ (b : Bool). not (marked f i 4) && b) call_is

  pub pushed_is : pushed (stmt_at E f t i).kind ≡ map (tree_at t) (stored_at f i)
  unfolding pushed stored_at stmt_at
  pushed_is =
      by_kind (λ k. pushed k ≡ map (tree_at t) (cond (eqb (stmt_kind f i) 2) (stmt_field f i 2 ∷ []) [])) (λ e. rw e) (λ e. rw e) (λ e x xs r vs. rw e)
      (λ e c d xs. rw e) (λ e b x y. rw e) (λ e x. rw e) (λ m c b r x xs vs. rw m)

-- ---- the last statement
module _ (E : Edition) (f : List ℕ) (t : List Expr) where
  last_of : (l : Bool) (a n : ℕ) → last_leaves l (map (stmt_at E f t) (range a (suc n))) ≡ leaves_at f (a + n)
  unfolding last_leaves range stmt_at
  last_of l a zero = let p : a + 0 ≡ a = omega arith in rw p (leaves_is E f t a)
  last_of l a (suc n) = let p : a + suc n ≡ a + 1 + n = omega arith in rw p (last_of (leaves (kind_at E f t a)) (a + 1) n)

  pub last_none : (l : Bool) (a n : ℕ) → n ≡ 0 → l ≡ last_leaves l (map (stmt_at E f t) (range a n))
  unfolding last_leaves range
  last_none l a n e = rw e

  pub last_is : (l b : Bool) (a n : ℕ) → (n ≡ 0 → ⊥) → b ≡ leaves_at f (a + (n - 1)) → b ≡ last_leaves l (map (stmt_at E f t) (range a n))
  last_is l b a n h e = let p : n ≡ suc (n - 1) = omega arith in e ∙ sym (last_of l a (n - 1)) ∙ ap (λ (m : ℕ). last_leaves l (map (stmt_at E f t) (range a m))) (sym p)
