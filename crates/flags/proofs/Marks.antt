-- The last marked statement, by a walk from the last back to the first.
use mathlib.Core.Path.{◌≡◌, sym, ap, ◌∙◌}
use mathlib.Core.Bool.{Bool, true, false, cond}
use mathlib.Core.Option.{Option, none, some}
use mathlib.Core.List.{List}
use Prim.Native.Nat.{ℕ, zero, suc, ◌+◌, ◌-◌, ◌≤◌, ◌<◌}
use native.Mathlib.Omega.{arith}
use Rattle.definition.specs.Lists.{range}
use Rattle.definition.specs.Read.{marked}
use Rattle.statements.specs.Statement.{stmt_record, mark_of}
use Rattle.statements.specs.declared.statement.Stmt.{Stmt}
use Rattle.flags.specs.Marked.{last_marked}

module _ (f : List ℕ) where
  -- the last statement decides, and where it is not marked those before it
  last_decides : (o : Option ℕ) (a n : ℕ)
      → last_marked f o (range a (suc n)) ≡ cond (marked f (a + n) 2) (some (a + n)) (last_marked f o (range a n))
  unfolding last_marked range
  last_decides o a zero = let e : a + 0 ≡ a = omega arith in rw e
  last_decides o a (suc n) =
      let q : a + 1 + n ≡ a + suc n = omega arith in
      let h = last_decides (cond (marked f a 2) (some a) o) (a + 1) n in
      rw q at h

  -- a turn with i at the place behind, of which m is what its record says of the mark
  module _ (first count i : ℕ) (s : Stmt) (is : s ≡ stmt_record f (i - 1) 0) (m : Bool) (says : m ≡ mark_of s.marks 2) where
    mark_read : m ≡ marked f (i - 1) 2
    unfolding marked mark_of stmt_record
    mark_read = says ∙ ap (λ (x : Stmt). mark_of x.marks 2) is

    turn : first < i → last_marked f none (range first (i - first)) ≡ cond m (some (i - 1)) (last_marked f none (range first (i - 1 - first)))
    turn h =
        let p : i - first ≡ suc (i - 1 - first) = omega arith in
        let q : first + (i - 1 - first) ≡ i - 1 = omega arith in
        let e = last_decides none first (i - 1 - first) in
        rw p (rw (q, ← mark_read) at e)

    module _ (so_far : last_marked f none (range first count) ≡ last_marked f none (range first (i - first))) (h : first < i) where
      pub last_is : m ≡ true → some (i - 1) ≡ last_marked f none (range first count)
      last_is e = sym (so_far ∙ rw e at (turn h))

      pub goes_on : m ≡ false → last_marked f none (range first count) ≡ last_marked f none (range first (i - 1 - first))
      goes_on e = so_far ∙ rw e at (turn h)

  pub none_left : (first count i : ℕ) → last_marked f none (range first count) ≡ last_marked f none (range first (i - first)) → i ≤ first
      → none ≡ last_marked f none (range first count)
  unfolding last_marked range
  none_left first count i e h = let p : i - first ≡ 0 = omega arith in sym (rw p at e)
