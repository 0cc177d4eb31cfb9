-- What each return of the functions comes to, over plain numbers and lists.
use mathlib.Core.Path.{◌≡◌, refl, sym, ap, ◌∙◌}
use mathlib.Core.List.{List}
use Prim.Native.Nat.{ℕ, ◌+◌, ◌-◌, ◌/◌, ◌%◌, ◌≤◌}
use lib.Dec.{eqb}
use borrow.Author.Tests.{le-leb, ne_eqb}
use native.Mathlib.Omega.{arith}
use Rattle.std.proofs.Common.{min}
use Rattle.std.proofs.lemmas.Bool.Decides.{nat_tests}
use Rattle.definition.specs.Owners.{stmt_kind, stmt_field}
use Rattle.statements.specs.Items.{behind_of, expr_run, value_run}
use Rattle.statements.specs.Statement.{call_of, branch_of, other_of, kind_by, kind_record, mark_of}
use Rattle.statements.specs.declared.items.Items.{Items}
use Rattle.statements.specs.declared.statement.Other.{Other as OtherS}
use Rattle.statements.specs.declared.statement.Kind.{Kind}
use Rattle.statements.specs.declared.statement.Kind.TheVariants.{Other}

-- ---- places
pub behind_fits : (a n : ℕ) → n ≤ 4294967295 - a → a + n ≡ behind_of a n
unfolding behind_of
behind_fits a n h = rw (le-leb n (4294967295 - a) h)

pub behind_min : (a n : ℕ) → a ≤ 4294967295 → min (a + n) 4294967295 ≡ behind_of a n
unfolding behind_of
behind_min a n h = grind (arith, nat_tests)

-- ---- the mark
pub mark_is : (w : ℕ) → eqb (w / 2 % 2) 1 ≡ mark_of w 2
unfolding mark_of
mark_is w = refl

-- ---- a kind of equal parts
module _ (a b c x y z : ℕ) (p : a ≡ x) (q : b ≡ y) where
  pub same_three : {A : Type 0} (g : ℕ → ℕ → ℕ → A) → c ≡ z → g a b c ≡ g x y z
  same_three g r = rw (p, q, r)

  pub same_call : (u v : Items) (d e m n : ℕ) (s t : Items) → u ≡ v → c ≡ z → d ≡ e → m ≡ n → s ≡ t → call_of a b u c d m s ≡ call_of x y v z e n t
  same_call u v d e m n s t h r i j k = rw (p, q, h, r, i, j, k)

  pub same_branch : (d e m n : ℕ) (u v : Items) → c ≡ z → d ≡ e → m ≡ n → u ≡ v → branch_of a b c d m u ≡ branch_of x y z e n v
  same_branch d e m n u v r i j h = rw (p, q, r, i, j, h)

  pub same_other : (u v s t : Items) → u ≡ v → s ≡ t → other_of a b u s ≡ other_of x y v t
  same_other u v s t h k = rw (p, q, h, k)

-- ---- a statement, whose kind k was read
module _ (f : List ℕ) (i first k : ℕ) (kind : k ≡ stmt_kind f i) where
  pub by_kind : (m : ℕ) (s : Kind) → k ≡ m → s ≡ kind_by f i first m → s ≡ kind_record f i first
  by_kind m s e h = h ∙ ap (kind_by f i first) (sym e ∙ kind)

  none : (k ≡ 1 → ⊥) → (k ≡ 2 → ⊥) → (k ≡ 3 → ⊥) → (k ≡ 4 → ⊥) → (k ≡ 5 → ⊥) → (k ≡ 6 → ⊥)
      → Other (other_of (stmt_field f i 0) (stmt_field f i 1) (expr_run f i first) (value_run f i first)) ≡ kind_by f i first k
  unfolding kind_by
  none a b c d e g = rw (ne_eqb k 1 a, ne_eqb k 2 b, ne_eqb k 3 c, ne_eqb k 4 d, ne_eqb k 5 e, ne_eqb k 6 g)

  pub by_none : (s : OtherS) → (k ≡ 1 → ⊥) → (k ≡ 2 → ⊥) → (k ≡ 3 → ⊥) → (k ≡ 4 → ⊥) → (k ≡ 5 → ⊥) → (k ≡ 6 → ⊥)
      → s ≡ other_of (stmt_field f i 0) (stmt_field f i 1) (expr_run f i first) (value_run f i first) → Other s ≡ kind_record f i first
  by_none s a b c d e g h = by_kind k (Other s) refl (ap Other h ∙ none a b c d e g)
