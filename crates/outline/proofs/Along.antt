-- A loop over rows is `along` of the rows that are left: one turn takes the first of them, and at the end none is left. A chain over them asks each in turn.
use mathlib.Core.Path.{◌≡◌, refl, sym, ap, ap₂, ◌∙◌}
use mathlib.Core.Bool.{Bool, true, false, ◌||◌}
use mathlib.Core.List.{List}
use Prim.Native.Nat.{ℕ, zero, suc, ◌+◌, ◌-◌, ◌≤◌, ◌<◌}
use native.Mathlib.Omega.{arith}
use native.Mathlib.Numerals.{add-one}
use denote.Param.Members.{Mut}
use Rattle.std.specs.Fn.{Called}
use Rattle.std.specs.Iterator.{YieldsThen}
use Rattle.std.specs.List.{range_with_len, list_any, FoldsTo}
use Rattle.std.specs.Option.{MatchOption}
use Rattle.std.specs.Prelude.{Option}
use Rattle.std.specs.declared.ops.Range.{Range}
use Rattle.std.proofs.iter.Yields.{nat_range_steps}
use Rattle.std.proofs.lemmas.Iterator.{YieldsList-from_range}
use Rattle.std.proofs.lemmas.Iterator.Search.{any_from_yields_List}
use Rattle.definition.specs.Lists.{at}
use Rattle.outline.specs.Tests.{along, some_row}

-- what is left of n from j on: one more than from j + 1 on, and nothing at the end
module _ {A : Type 0} (f : ℕ → A) (j n : ℕ) where
  pub left_turn : j < n → f (n - j) ≡ f (suc (n - (j + 1)))
  left_turn h = let s : n - j ≡ suc (n - (j + 1)) = omega arith in ap f s

  pub left_end : n ≤ j → f (n - j) ≡ f 0
  left_end h = let s : n - j ≡ 0 = omega arith in ap f s

module _ {A : Type 0} (g : ℕ → ℕ → A → A) (z : A) (R : List ℕ) (j n : ℕ) where
  pub along_turn : j < n → (w : ℕ) → w ≡ at R j → along g z R j (n - j) ≡ g j w (along g z R (j + 1) (n - (j + 1)))
  unfolding along
  along_turn h w e = left_turn (along g z R j) j n h ∙ ap₂ (λ (q v : ℕ). g j v (along g z R q (n - (j + 1)))) (sym (add-one j)) (sym e)

  pub along_end : n ≤ j → along g z R j (n - j) ≡ z
  unfolding along
  along_end = left_end (along g z R j) j n

-- ---- a chain `(i..j).any(..)`, whose closure tests the row at each number
some_listed : (p : ℕ → Bool) (R : List ℕ) (j f : ℕ) → list_any (λ k. p (at R k)) (range_with_len j f) ≡ some_row p R j f
unfolding some_row along
some_listed p R j zero = refl
some_listed p R j (suc f) = ap (λ (b : Bool). p (at R j) || b) (some_listed p R (j + 1) f ∙ ap (λ (k : ℕ). some_row p R k f) (add-one j))

pub some_range : {F : Type 0} {g : Mut F (ℕ × Unit {0}) Bool} {s u : Range ℕ} {f : F} {r : Bool} (p : ℕ → Bool) (R : List ℕ) (i j : ℕ)
    → ((xs : List ℕ) × (o : Option ℕ) × (h : F) × YieldsThen nat_range_steps s xs o u × FoldsTo (λ p x q. Called g p (x, tt) false q) f xs h
    × MatchOption o (r ≡ false) (λ x. (r ≡ true) × ((q : F) × Called g h (x, tt) true q)))
    → s ≡ record { start = i; end = j }
    → ((x : ℕ) (b : Bool) (q : F) → Called g f (x, tt) b q → (q ≡ f) × (b ≡ p (at R x))) → r ≡ some_row p R i (j - i)
some_range {u = u} {f = f} {r = r} p R i j ran e h =
    any_from_yields_List (λ k. p (at R k)) u f r ran (YieldsList-from_range i j (j - i) e refl) h ∙ some_listed p R i (j - i)
