-- What each return of the functions on values comes to, over plain numbers and lists.
use mathlib.Core.Path.{◌≡◌, refl, ap₂}
use mathlib.Core.Bool.{true}
use mathlib.Core.List.{List, [], ◌∷◌}
use Prim.Native.Nat.{ℕ, ◌+◌, ◌<◌}
use native.Mathlib.Omega.{arith}
use lib.ListN.{get_or}
use mir.Syntax.{w8}
use mir.Val.{Fits}
use borrow.Author.Tests.{eq-eqb, ne_eqb}
use Rattle.definition.specs.Edition.{statements}
use Rattle.definition.specs.Contents.{size}
use Rattle.definition.specs.Owners.{stmt_kind, stmt_field, expr_items, value_items, first_item}
use Rattle.definition.specs.Shape.{owned}
use Rattle.definition.specs.Values.{value}
use Rattle.definition.specs.Meaning.{assigned, call_returns}
use Rattle.records.proofs.Laws.{both_items}
use Rattle.records.proofs.Items.{first_turn, items_few, items_fit, exprs_fit}

-- ---- of statement i, whose kind k was read
module _ (f : List ℕ) (i k : ℕ) (kind : k ≡ stmt_kind f i) where
  pub assigns_not : (k ≡ 1 → ⊥) → [] ≡ assigned f i
  unfolding assigned
  assigns_not h = rw (← kind, ne_eqb k 1 h)

  pub assigns : (r n : ℕ) → k ≡ 1 → r ≡ stmt_field f i 0 → n ≡ stmt_field f i 1 → value r n ∷ [] ≡ assigned f i
  unfolding assigned
  assigns r n h p q = rw (← kind, eq-eqb k 1 h) (ap₂ (λ (a b : ℕ). value a b ∷ []) p q)

  pub calls_not : (k ≡ 3 → ⊥) → [] ≡ call_returns f i
  unfolding call_returns
  calls_not h = rw (← kind, ne_eqb k 3 h)

  pub returns_none : (w : ℕ) → k ≡ 3 → w ≡ stmt_field f i 3 → (w ≡ 1 → ⊥) → [] ≡ call_returns f i
  unfolding call_returns
  returns_none w h e g = rw (← kind, eq-eqb k 3 h, ← e, ne_eqb w 1 g)

  pub returns_one : (w r n : ℕ) → k ≡ 3 → w ≡ stmt_field f i 3 → w ≡ 1 → r ≡ stmt_field f i 4 → n ≡ stmt_field f i 5 → value r n ∷ [] ≡ call_returns f i
  unfolding call_returns
  returns_one w r n h e g p q = rw (← kind, eq-eqb k 3 h, ← e, eq-eqb w 1 g) (ap₂ (λ (a b : ℕ). value a b ∷ []) p q)

-- ---- items: the sums that the code makes of them
pub item_turn : (f : List ℕ) (i at x y : ℕ) → at ≡ first_item f i → x ≡ expr_items f i → y ≡ value_items f i → at + x + y ≡ first_item f (i + 1)
item_turn f i at x y h p q = omega (arith, first_turn f i h (both_items f i x y p q))

module _ (f : List ℕ) (i at x : ℕ) (bytes : (k : ℕ) → Fits w8 (get_or f k 0)) (pre : (owned f ≡ true) × (i < size f statements) × (at ≡ first_item f i)) (q : x ≡ expr_items f i) where
  few : first_item f (size f statements) < 4294967296
  few = items_few f bytes pre.0

  pub exprs_small : at + x < 4294967296
  exprs_small = omega (arith, exprs_fit f few i refl pre.1 pre.2)

  pub items_small : (n : ℕ) → n ≡ value_items f i → at + x + n < 4294967296
  items_small n r = omega (arith, items_fit f few i refl pre.1 pre.2, both_items f i x n q r)
