-- Where a word stands, without a sum that leaves 64 bits, a statement's marks by their word, and its items by its kind.
use mathlib.Core.Path.{◌≡◌, sym, ap, ◌∙◌}
use mathlib.Core.Bool.{cond}
use mathlib.Core.List.{List}
use Prim.Native.Nat.{ℕ, ◌+◌, ◌*◌, ◌/◌, ◌%◌, ◌≤◌, ◌<◌}
use native.Mathlib.Nat.{mul-le-mul}
use native.Mathlib.Omega.{arith}
use lib.Dec.{eqb}
use Rattle.definition.specs.Contents.{offset, place, stmt_word}
use Rattle.definition.specs.Owners.{stmt_kind, stmt_field, expr_items, value_items, items}
use Rattle.definition.specs.Read.{marked}

-- a record's number times its words
pub scaled : (w i : ℕ) → w ≤ 16 → i < 4294967296 → w * i ≤ 16 * 4294967295
scaled w i h k = let j : i ≤ 4294967295 = omega arith in mul-le-mul h j

pub place_at : (f : List ℕ) (s w i k o : ℕ) → o ≡ offset f s → o + 4 * (w * i + k) ≡ place f s w i k
unfolding place
place_at f s w i k o e = rw e

pub marked_is : (f : List ℕ) (i m w : ℕ) → w ≡ stmt_word f i 2 → eqb (w / m % 2) 1 ≡ marked f i m
unfolding marked
marked_is f i m w marks = rw marks

-- the items of a statement: by the kind k that was read, which is m, and the field n
module _ (f : List ℕ) (i k n : ℕ) (kind : k ≡ stmt_kind f i) where
  abbrev pub expr_field : ℕ → ℕ
  expr_field m = cond (eqb m 3) (stmt_field f i 2) (cond (eqb m 4) (stmt_field f i 6) (cond (eqb m 7) (stmt_field f i 2) 0))

  pub kind_exprs : (m : ℕ) → k ≡ m → n ≡ expr_field m → n ≡ expr_items f i
  unfolding expr_items
  kind_exprs m e h = h ∙ ap expr_field (sym e ∙ kind)

pub both_items : (f : List ℕ) (i a b : ℕ) → a ≡ expr_items f i → b ≡ value_items f i → a + b ≡ items f i
unfolding items
both_items f i a b p q = rw (p, q)
