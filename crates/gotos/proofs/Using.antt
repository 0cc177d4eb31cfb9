-- The uses of a branch as trees, and the first of them, if there is one.
use mathlib.Core.Path.{◌≡◌, refl, ap}
use mathlib.Core.List.{List, map}
use Prim.Native.Nat.{ℕ, zero, suc, ◌+◌}
use Rattle.definition.specs.Edition.{Edition}
use Rattle.definition.specs.Lists.{range}
use Rattle.definition.specs.Contents.{item_word}
use Rattle.definition.specs.Read.{tree_at, all_trees}
use Rattle.definition.specs.Lower.{first_of}
use Rattle.room.specs.Room.{Room, emit_all, seen}
use Rattle.room.proofs.Laws.{done, pieces_are}
use Rattle.lowering.specs.Lowered.{lowering_of, expr_of}
use Rattle.lowering.specs.Commas.{trees_of, listed}
use Rattle.lowering.proofs.Commas.{listed_is}
use Rattle.gotos.specs.Written.{uses_of}

module _ (E : Edition) (f : List ℕ) where
  pub uses_are : (item n : ℕ) → map (tree_at (all_trees E f)) (map (λ k. item_word f (item + k) 0) (range 0 n)) ≡ uses_of E f item n
  unfolding uses_of trees_of
  uses_are item n = ap (map (tree_at (all_trees E f))) (listed_is f item n)

  pub first_none : (r : Room) (item n : ℕ) → n ≡ 0 → seen r ≡ seen (emit_all r (first_of (lowering_of E f) (uses_of E f item n)))
  unfolding uses_of trees_of listed range first_of
  first_none r item n h = rw h (done r)

  pub first_put : (r r₀ : Room) (item n x : ℕ) → (n ≡ 0 → ⊥) → x ≡ item_word f item 0 → seen r ≡ seen (emit_all r₀ (expr_of E f x))
      → seen r ≡ seen (emit_all r₀ (first_of (lowering_of E f) (uses_of E f item n)))
  unfolding uses_of trees_of listed range first_of expr_of
  first_put r r₀ item zero x h p q = absurd (h refl)
  first_put r r₀ item (suc n) x h p q = pieces_are r r₀ _ _ q (ap (expr_of E f) p)
