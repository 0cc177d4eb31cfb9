-- The reads of a statement: from where its nodes begin up to where the next one's do, `order` has what the statement reads, and its spots have the
-- values that the definition says it reads.
use mathlib.Core.Path.{◌≡◌, refl, sym, ap, ap₂, ◌∙◌}
use mathlib.Core.List.{List, [], ◌∷◌, map}
use Prim.Native.Nat.{ℕ, suc, ◌+◌, ◌-◌, ◌≤◌, ◌<◌}
use native.Mathlib.Omega.{arith}
use lib.ListN.{length, replicate}
use Rattle.definition.specs.Edition.{Edition, statements}
use Rattle.definition.specs.Lists.{range, sum_below, at}
use Rattle.definition.specs.Contents.{size}
use Rattle.definition.specs.Values.{Value}
use Rattle.definition.specs.Ssa.{uses}
use Rattle.definition.specs.Read.{all_trees, kind_at}
use Rattle.definition.specs.Listing.{padded}
use Rattle.records.proofs.Below.{sum_turn, sum_le}
use Rattle.records.proofs.Ranges.{map-map}
use Rattle.places.specs.Keys.{places_of}
use Rattle.values.proofs.Ranges.{at_left, at_below, at_gather, map_length, gather_length}
use Rattle.uses.specs.Uses.{stmt_uses, use_value, use_order, use_start, use_starts}
use Rattle.uses.specs.Orders.{Ordered}
use Rattle.uses.proofs.Trees.{uses_are}
use Rattle.names.specs.Spots.{Spot, spot, use_spot, use_spots}

-- a run of a list that has l from x on
run_is : (g : ℕ → Spot) (h : ℕ → ℕ) (l : List ℕ) (x : ℕ) → ((j : ℕ) → j < length l → h (x + j) ≡ at l j) → map (λ k. g (h k)) (range x (length l)) ≡ map g l
unfolding range at
run_is g h [] x e = refl
run_is g h (y ∷ l) x e =
    let p : x + 0 ≡ x = omega arith in
    ap₂ (λ (a : Spot) (as' : List Spot). a ∷ as') (ap g (ap h (sym p) ∙ e 0 (omega arith)))
    (run_is g h l (x + 1) (λ j k. let q : x + 1 + j ≡ x + suc j = omega arith in ap h q ∙ e (suc j) (omega arith)))

padded_at : (n : ℕ) (l : List ℕ) (i : ℕ) → i < length l → at (padded n l) i ≡ at l i
unfolding padded
padded_at n l i h = at_left l (replicate (n - length l) 0) i h

module _ (f order starts : List ℕ) (m n : ℕ) (flat : Ordered f m n order starts) where
  start_at_lem : (i : ℕ) → i ≤ size f statements → at starts i ≡ use_start f i
  unfolding use_starts
  start_at_lem i h =
      let long = map_length (use_start f) 0 (suc (size f statements)) in
      ap (λ (l : List ℕ). at l i) flat.begins ∙ padded_at n (use_starts f) i (omega arith) ∙ at_below (use_start f) (suc (size f statements)) i (omega arith)

  node_at : (i j : ℕ) → i < size f statements → j < length (stmt_uses f i) → at order (use_start f i + j) ≡ at (stmt_uses f i) j
  unfolding use_order use_start
  node_at i j h k =
      let long = gather_length (stmt_uses f) (size f statements) in
      let t = sum_turn (λ a. length (stmt_uses f a)) {i = i} refl refl in
      let below = sum_le (λ a. length (stmt_uses f a)) (i + 1) (size f statements) (omega arith) in
      ap (λ (l : List ℕ). at l (sum_below i (λ a. length (stmt_uses f a)) + j)) flat.nodes
      ∙ padded_at m (use_order f) (sum_below i (λ a. length (stmt_uses f a)) + j) (omega arith)
      ∙ at_gather (stmt_uses f) (size f statements) i j h k

  -- from x up to y
  pub uses_run : (i x y : ℕ) → i < size f statements → x ≡ at starts i → y ≡ at starts (i + 1) → map (λ k. use_spot f (at order k)) (range x (y - x)) ≡ use_spots f i
  unfolding use_spots use_start
  uses_run i x y h a b =
      let p = start_at_lem i (omega arith) in
      let q = start_at_lem (i + 1) (omega arith) in
      let t = sum_turn (λ c. length (stmt_uses f c)) {i = i} refl refl in
      let e : y - x ≡ length (stmt_uses f i) = omega arith in
      let s : x ≡ use_start f i = a ∙ p in
      ap (λ (c : ℕ). map (λ k. use_spot f (at order k)) (range x c)) e
      ∙ run_is (use_spot f) (at order) (stmt_uses f i) x (λ j k. ap (λ (c : ℕ). at order (c + j)) s ∙ node_at i j h k)

-- ---- the values of spots
abbrev pub values_of : List Spot → List Value
values_of xs = map (λ (x : Spot). x.of) xs

pub use_values : (f : List ℕ) (E : Edition) (i : ℕ) → values_of (use_spots f i) ≡ uses (kind_at E f (all_trees E f) i)
unfolding use_spots use_spot
use_values f E i = map-map (λ (x : Spot). x.of) (λ (n : ℕ). spot ((places_of f).exprs + n) (use_value f n)) (stmt_uses f i) ∙ uses_are E f i
