-- The places with their statements: without the numbers they are the definition's list; each is what its statement says; their numbers rise.
use mathlib.Core.Path.{◌≡◌, refl, sym, ap, ap₂, ◌∙◌}
use mathlib.Core.Bool.{Bool, true, false, not, cond, ◌||◌, or-true, or-false}
use mathlib.Core.List.{List, [], ◌∷◌, ◌++◌, map, map-append}
use Prim.Native.Nat.{ℕ, zero, suc, ◌+◌, ◌-◌}
use native.Mathlib.Omega.{arith}
use lib.Dec.{eqb, eqb-suc-zero}
use Rattle.definition.specs.Codes.{k_assign}
use Rattle.definition.specs.Edition.{Edition, blocks}
use Rattle.definition.specs.Lists.{gather, range}
use Rattle.definition.specs.Contents.{size}
use Rattle.definition.specs.Owners.{stmt_kind, block_stmts, first_stmt}
use Rattle.definition.specs.Values.{Value, eqv}
use Rattle.definition.specs.Ssa.{Block}
use Rattle.definition.specs.Read.{all_trees, marked, stmt_at, block_at, read}
use Rattle.definition.specs.Inline.{InPlace, reads_of, place_kind, placed, inline, in_place}
use Rattle.definition.proofs.ListLaws.{Each, end, ◌▸◌}
use Rattle.inline.proofs.AtStatement.{placing, placed_by}
use Rattle.reads.proofs.Nodes.{each_gather}
use Rattle.inline.specs.Placing.{Placed, behind, placed_at, placed_in, all_placed, place_in, place_of}

-- ---- without the numbers
abbrev pub bare : Placed → InPlace
bare p = p.is

bare_one : (i : ℕ) (ps : List InPlace) → map bare (map (λ p. record { stmt = i; is = p }) ps) ≡ ps
bare_one i [] = refl
bare_one i (p ∷ ps) = ap (λ (l : List InPlace). p ∷ l) (bare_one i ps)

-- lists that agree number by number, one behind the other
bare_gather : {A : Type 0} (g : ℕ → List Placed) (h : ℕ → A) (k : A → List InPlace) → ((i : ℕ) → map bare (g i) ≡ k (h i))
    → (is : List ℕ) → map bare (gather g is) ≡ gather k (map h is)
unfolding gather
bare_gather g h k e [] = refl
bare_gather g h k e (i ∷ is) = map-append bare (g i) (gather g is) ∙ ap₂ (λ (a b : List InPlace). a ++ b) (e i) (bare_gather g h k e is)

module _ (E : Edition) (f : List ℕ) where
  bare_block : (e n a : ℕ) → e ≡ a + n
      → map bare (gather (placed_at E f e) (range a n)) ≡ placed (reads_of (read E f)) (map (stmt_at E f (all_trees E f)) (range a n))
  unfolding gather range placed placed_at behind
  bare_block e zero a h = refl
  bare_block e (suc n) a h =
      let q : e - (a + 1) ≡ n = omega arith in
      map-append bare (placed_at E f e a) (gather (placed_at E f e) (range (a + 1) n))
      ∙ ap₂ (λ (x y : List InPlace). x ++ y)
      (bare_one a _ ∙ ap (λ (m : ℕ). cond (stmt_at E f (all_trees E f) a).dead [] (place_kind (reads_of (read E f)) (stmt_at E f (all_trees E f) a).kind (map (stmt_at E f (all_trees E f)) (range (a + 1) m)))) q)
      (bare_block e n (a + 1) (omega arith))

  pub forgotten : map bare (all_placed E f) ≡ inline (read E f) (reads_of (read E f))
  unfolding all_placed placed_in inline read block_at
  forgotten =
      bare_gather (placed_in E f) (block_at E f (all_trees E f)) (λ (b : Block). placed (reads_of (read E f)) b.stmts)
      (λ b. bare_block (first_stmt f b + block_stmts f b) (block_stmts f b) (first_stmt f b) refl) (range 0 (size f blocks))

-- ---- a value is written in place where it has a place
placed_in_lem : (ps : List Placed) (v : Value) (n : ℕ) → (not (eqb n 0) || in_place (map bare ps) v) ≡ not (eqb (place_in ps v n) 0)
unfolding in_place place_in
placed_in_lem [] v n = or-false (not (eqb n 0))
placed_in_lem (p ∷ ps) v n = go (eqv p.is.of v) (placed_in_lem ps v)
  where
    go : (b : Bool) → ((m : ℕ) → (not (eqb m 0) || in_place (map bare ps) v) ≡ not (eqb (place_in ps v m) 0))
        → (not (eqb n 0) || (b || in_place (map bare ps) v)) ≡ not (eqb (place_in ps v (cond b (suc p.stmt) n)) 0)
    go true h = or-true (not (eqb n 0)) ∙ sym (ap (λ (b : Bool). not b || in_place (map bare ps) v) (eqb-suc-zero p.stmt)) ∙ h (suc p.stmt)
    go false h = h n

module _ (E : Edition) (f : List ℕ) where
  pub in_place_lem : (v : Value) → in_place (inline (read E f) (reads_of (read E f))) v ≡ not (eqb (place_of E f v) 0)
  unfolding place_of
  in_place_lem v = ap (λ (l : List InPlace). in_place l v) (sym (forgotten E f)) ∙ placed_in_lem (all_placed E f) v 0

-- ---- each is what its statement says
pub record Stands (E : Edition) (f : List ℕ) (p : Placed) : Type 0 where
  pub lives : marked f p.stmt 1 ≡ false
  pub assigns : stmt_kind f p.stmt ≡ k_assign
  pub is : p ≡ placing E f p.stmt

module _ (E : Edition) (f : List ℕ) where
  pub stand : Each (Stands E f) (all_placed E f)
  unfolding all_placed placed_in
  stand =
      each_gather (placed_in E f) (λ b. each_gather (placed_at E f (first_stmt f b + block_stmts f b)) (at_statement (first_stmt f b + block_stmts f b)) (range (first_stmt f b) (block_stmts f b)))
      (range 0 (size f blocks))
    where
      at_statement : (e i : ℕ) → Each (Stands E f) (placed_at E f e i)
      at_statement e i = placed_by E f e i (Each (Stands E f)) end (λ h k. record { lives = h; assigns = k; is = refl } ▸ end)
