-- Where a walk stands: its inputs and items follow from its phi and statement, and a block's phis and statements end where the next one's begin.
use mathlib.Core.Path.{◌≡◌, refl, sym, ap, ap₂, ◌∙◌}
use mathlib.Core.Bool.{true}
use mathlib.Core.List.{List}
use Prim.Native.Nat.{ℕ, ◌+◌, ◌-◌, ◌≤◌, ◌<◌}
use native.Mathlib.Omega.{arith}
use Rattle.definition.specs.Edition.{blocks, phis, statements}
use Rattle.definition.specs.Lists.{gather, range, sum_below}
use Rattle.definition.specs.Contents.{size}
use Rattle.definition.specs.Owners.{block_phis, block_stmts, first_phi, first_stmt, first_input, first_item}
use Rattle.definition.specs.Shape.{owned}
use Rattle.naming.specs.declared.position.Walk.{Walk}
use Rattle.names.specs.Spots.{Known, State, state}
use Rattle.naming.specs.Walk.{walked, phi_spots, stmt_spots, block_spots, spots}
use Rattle.naming.specs.Given.{Went, standing}
use Rattle.naming.proofs.Small.{parts_next, parts_below}
use Rattle.naming.proofs.Walking.{walk_more}

-- ---- the walk that is made
abbrev made : ℕ → ℕ → ℕ → ℕ → ℕ → Walk
made p s i t k = record { phi = p; stmt = s; input = i; item = t; next = k }

pub stands_made : (f : List ℕ) (p s i t k : ℕ) → i ≡ first_input f p → t ≡ first_item f s → made p s i t k ≡ standing f p s k
unfolding standing
stands_made f p s i t k a b = rw (a, b)

pub stands_first : (f : List ℕ) (k : ℕ) → made 0 0 0 0 k ≡ standing f (first_phi f 0) (first_stmt f 0) k
unfolding standing first_phi first_stmt first_input first_item sum_below
stands_first f k = refl

-- ---- what a walk that stands says
module _ (f : List ℕ) (w : Walk) (p s k : ℕ) (is : w ≡ standing f p s k) where
  pub stands_all : (w.phi ≡ p) × (w.stmt ≡ s) × (w.input ≡ first_input f p) × (w.item ≡ first_item f s) × (w.next ≡ k)
  unfolding standing
  stands_all =
      (ap (λ (v : Walk). v.phi) is, ap (λ (v : Walk). v.stmt) is, ap (λ (v : Walk). v.input) is, ap (λ (v : Walk). v.item) is, ap (λ (v : Walk). v.next) is)

  pub stands_here : w ≡ standing f w.phi w.stmt w.next
  stands_here = is ∙ ap₂ (λ (x : ℕ) (v : ℕ). standing f x v k) (sym stands_all.0) (sym stands_all.1) ∙ ap (standing f w.phi w.stmt) (sym stands_all.4)

-- ---- a block
module _ (f : List ℕ) (own : owned f ≡ true) (b : ℕ) (here : b < size f blocks) (w : Walk) (is : w ≡ standing f (first_phi f b) (first_stmt f b) w.next) where
  pub phis_inside : (m : ℕ) → m ≡ block_phis f b → w.phi + m ≤ size f phis
  phis_inside m e = omega (arith, (stands_all f w (first_phi f b) (first_stmt f b) w.next is).0, parts_below f own b here)

  pub stmts_inside : (v : Walk) (p m : ℕ) → v ≡ standing f p w.stmt v.next → m ≡ block_stmts f b → v.stmt + m ≤ size f statements
  stmts_inside v p m d e =
      omega (arith, (stands_all f w (first_phi f b) (first_stmt f b) w.next is).1, (stands_all f v p w.stmt v.next d).1, parts_below f own b here)

  pub block_went : (K : Known) (n s n' s' n'' s'' : List ℕ) (v r : Walk) (m l : ℕ) → m ≡ block_phis f b → l ≡ block_stmts f b
      → Went f K n s n' s' w v (w.phi + m) w.stmt (gather (phi_spots f) (range w.phi (w.phi + m - w.phi)))
      → Went f K n' s' n'' s'' v r v.phi (v.stmt + l) (gather (stmt_spots f) (range v.stmt (v.stmt + l - v.stmt)))
      → Went f K n s n'' s'' w r (first_phi f (b + 1)) (first_stmt f (b + 1)) (block_spots f b)
  unfolding block_spots
  block_went K n s n' s' n'' s'' v r m l a c x y =
      let wp = (stands_all f w (first_phi f b) (first_stmt f b) w.next is).0 in
      let ws = (stands_all f w (first_phi f b) (first_stmt f b) w.next is).1 in
      let vp = (stands_all f v (w.phi + m) w.stmt v.next x.stands).0 in
      let vs = (stands_all f v (w.phi + m) w.stmt v.next x.stands).1 in
      let next = parts_next f own b in
      let many : w.phi + m - w.phi ≡ block_phis f b = omega arith in
      let more : v.stmt + l - v.stmt ≡ block_stmts f b = omega arith in
      let at_stmt : v.stmt ≡ first_stmt f b = vs ∙ ws in
      let phi_end : v.phi ≡ first_phi f (b + 1) = omega (arith, next.0) in
      let stmt_end : v.stmt + l ≡ first_stmt f (b + 1) = omega (arith, next.1) in
      record {
        says = walk_more K (state n s w.next) (state n' s' v.next) (state n'' s'' r.next) (gather (phi_spots f) (range (first_phi f b) (block_phis f b))) (gather (stmt_spots f) (range (first_stmt f b) (block_stmts f b)))
            (x.says ∙ ap₂ (λ (i j : ℕ). walked K (state n s w.next) (gather (phi_spots f) (range i j))) wp many)
            (y.says ∙ ap₂ (λ (i j : ℕ). walked K (state n' s' v.next) (gather (stmt_spots f) (range i j))) at_stmt more);
        stands = y.stands ∙ ap₂ (λ (i j : ℕ). standing f i j r.next) phi_end stmt_end;
      }

-- ---- all blocks
pub blocks_start : (f : List ℕ) (K : Known) (S : State) (n : ℕ) → n ≡ size f blocks → walked K S (spots f) ≡ walked K S (gather (block_spots f) (range 0 (n - 0)))
unfolding spots
blocks_start f K S n e = let k : n - 0 ≡ size f blocks = omega arith in rw k
