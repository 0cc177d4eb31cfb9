-- The numbers of the statements rise along the list of places: a statement places at most one value, under its own number, and statements and blocks
-- come in order.
use mathlib.Core.Path.{◌≡◌, refl, sym, ap, ◌∙◌, subst}
use mathlib.Core.Bool.{true}
use mathlib.Core.List.{List, [], ◌∷◌, ◌++◌}
use Prim.Native.Nat.{ℕ, zero, suc, ◌+◌, ◌≤◌, ◌<◌}
use native.Mathlib.Omega.{arith}
use Rattle.definition.specs.Edition.{Edition, blocks, statements}
use Rattle.definition.specs.Lists.{gather, range}
use Rattle.definition.specs.Contents.{size}
use Rattle.definition.specs.Owners.{block_stmts, first_stmt}
use Rattle.definition.specs.Shape.{owned}
use Rattle.definition.proofs.ListLaws.{Each, end, ◌▸◌}
use Rattle.records.proofs.Parts.{owned_parts}
use Rattle.inline.specs.Placing.{Placed, placed_at, placed_in, all_placed}
use Rattle.inline.proofs.AtStatement.{placed_by}
use Rattle.inline.proofs.Adding.{stmts_start, stmts_turn}

-- they rise from a on, and are below b
unfoldable pub Rising : ℕ → ℕ → List Placed → Type 0
Rising a b [] = a ≤ b
Rising a b (p ∷ ps) = (a ≤ p.stmt) × Rising (suc p.stmt) b ps

rising_lower : (a b c : ℕ) (ps : List Placed) → a ≤ b → Rising b c ps → Rising a c ps
unfolding Rising
rising_lower a b c [] h r = omega arith
rising_lower a b c (p ∷ ps) h r = (omega (arith, r.0), r.1)

rising_append : (a b c : ℕ) (ps qs : List Placed) → Rising a b ps → Rising b c qs → Rising a c (ps ++ qs)
unfolding Rising
rising_append a b c [] qs r s = rising_lower a b c qs r s
rising_append a b c (p ∷ ps) qs r s = (r.0, rising_append (suc p.stmt) b c ps qs r.1 s)

rising_gather : (g : ℕ → List Placed) (s : ℕ → ℕ) → ((i : ℕ) → Rising (s i) (s (i + 1)) (g i)) → (n a : ℕ) → Rising (s a) (s (a + n)) (gather g (range a n))
unfolding Rising gather range
rising_gather g s h zero a = let q : a + 0 ≡ a = omega arith in rw q (omega arith)
rising_gather g s h (suc n) a =
    let q : a + suc n ≡ a + 1 + n = omega arith in
    rw q (rising_append (s a) (s (a + 1)) (s (a + 1 + n)) (g a) (gather g (range (a + 1) n)) (h a) (rising_gather g s h n (a + 1)))

module _ (E : Edition) (f : List ℕ) where
  at_statement : (e i : ℕ) → Rising i (i + 1) (placed_at E f e i)
  unfolding Rising
  at_statement e i = placed_by E f e i (Rising i (i + 1)) (omega arith) (λ h k. (omega arith, omega arith))

  in_block : (b : ℕ) → Rising (first_stmt f b) (first_stmt f (b + 1)) (placed_in E f b)
  unfolding placed_in
  in_block b =
      rw (← stmts_turn f b (first_stmt f b) (block_stmts f b) refl refl)
      (rising_gather (placed_at E f (first_stmt f b + block_stmts f b)) (λ i. i) (at_statement (first_stmt f b + block_stmts f b)) (block_stmts f b) (first_stmt f b))

  pub rises : owned f ≡ true → Rising 0 (size f statements) (all_placed E f)
  unfolding all_placed
  rises own =
      let k : 0 + size f blocks ≡ size f blocks = omega arith in
      subst (λ (a : ℕ). Rising a (size f statements) (all_placed E f)) (sym (stmts_start f))
      (subst (λ (b : ℕ). Rising (first_stmt f 0) b (all_placed E f)) (ap (first_stmt f) k ∙ (owned_parts f own).all_stmts)
      (rising_gather (placed_in E f) (first_stmt f) in_block (size f blocks) 0))

-- ---- all are below
rising_below : (a b : ℕ) (ps : List Placed) → Rising a b ps → Each (λ p. p.stmt < b) ps
unfolding Rising
rising_below a b [] r = end
rising_below a b (p ∷ ps) r = below (suc p.stmt) ps r.1 ▸ rising_below (suc p.stmt) b ps r.1
  where
    below : (c : ℕ) (qs : List Placed) → Rising c b qs → c ≤ b
    below c [] s = s
    below c (q ∷ qs) s = omega (arith, s.0, below (suc q.stmt) qs s.1)

pub places_inside : (E : Edition) (f : List ℕ) → owned f ≡ true → Each (λ p. p.stmt < size f statements) (all_placed E f)
places_inside E f own = rising_below 0 (size f statements) (all_placed E f) (rises E f own)
