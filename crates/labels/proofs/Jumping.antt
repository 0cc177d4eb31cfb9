-- What is marked is where the definition's jumps go: taken edges and falls block by block, and the targets of all statements, in whatever order.
use mathlib.Core.Path.{◌≡◌, refl, sym, ap, ap₂, ◌∙◌}
use mathlib.Core.Bool.{Bool, true, false, cond, ◌||◌, or_assoc}
use mathlib.Core.List.{List, [], ◌∷◌, ◌++◌, map}
use Prim.Native.Nat.{ℕ, zero, suc, ◌+◌, ◌-◌, ◌≤◌}
use native.Mathlib.Omega.{arith}
use lib.Dec.{eqb}
use lib.ListN.{length, replicate}
use borrow.Author.Tests.{lt-ltb, le-ltb}
use Rattle.definition.specs.Edition.{Edition, blocks, statements}
use Rattle.definition.specs.Lists.{any, among, distinct, gather, range}
use Rattle.definition.specs.Contents.{size}
use Rattle.definition.specs.Owners.{stmt_kind}
use Rattle.definition.specs.Shape.{owned}
use Rattle.definition.specs.Meaning.{starts}
use Rattle.definition.specs.Ssa.{Expr, Stmt, Block, stmts_of}
use Rattle.definition.specs.Read.{all_trees, kind_at, stmt_at, block_at, read}
use Rattle.definition.specs.Lookup.{next_of, option_list, target_of, unless_next, jumps_from}
use Rattle.definition.specs.Listing.{padded}
use Rattle.definition.proofs.Runs.{run_then}
use Rattle.records.proofs.Ranges.{gather_map, gather_append, gather_same, map-map}
use Rattle.records.proofs.Parts.{stmts_are}
use Rattle.values.proofs.Ranges.{map_length}
use Rattle.reads.specs.Counts.{visit}
use Rattle.records.proofs.Codes.{by_code}
use Rattle.labels.specs.Labels.{start_at, labelled, next_at, taken_at, fall_at, edges_at, target_at, Labels}
use Rattle.labels.proofs.Labelling.{map_same, marked_table}

among_append : (x : ℕ) (xs ys : List ℕ) → among x (xs ++ ys) ≡ (among x xs || among x ys)
unfolding among any
among_append x [] ys = refl
among_append x (y ∷ xs) ys = ap (λ (b : Bool). eqb x y || b) (among_append x xs ys) ∙ sym (or_assoc (eqb x y) (any (eqb x) xs) (any (eqb x) ys))

among_none : (x : ℕ) → among x [] ≡ (among x [] || among x [])
unfolding among any
among_none x = refl

module _ (E : Edition) (f : List ℕ) where
  abbrev B : ℕ → Block
  B i = block_at E f (all_trees E f) i

  abbrev targets : List Stmt → List ℕ
  targets ss = gather (λ (s : Stmt). target_of s.kind) ss

  -- ---- statements
  target_is : (t : List Expr) (i : ℕ) → target_of (kind_at E f t i) ≡ target_at f i
  unfolding target_of kind_at target_at
  target_is t i = by_code (stmt_kind f i) (λ e. rw e) (λ e. rw e) (λ e. rw e) (λ e. rw e) (λ e. rw e) (λ e. rw e) (λ a b c d g h. rw (a, b, c, d, g, h))

  targets_are : owned f ≡ true → targets (stmts_of (read E f)) ≡ gather (target_at f) (range 0 (size f statements))
  unfolding stmt_at
  targets_are own =
      ap targets (stmts_are f own E)
      ∙ gather_map (λ (s : Stmt). target_of s.kind) (stmt_at E f (all_trees E f)) (range 0 (size f statements))
      ∙ gather_same (λ i. target_of (kind_at E f (all_trees E f) i)) (target_at f) (target_is (all_trees E f)) (range 0 (size f statements))

  -- ---- blocks
  pub next_is : (b m : ℕ) → b + suc m ≡ size f blocks → next_of (map B (range (b + 1) m)) ≡ next_at f b
  unfolding next_of next_at range block_at start_at
  next_is b zero e = rw (le-ltb (b + 1) (size f blocks) (omega arith))
  next_is b (suc m) e = rw (lt-ltb (b + 1) (size f blocks) (omega arith))

  edges_are : (b m : ℕ) → b + suc m ≡ size f blocks → option_list (B b).taken ++ unless_next (next_of (map B (range (b + 1) m))) (B b).fall ≡ edges_at f b
  unfolding edges_at taken_at fall_at block_at
  edges_are b m e = rw (next_is b m e)

  jumps_are : (x b m : ℕ) → b + m ≡ size f blocks
      → among x (jumps_from (map B (range b m))) ≡ (among x (gather (edges_at f) (range b m)) || among x (targets (gather (λ (c : Block). c.stmts) (map B (range b m)))))
  unfolding jumps_from range gather
  jumps_are x b zero e = among_none x
  jumps_are x b (suc m) e =
      let bs = map B (range (b + 1) m) in
      let edges = gather (edges_at f) (range (b + 1) m) in
      let stmts = gather (λ (c : Block). c.stmts) bs in
      ap (λ (l : List ℕ). among x (l ++ targets (B b).stmts ++ jumps_from bs)) (edges_are b m e)
      ∙ among_append x (edges_at f b ++ targets (B b).stmts) (jumps_from bs)
      ∙ ap₂ (λ (p q : Bool). p || q) (among_append x (edges_at f b) (targets (B b).stmts)) (jumps_are x (b + 1) m (omega arith))
      ∙ shuffle (among x (edges_at f b)) (among x (targets (B b).stmts)) (among x edges) (among x (targets stmts))
      ∙ sym (ap₂ (λ (p q : Bool). p || q) (among_append x (edges_at f b) edges)
      (ap (among x) (gather_append (λ (s : Stmt). target_of s.kind) (B b).stmts stmts) ∙ among_append x (targets (B b).stmts) (targets stmts)))
    where
      shuffle : (p t q r : Bool) → (p || t || (q || r)) ≡ (p || q || (t || r))
      shuffle true t q r = refl
      shuffle false true true r = refl
      shuffle false true false r = refl
      shuffle false false q r = refl

  all_jumps : owned f ≡ true → (x : ℕ)
      → among x (gather (edges_at f) (range 0 (size f blocks)) ++ gather (target_at f) (range 0 (size f statements))) ≡ among x (jumps_from (read E f).blocks)
  unfolding read stmts_of
  all_jumps own x =
      among_append x (gather (edges_at f) (range 0 (size f blocks))) (gather (target_at f) (range 0 (size f statements)))
      ∙ ap (λ (l : List ℕ). among x (gather (edges_at f) (range 0 (size f blocks))) || among x l) (sym (targets_are own))
      ∙ sym (jumps_are x 0 (size f blocks) (omega arith))

-- the table that both loops leave
pub labels_are : (f t u v : List ℕ) → owned f ≡ true → distinct (starts f) ≡ true → t ≡ replicate (length t) 0 → size f blocks ≤ length t
    → u ≡ visit (labelled f) t (gather (edges_at f) (range 0 (size f blocks))) → v ≡ visit (labelled f) u (gather (target_at f) (range 0 (size f statements)))
    → Labels f (length t) v
unfolding padded read block_at start_at visit
labels_are f t u v own once clear room p q E =
    let n = size f blocks in
    let es = gather (edges_at f) (range 0 n) in
    let ts = gather (target_at f) (range 0 (size f statements)) in
    let J = jumps_from (read E f).blocks in
    let mark : ℕ → ℕ = λ i. cond (among (start_at f i) J) 1 0 in
    run_then (visit (labelled f)) (labelled f) (λ l. refl) (λ l x xs. refl) t u v es ts p q
    ∙ marked_table f once t (es ++ ts) clear room
    ∙ ap (λ (l : List ℕ). l ++ replicate (length t - n) 0) (map_same (λ i. cond (among (start_at f i) (es ++ ts)) 1 0) mark (λ i. ap (λ (b : Bool). cond b 1 0) (all_jumps E f own (start_at f i))) (range 0 n))
    ∙ ap (λ (m : ℕ). map mark (range 0 n) ++ replicate (length t - m) 0) (sym (map_length mark 0 n))
    ∙ ap (λ (l : List ℕ). l ++ replicate (length t - length l) 0) (sym (map-map (λ (b : Block). cond (among b.start J) 1 0) (block_at E f (all_trees E f)) (range 0 n)))
