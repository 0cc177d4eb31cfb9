-- What live statements read, as the values of their Use nodes in order; so the table that is raised at each of these nodes counts the reads.
use mathlib.Core.Path.{◌≡◌, refl, sym, ap, ◌∙◌}
use mathlib.Core.Bool.{Bool, true, false, not, cond}
use mathlib.Core.List.{List, [], map}
use Prim.Native.Nat.{ℕ, ◌+◌, ◌≤◌}
use native.Mathlib.Omega.{arith}
use lib.ListN.{length, get_or, replicate, length-map}
use mir.Syntax.{w8, w32}
use mir.Val.{Fits}
use Rattle.definition.specs.Edition.{Edition, statements}
use Rattle.definition.specs.Lists.{only, count, gather, range, at}
use Rattle.definition.specs.Contents.{size}
use Rattle.definition.specs.Shape.{owned}
use Rattle.definition.specs.Values.{eqv}
use Rattle.definition.specs.Ssa.{Stmt, uses}
use Rattle.definition.specs.Read.{all_trees, kind_at, stmt_at, marked, read}
use Rattle.definition.specs.Inline.{live, reads}
use Rattle.records.proofs.Ranges.{gather_only, map_gather, gather_same}
use Rattle.records.proofs.Below.{sum_mono}
use Rattle.records.proofs.Parts.{stmts_are}
use Rattle.places.specs.Keys.{places_of}
use Rattle.values.specs.Tables.{numbered, table}
use Rattle.values.proofs.Ranges.{gather_length}
use Rattle.values.proofs.Placed.{keyed_length}
use Rattle.values.proofs.Tables.{table_same, zeros_are}
use Rattle.uses.specs.Uses.{stmt_uses, use_start, use_value}
use Rattle.reads.specs.Counts.{raised, visit, slots, live_uses, Numbers, Runs}
use Rattle.uses.proofs.Trees.{uses_are}
use Rattle.reads.proofs.Nodes.{each_gather, live_nodes}
use Rattle.reads.proofs.Visits.{live_from, start_at_lem}
use Rattle.reads.proofs.Named.{uses_named, raise_all}

-- ---- what live statements read
module _ (f : List ℕ) where
  -- the values that statement i reads, where it is live
  live_values : (E : Edition) (i : ℕ) → cond (not (stmt_at E f (all_trees E f) i).dead) (uses (stmt_at E f (all_trees E f) i).kind) [] ≡ map (use_value f) (live_uses f i)
  unfolding stmt_at live_uses
  live_values E i = go (marked f i 1)
    where
      go : (b : Bool) → cond (not b) (uses (kind_at E f (all_trees E f) i)) [] ≡ map (use_value f) (cond b [] (stmt_uses f i))
      go true = refl
      go false = sym (uses_are E f i)

  pub reads_are : owned f ≡ true → (E : Edition) → reads (read E f) ≡ gather (λ i. map (use_value f) (live_uses f i)) (range 0 (size f statements))
  unfolding reads live
  reads_are own E =
      ap (λ (ss : List Stmt). gather (λ (s : Stmt). uses s.kind) (only (λ (s : Stmt). not s.dead) ss)) (stmts_are f own E)
      ∙ gather_only (λ (s : Stmt). uses s.kind) (λ (s : Stmt). not s.dead) (stmt_at E f (all_trees E f)) (range 0 (size f statements))
      ∙ gather_same _ _ (live_values E) (range 0 (size f statements))

  fewer : (i : ℕ) → length (live_uses f i) ≤ length (stmt_uses f i)
  unfolding live_uses
  fewer i = go (marked f i 1)
    where
      go : (b : Bool) → length (cond b [] (stmt_uses f i)) ≤ length (stmt_uses f i)
      go true = omega arith
      go false = omega arith

  live_few : length (live_from f 0 (size f statements)) ≤ use_start f (size f statements)
  unfolding live_from use_start
  live_few = omega (arith, gather_length (live_uses f) (size f statements), sum_mono (λ (i : ℕ). length (live_uses f i)) (λ (i : ℕ). length (stmt_uses f i)) (size f statements) (λ i k. fewer i))

-- ---- the table
module _ (f : List ℕ) (n : ℕ) (own : owned f ≡ true) (room : (places_of f).total ≤ n) where
  pub live_table : ((k : ℕ) → Fits w8 (get_or f k 0)) → (order starts : List ℕ) → Runs f order starts → ((k : ℕ) → Fits w32 (get_or starts k 0)) → (E : Edition)
      → visit raised (replicate n 0) (slots (numbered f n) (places_of f).exprs (live_from f 0 (size f statements))) ≡ table f n (λ v. count (eqv v) (reads (read E f)))
  unfolding live_from at
  live_table bytes order starts r words E =
      let m = size f statements in
      let l = gather (live_uses f) (range 0 m) in
      let vs = map (use_value f) l in
      let small : length vs ≤ 4294967295 =
      omega (arith, length-map l (use_value f), live_few f, start_at_lem f starts (length starts) m r.begins (omega arith), words m) in
      ap (λ (t : List ℕ). visit raised t (slots (numbered f n) (places_of f).exprs l)) (zeros_are f n (keyed_length f n own room))
      ∙ raise_all f n (uses_named f n own room bytes (each_gather (live_uses f) (live_nodes f) (range 0 m))) (λ v. 0) (λ w. omega arith)
      ∙ table_same f n (λ w. 0 + count (eqv w) vs) (λ w. count (eqv w) (reads (read E f)))
      (λ w.
      let z : 0 + count (eqv w) vs ≡ count (eqv w) vs = omega arith in
      z ∙ ap (count (eqv w)) (map_gather (use_value f) (live_uses f) (range 0 m) ∙ sym (reads_are f own E)))

-- as the code has it
pub live_done : (f numbers tab order starts : List ℕ) (base : ℕ) → Numbers f numbers tab → Runs f order starts → ((k : ℕ) → Fits w8 (get_or f k 0)) → ((k : ℕ) → Fits w32 (get_or starts k 0))
    → base ≡ (places_of f).exprs → (E : Edition)
    → visit raised tab (slots numbers base (live_from f 0 (size f statements))) ≡ table f (length numbers) (λ v. count (eqv v) (reads (read E f)))
live_done f numbers tab order starts base k r bytes words e E =
    let l = live_from f 0 (size f statements) in
    ap (λ (t : List ℕ). visit raised t (slots numbers base l)) k.clear
    ∙ ap (λ (z : List ℕ). visit raised (replicate (length numbers) 0) (slots z base l)) k.are
    ∙ ap (λ (b : ℕ). visit raised (replicate (length numbers) 0) (slots (numbered f (length numbers)) b l)) e
    ∙ live_table f (length numbers) k.own k.room bytes order starts r words E
