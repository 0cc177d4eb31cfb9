-- A table marked at the roots of what is read: a root is named by a place of the file too, so that a visit marks its class alone.
use mathlib.Core.Path.{◌≡◌, refl, sym, ap, ap₂, ◌∙◌}
use mathlib.Core.Bool.{Bool, true, false, not, cond, ◌||◌}
use mathlib.Core.List.{List, [], ◌∷◌, map}
use Prim.Native.Nat.{ℕ, suc, ◌+◌, ◌-◌, ◌≤◌, ◌<◌}
use native.Mathlib.Omega.{arith}
use lib.ListN.{length, get_or, set, replicate, length-append}
use mir.Syntax.{w8}
use mir.Val.{Fits}
use Rattle.definition.specs.Edition.{Edition, statements}
use Rattle.definition.specs.Lists.{only, gather, range, at}
use Rattle.definition.specs.Contents.{size, text}
use Rattle.definition.specs.Shape.{owned}
use Rattle.definition.specs.Values.{Value, within}
use Rattle.definition.specs.Ssa.{Stmt, uses}
use Rattle.definition.specs.Read.{all_trees, kind_at, stmt_at, marked, read}
use Rattle.definition.specs.Offsets.{Known, look}
use Rattle.definition.specs.Classes.{find, classes}
use Rattle.definition.specs.Inline.{live}
use Rattle.definition.specs.Blocks.{is_save, read_roots}
use Rattle.definition.specs.Listing.{padded}
use Rattle.definition.proofs.Bools.{by_cond}
use Rattle.definition.proofs.ListLaws.{Each, end}
use Rattle.records.proofs.Ranges.{map_gather, gather_only, gather_same}
use Rattle.records.proofs.Parts.{stmts_are}
use Rattle.places.specs.declared.Places.{Places}
use Rattle.places.specs.Keys.{key_of, places_of, keyed}
use Rattle.values.specs.Tables.{number_of, numbered, table}
use Rattle.values.proofs.Tables.{table_zero}
use Rattle.values.proofs.Placed.{keyed_length}
use Rattle.values.proofs.Ranges.{map_length}
use Rattle.uses.specs.Uses.{stmt_uses, use_start, use_starts, use_value}
use Rattle.uses.specs.Orders.{Ordered}
use Rattle.reads.specs.Counts.{placed, visit, slots, between, Runs}
use Rattle.uses.proofs.Trees.{Both, none_left, and_then, uses_are}
use Rattle.reads.proofs.Nodes.{IsUse, each_gather, stmt_nodes}
use Rattle.reads.proofs.Visits.{stmt_run}
use Rattle.reads.proofs.Named.{StandsFor, mark_all, uses_named}
use Rattle.names.specs.Given.{root_table}
use Rattle.names.proofs.Mentioned.{root_number}
use Rattle.names.proofs.Rooted.{rooted}
use Rattle.sums.specs.Ground.{Ground}
use Rattle.marks.specs.Reading.{classed, reading, ReadRoots}

-- ---- one statement
ordered_runs : (f order starts : List ℕ) → Ordered f (length order) (length starts) order starts → Runs f order starts
unfolding padded use_starts
ordered_runs f order starts o = record {
  nodes = o.nodes;
  begins = o.begins;
  long =
      let l = map (use_start f) (range 0 (suc (size f statements))) in
      omega (arith, ap length o.begins, length-append l (replicate (length starts - length l) 0), map_length (use_start f) 0 (suc (size f statements)));
}

module _ (step : List ℕ → ℕ → List ℕ) (E : Edition) (f : List ℕ) (k : List Known) (numbers t : List ℕ) (i : ℕ) (d : Bool)
    (is : d ≡ (marked f i 1 || is_save k (kind_at E f (all_trees E f) i))) where
  pub read_none : d ≡ true → t ≡ visit step t (slots numbers (places_of f).exprs (reading E f k i))
  unfolding reading slots visit
  read_none h = rw (sym is ∙ h)

  pub read_some : (u order starts : List ℕ) (P : Places) (a b : ℕ) → Ordered f (length order) (length starts) order starts → P ≡ places_of f → i < size f statements → d ≡ false
      → a ≡ at starts i → b ≡ at starts (i + 1) → u ≡ visit step t (slots numbers P.exprs (between order a b)) → u ≡ visit step t (slots numbers (places_of f).exprs (reading E f k i))
  unfolding reading
  read_some u order starts P a b o p h n x y e =
      e ∙ ap₂ (λ (Q : Places) (ns : List ℕ). visit step t (slots numbers Q.exprs ns)) p (rw (sym is ∙ n) (stmt_run f order starts i a b (ordered_runs f order starts o) h x y))

-- ---- what is read, by the definition
module _ (E : Edition) (f : List ℕ) (k : List Known) where
  abbrev saved : ℕ → Bool
  saved i = is_save k (kind_at E f (all_trees E f) i)

  read_values : (i : ℕ) → map (use_value f) (reading E f k i) ≡ cond (not (marked f i 1)) (cond (saved i) [] (uses (kind_at E f (all_trees E f) i))) []
  unfolding reading
  read_values i = go (marked f i 1) (saved i)
    where
      go : (a b : Bool) → map (use_value f) (cond (a || b) [] (stmt_uses f i)) ≡ cond (not a) (cond b [] (uses (kind_at E f (all_trees E f) i))) []
      go true b = refl
      go false true = refl
      go false false = uses_are E f i

  all_read : owned f ≡ true → map (find (classes (read E f))) (map (use_value f) (gather (reading E f k) (range 0 (size f statements)))) ≡ read_roots (read E f) k (classes (read E f))
  unfolding read_roots live stmt_at
  all_read own =
      let m = size f statements in
      ap (map (find (classes (read E f))))
      (map_gather (use_value f) (reading E f k) (range 0 m)
      ∙ gather_same (λ i. map (use_value f) (reading E f k i)) (λ i. cond (not (marked f i 1)) (cond (saved i) [] (uses (kind_at E f (all_trees E f) i))) []) read_values (range 0 m)
      ∙ sym (ap (λ (ss : List Stmt). gather (λ (s : Stmt). cond (is_save k s.kind) [] (uses s.kind)) (only (λ (s : Stmt). not s.dead) ss)) (stmts_are f own E)
      ∙ gather_only (λ (s : Stmt). cond (is_save k s.kind) [] (uses s.kind)) (λ (s : Stmt). not s.dead) (stmt_at E f (all_trees E f)) (range 0 m)))

  read_nodes : (i : ℕ) → Each (IsUse f) (reading E f k i)
  unfolding reading
  read_nodes i = by_cond (Each (IsUse f)) (marked f i 1 || saved i) (λ e. end) (λ e. stmt_nodes f i)

-- ---- marked at roots
by_roots : (roots t ss : List ℕ) → visit (classed roots) t ss ≡ visit (placed 1) t (map (at roots) ss)
unfolding visit classed placed
by_roots roots t [] = refl
by_roots roots t (s ∷ ss) = by_roots roots (set t (at roots s) 1) ss

module _ (f : List ℕ) (bytes : (j : ℕ) → Fits w8 (get_or f j 0)) (own : owned f ≡ true) (n : ℕ) (room : (places_of f).total ≤ n) (E : Edition) where
  root_named : (s : ℕ) (v : Value) → StandsFor f n s v → StandsFor f n (at (root_table E f n) s) (find (classes (read E f)) v)
  root_named s v w =
      let to = rooted f bytes own n room E w.spot v w.by in
      record {
        spot = to.0;
        by = to.1;
        number = ap (at (root_table E f n)) w.number ∙ root_number f n (find (classes (read E f))) w.spot to.0 v w.by to.1;
      }

  roots_named : {ss : List ℕ} {vs : List Value} → Both (StandsFor f n) ss vs → Both (StandsFor f n) (map (at (root_table E f n)) ss) (map (find (classes (read E f))) vs)
  roots_named none_left = none_left
  roots_named (and_then {x = s} {y = v} w r) = and_then (root_named s v w) (roots_named r)

  root_table_lem : (k : List Known) → visit (classed (root_table E f n)) (replicate n 0) (slots (numbered f n) (places_of f).exprs (gather (reading E f k) (range 0 (size f statements))))
      ≡ table f n (λ v. cond (within v (read_roots (read E f) k (classes (read E f)))) 1 0)
  root_table_lem k =
      let m = size f statements in
      let ns = gather (reading E f k) (range 0 m) in
      let ss = slots (numbered f n) (places_of f).exprs ns in
      ap (λ (t : List ℕ). visit (classed (root_table E f n)) t ss) (sym (table_zero f n ∙ ap (λ (j : ℕ). replicate j 0) (keyed_length f n own room)))
      ∙ by_roots (root_table E f n) (table f n (λ v. 0)) ss
      ∙ mark_all f n (roots_named (uses_named f n own room bytes (each_gather (reading E f k) (read_nodes E f k) (range 0 m)))) 1 (λ v. 0)
      ∙ ap (λ (vs : List Value). table f n (λ v. cond (within v vs) 1 0)) (all_read E f k own)

-- the numbers of what statements read, one behind the other
slots_gather : (numbers : List ℕ) (base : ℕ) (g : ℕ → List ℕ) (xs : List ℕ) → gather (λ i. slots numbers base (g i)) xs ≡ slots numbers base (gather g xs)
unfolding slots
slots_gather numbers base g xs = sym (map_gather (λ m. at numbers (base + m)) g xs)

-- as the code has it
pub read_done : (f : List ℕ) → ((j : ℕ) → Fits w8 (get_or f j 0)) → (t : ℕ) (numbers offsets roots tab r : List ℕ) → Ground f numbers (places_of f) → tab ≡ replicate (length numbers) 0
    → ((E : Edition) (k : List Known) → text E ≡ t → offsets ≡ table f (length numbers) (look k)
    → r ≡ visit (classed roots) tab (gather (λ i. slots numbers (places_of f).exprs (reading E f k i)) (range 0 (size f statements))))
    → ReadRoots f t (length numbers) offsets roots r
read_done f bytes t numbers offsets roots tab r g clear says E k a b c =
    let n = length numbers in
    let m = size f statements in
    let l = gather (reading E f k) (range 0 m) in
    let c_table = table f n (λ v. number_of (keyed f n) (key_of (find (classes (read E f)) v))) in
    says E k a b
    ∙ ap (visit (classed roots) tab) (slots_gather numbers (places_of f).exprs (reading E f k) (range 0 m))
    ∙ ap₂ (λ (x y : List ℕ). visit (classed x) y (slots numbers (places_of f).exprs l)) c clear
    ∙ ap (λ (z : List ℕ). visit (classed c_table) (replicate n 0) (slots z (places_of f).exprs l)) g.values
    ∙ root_table_lem f bytes g.counts n g.room E k
