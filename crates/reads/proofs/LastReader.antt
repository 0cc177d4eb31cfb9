-- The last live statement that reads a value: where the value is read once, the one that reads it. The reads are a sum over the statements, and a sum
-- that is 1 has one part that is not 0.
use mathlib.Core.Path.{◌≡◌, refl, sym, ap, ◌∙◌}
use mathlib.Core.Bool.{Bool, true, false, not, cond, ◌&&◌, true≢false}
use mathlib.Core.List.{List, [], map}
use Prim.Native.Nat.{ℕ, zero, suc, ◌+◌, ◌≤◌, ◌<◌}
use native.Mathlib.Decide.{dec_lt}
use native.Mathlib.Omega.{arith}
use lib.Dec.{eqb}
use lib.ListN.{get_or, replicate}
use mir.Syntax.{w8}
use mir.Val.{Fits}
use borrow.Author.Tests.{eq-eqb, ne_eqb}
use Rattle.definition.specs.Edition.{Edition, statements}
use Rattle.definition.specs.Lists.{count, any, sum_below}
use Rattle.definition.specs.Contents.{size}
use Rattle.definition.specs.Shape.{owned}
use Rattle.definition.specs.Values.{Value, eqv, within}
use Rattle.definition.specs.Ssa.{uses}
use Rattle.definition.specs.Read.{all_trees, kind_at, marked, read}
use Rattle.definition.specs.Inline.{reads}
use Rattle.definition.proofs.Bools.{by_test, is_false}
use Rattle.definition.proofs.ListLaws.{any_count, any_none}
use Rattle.defined.proofs.Ranges.{count_gather}
use Rattle.records.proofs.Below.{sum_part}
use Rattle.places.specs.Keys.{places_of}
use Rattle.values.specs.Tables.{numbered, table}
use Rattle.values.proofs.Tables.{table_same, zeros_are}
use Rattle.values.proofs.Placed.{keyed_length}
use Rattle.uses.specs.Uses.{stmt_uses, use_value}
use Rattle.reads.specs.Counts.{placed, visit, slots, live_uses, reads_at, reader_below, last_reader}
use Rattle.uses.proofs.Trees.{uses_are}
use Rattle.reads.proofs.Nodes.{live_nodes}
use Rattle.reads.proofs.Named.{uses_named, mark_all}
use Rattle.reads.proofs.Live.{reads_are}

-- ---- the table, statement by statement
module _ (f : List ℕ) where
  next_reader : (i : ℕ) (w : Value) → cond (within w (map (use_value f) (live_uses f i))) (i + 1) (reader_below f i w) ≡ reader_below f (i + 1) w
  unfolding live_uses reader_below reads_at within any
  next_reader i w = let s : i + 1 ≡ suc i = omega arith in rw s (go (marked f i 1) (within w (map (use_value f) (stmt_uses f i))) refl)
    where
      go : (b c : Bool) → within w (map (use_value f) (stmt_uses f i)) ≡ c
          → cond (within w (map (use_value f) (cond b [] (stmt_uses f i)))) (suc i) (reader_below f i w) ≡ cond (not b && c) (suc i) (reader_below f i w)
      go true c e = refl
      go false c e = rw e

  module _ (n : ℕ) (own : owned f ≡ true) (room : (places_of f).total ≤ n) (bytes : (k : ℕ) → Fits w8 (get_or f k 0)) (numbers : List ℕ) (are : numbers ≡ numbered f n)
      (base : ℕ) (is : base ≡ (places_of f).exprs) where
    pub readers_turn : (i : ℕ) (t u : List ℕ) → t ≡ table f n (reader_below f i) → u ≡ visit (placed (i + 1)) t (slots numbers base (live_uses f i))
        → u ≡ table f n (reader_below f (i + 1))
    readers_turn i t u e p =
        p ∙ rw (e, are, is) (mark_all f n (uses_named f n own room bytes (live_nodes f i)) (i + 1) (reader_below f i)
        ∙ table_same f n (λ w. cond (within w (map (use_value f) (live_uses f i))) (i + 1) (reader_below f i w)) (reader_below f (i + 1)) (next_reader i))

  pub readers_start : (n : ℕ) (t : List ℕ) → owned f ≡ true → (places_of f).total ≤ n → t ≡ replicate n 0 → t ≡ table f n (reader_below f 0)
  unfolding reader_below
  readers_start n t own room e = e ∙ zeros_are f n (keyed_length f n own room) ∙ table_same f n (λ v. 0) (reader_below f 0) (λ v. refl)

  pub readers_end : (n m i : ℕ) (t : List ℕ) → m ≡ size f statements → i ≤ m → m ≤ i → t ≡ table f n (reader_below f i) → t ≡ table f n (last_reader f)
  unfolding last_reader
  readers_end n m i t p h k e = let q : i ≡ size f statements = omega arith in e ∙ rw q

-- ---- a value that is read once
module _ (f : List ℕ) (v : Value) where
  -- how often live statement i reads it
  times : ℕ → ℕ
  times i = count (eqv v) (map (use_value f) (live_uses f i))

  reads_live : (i : ℕ) → marked f i 1 ≡ false → reads_at f v i ≡ within v (map (use_value f) (stmt_uses f i))
  unfolding reads_at
  reads_live i e = rw e

  reads_some : (i : ℕ) → reads_at f v i ≡ true → 0 < times i
  unfolding reads_at live_uses within times
  reads_some i = go (marked f i 1)
    where
      go : (b : Bool) → (not b && any (eqv v) (map (use_value f) (stmt_uses f i))) ≡ true → 0 < count (eqv v) (map (use_value f) (cond b [] (stmt_uses f i)))
      go true e = absurd (true≢false (sym e))
      go false e = any_count (eqv v) (map (use_value f) (stmt_uses f i)) e

  reads_none : (i : ℕ) → reads_at f v i ≡ false → times i ≡ 0
  unfolding reads_at live_uses within count times
  reads_none i = go (marked f i 1)
    where
      go : (b : Bool) → (not b && any (eqv v) (map (use_value f) (stmt_uses f i))) ≡ false → count (eqv v) (map (use_value f) (cond b [] (stmt_uses f i))) ≡ 0
      go true e = refl
      go false e = any_none (eqv v) (map (use_value f) (stmt_uses f i)) e

  reader_le : (n : ℕ) → reader_below f n v ≤ n
  unfolding reader_below
  reader_le zero = omega arith
  reader_le (suc n) = let r = reader_le n in by_test (reads_at f v n) (λ e. rw e (omega arith)) (λ e. rw e (omega arith))

  none_read : (n i : ℕ) → sum_below n times ≡ 0 → i < n → reads_at f v i ≡ false
  none_read n i z h = is_false (reads_at f v i) (λ e. let k = reads_some i e in let l = sum_part times {i = i} n h refl refl in absurd (omega arith))

  once_read : (n i : ℕ) → sum_below n times ≡ 1 → i < n → reads_at f v i ≡ eqb (reader_below f n v) (suc i)
  unfolding sum_below reader_below
  once_read zero i z h = absurd (omega arith)
  once_read (suc n) i z h = by_test (reads_at f v n) (λ e. rw e (last e (dec_lt i n))) (λ e. rw e (before e (once_read n i) (dec_lt i n)))
    where
      last : reads_at f v n ≡ true → Dec (i < n) → reads_at f v i ≡ eqb (suc n) (suc i)
      last e (yes k) = none_read n i (omega (arith, reads_some n e)) k ∙ sym (ne_eqb (suc n) (suc i) (λ q. omega arith))
      last e (no k) = let q : i ≡ n = omega arith in rw q (e ∙ sym (eq-eqb (suc n) (suc n) refl))

      before : reads_at f v n ≡ false → (sum_below n times ≡ 1 → i < n → reads_at f v i ≡ eqb (reader_below f n v) (suc i)) → Dec (i < n) → reads_at f v i ≡ eqb (reader_below f n v) (suc i)
      before e r (yes k) = r (omega (arith, reads_none n e)) k
      before e r (no k) =
          let q : i ≡ n = omega arith in
          rw q (e ∙ sym (ne_eqb (reader_below f n v) (suc n) (λ d. omega (arith, reader_le n))))

  -- live statement i reads it just where it is its last reader
  pub last_reader_lem : owned f ≡ true → (E : Edition) (i : ℕ) → count (eqv v) (reads (read E f)) ≡ 1 → i < size f statements → marked f i 1 ≡ false
      → within v (uses (kind_at E f (all_trees E f) i)) ≡ eqb (last_reader f v) (suc i)
  unfolding last_reader times
  last_reader_lem own E i e h live =
      ap (within v) (sym (uses_are E f i)) ∙ here
      ∙ once_read (size f statements) i (sym (ap (count (eqv v)) (reads_are f own E) ∙ count_gather (eqv v) (λ (i : ℕ). map (use_value f) (live_uses f i)) (size f statements)) ∙ e) h
    where
      here : within v (map (use_value f) (stmt_uses f i)) ≡ reads_at f v i
      here = sym (reads_live i live)
