-- A value that live statements read once is read by its last reader and by no other statement, a dead one being no reader.
use mathlib.Core.Path.{◌≡◌, sym, ap, ◌∙◌}
use mathlib.Core.Bool.{Bool, true, false, not, cond, ◌&&◌, true≢false}
use mathlib.Core.List.{List}
use Prim.Native.Nat.{ℕ, zero, suc, ◌<◌}
use native.Mathlib.Omega.{arith}
use lib.Dec.{eqb}
use borrow.Author.Tests.{ne_eqb}
use Rattle.definition.specs.Edition.{Edition, statements}
use Rattle.definition.specs.Lists.{count}
use Rattle.definition.specs.Contents.{size}
use Rattle.definition.specs.Shape.{owned}
use Rattle.definition.specs.Values.{Value, eqv, within}
use Rattle.definition.specs.Ssa.{uses}
use Rattle.definition.specs.Read.{all_trees, kind_at, marked, read}
use Rattle.definition.specs.Inline.{reads}
use Rattle.definition.proofs.Bools.{by_test}
use Rattle.reads.specs.Counts.{reads_at, reader_below, last_reader}
use Rattle.reads.proofs.LastReader.{last_reader_lem}

module _ (f : List ℕ) (v : Value) (j : ℕ) (dead : marked f j 1 ≡ true) where
  dead_reads : reads_at f v j ≡ false
  unfolding reads_at
  dead_reads = rw dead

  dead_below : (n : ℕ) → reader_below f n v ≡ suc j → ⊥
  unfolding reader_below
  dead_below zero e = absurd (omega arith)
  dead_below (suc n) e =
      let r = dead_below n in
      by_test (reads_at f v n)
      (λ h.
      let k : suc n ≡ suc j = sym (ap (λ (b : Bool). cond b (suc n) (reader_below f n v)) h) ∙ e in
      let q : j ≡ n = omega arith in
      true≢false (sym h ∙ sym (ap (reads_at f v) q) ∙ dead_reads))
      (λ h. r (sym (ap (λ (b : Bool). cond b (suc n) (reader_below f n v)) h) ∙ e))

pub one_reader : (E : Edition) (f : List ℕ) → owned f ≡ true → (v : Value) → count (eqv v) (reads (read E f)) ≡ 1 → (j : ℕ) → j < size f statements
    → (not (marked f j 1) && within v (uses (kind_at E f (all_trees E f) j))) ≡ eqb (last_reader f v) (suc j)
unfolding last_reader
one_reader E f own v once j h =
    by_test (marked f j 1) (λ dead. rw dead (sym (ne_eqb (last_reader f v) (suc j) (dead_below f v j dead (size f statements)))))
    (λ lives. rw lives (last_reader_lem f v own E j once h lives))
