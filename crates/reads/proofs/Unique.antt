-- Each contract of this crate is an equation for the table that is left, or for the answer, so no second one meets it. Where it holds for every edition, one is enough.
use mathlib.Core.Path.{◌≡◌, sym, ◌∙◌}
use mathlib.Core.Bool.{Bool}
use mathlib.Core.List.{List}
use Prim.Native.Nat.{ℕ}
use Rattle.definition.specs.Edition.{edition1}
use Rattle.values.specs.Tables.{table}
use Rattle.reads.specs.Counts.{visit, slots, between, last_reader, read_by, LiveReads, PhiReads}

pub live_reads : (f : List ℕ) (n : ℕ) (t u : List ℕ) → LiveReads f n t → LiveReads f n u → t ≡ u
live_reads f n t u p q = p edition1 ∙ sym (q edition1)

pub phi_reads_lem : (f : List ℕ) (n : ℕ) (t u : List ℕ) → PhiReads f n t → PhiReads f n u → t ≡ u
phi_reads_lem f n t u p q = p edition1 ∙ sym (q edition1)

pub readers : (f : List ℕ) (n : ℕ) (t u : List ℕ) → t ≡ table f n (last_reader f) → u ≡ table f n (last_reader f) → t ≡ u
readers f n t u p q = p ∙ sym q

-- for every step that a function describes, as `placed x` describes putting x
pub visit_run : (step : List ℕ → ℕ → List ℕ) (numbers order : List ℕ) (base a b : ℕ) (e t u : List ℕ) → t ≡ visit step e (slots numbers base (between order a b))
    → u ≡ visit step e (slots numbers base (between order a b)) → t ≡ u
visit_run step numbers order base a b e t u p q = p ∙ sym q

pub is_read : (live phi : List ℕ) (m : ℕ) (r s : Bool) → r ≡ read_by live phi m → s ≡ read_by live phi m → r ≡ s
is_read live phi m r s p q = p ∙ sym q
