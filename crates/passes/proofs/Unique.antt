-- A pass, a try and a gathering are equations for the answer and the tables: two that are equal are equal in each part.
use mathlib.Core.Path.{◌≡◌, sym, ap, ◌∙◌}
use mathlib.Core.List.{List}
use Prim.Native.Nat.{ℕ}
use mathlib.Core.Bool.{Bool}
use Rattle.std.specs.Prelude.{Result}
use Rattle.passes.specs.declared.sweeps.Formed.{Formed}
use Rattle.passes.specs.declared.sweeps.TooDeep.{TooDeep}
use Rattle.passes.specs.Sweeps.{Tried, tried, Swept, swept}
use Rattle.passes.specs.Dropping.{Gathered, gathered}

pub swept_once : (z : Swept) (r s : Result Formed TooDeep) (R S R' S' : List ℕ) → swept r R S ≡ z → swept s R' S' ≡ z → (r ≡ s) × (R ≡ R') × (S ≡ S')
swept_once z r s R S R' S' p q =
    let e : swept r R S ≡ swept s R' S' = p ∙ sym q in
    (ap (λ (x : Swept). x.passed) e, ap (λ (x : Swept). x.rows) e, ap (λ (x : Swept). x.spans) e)

pub tried_once : (z : Tried) (r s : Result Bool TooDeep) (R S R' S' : List ℕ) → tried r R S ≡ z → tried s R' S' ≡ z → (r ≡ s) × (R ≡ R') × (S ≡ S')
tried_once z r s R S R' S' p q =
    let e : tried r R S ≡ tried s R' S' = p ∙ sym q in
    (ap (λ (x : Tried). x.says) e, ap (λ (x : Tried). x.rows) e, ap (λ (x : Tried). x.spans) e)

pub gathered_once : (z : Gathered) (r s : ℕ) (R R' : List ℕ) → gathered r R ≡ z → gathered s R' ≡ z → (r ≡ s) × (R ≡ R')
gathered_once z r s R R' p q = let e : gathered r R ≡ gathered s R' = p ∙ sym q in (ap (λ (x : Gathered). x.count) e, ap (λ (x : Gathered). x.rows) e)
