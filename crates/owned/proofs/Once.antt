-- The table emptied, tallied over statements and expressions, looked at, and emptied again: that is whether each is owned once.
use mathlib.Core.Path.{◌≡◌, ap, ◌∙◌}
use mathlib.Core.Bool.{Bool}
use mathlib.Core.List.{List, ◌++◌}
use Prim.Native.Nat.{ℕ, ◌≤◌}
use lib.Dec.{eqb}
use lib.ListN.{length, replicate, length-replicate}
use Rattle.definition.specs.Edition.{statements, expressions}
use Rattle.definition.specs.Contents.{size}
use Rattle.definition.specs.Lists.{count, gather, range, all_below, at}
use Rattle.definition.specs.References.{roots, children, mentions, owned_once}
use Rattle.owned.specs.Tally.{mentioned, tally, Answered}
use Rattle.definition.proofs.Runs.{run_then}
use Rattle.owned.proofs.Tally.{tally_none, tally_next, tally_keeps, tally_once}

module _ (f t t₁ t₂ t₃ t₄ : List ℕ) (n : ℕ) (r : Bool)
    (a : t₁ ≡ replicate (length t) 0)
    (b : t₂ ≡ tally t₁ (gather (roots f) (range 0 (size f statements))))
    (c : t₃ ≡ tally t₂ (gather (children f) (range 0 (size f expressions))))
    (d : n ≡ size f expressions) (k : n ≤ length t)
    (h : r ≡ all_below n (λ e. eqb (at t₃ e) 1))
    (z : t₄ ≡ replicate (length t₃) 0) where
  once_says : r ≡ owned_once f
  unfolding owned_once mentions
  once_says =
      let m = gather (roots f) (range 0 (size f statements)) ++ gather (children f) (range 0 (size f expressions)) in
      let s : t₃ ≡ tally (replicate (length t) 0) m = run_then tally mentioned tally_none tally_next t₁ t₂ t₃ _ _ b c ∙ ap (λ (l : List ℕ). tally l m) a in
      h ∙ ap (λ (l : List ℕ). all_below n (λ e. eqb (at l e) 1)) s ∙ tally_once (length t) m n k
      ∙ ap (λ (j : ℕ). all_below j (λ e. eqb (count (eqb e) m) 1)) d

  once_left : t₄ ≡ replicate (length t) 0
  once_left =
      let p : length t₁ ≡ length t = ap length a ∙ length-replicate (length t) 0 in
      z ∙ ap (λ (j : ℕ). replicate j 0) (tally_keeps t₂ t₃ t _ c (tally_keeps t₁ t₂ t _ b p))

  pub once_answer : Answered (owned_once f) r t t₄
  once_answer = record { says = once_says; left = once_left }
