-- From a table of what is known, a round's contract says the table behind it exactly, and its answer: two that meet it are equal.
use mathlib.Core.Path.{◌≡◌, refl, sym, ap, ◌∙◌}
use mathlib.Core.Bool.{Bool, true, false}
use mathlib.Core.List.{List}
use Prim.Native.Nat.{ℕ}
use native.Mathlib.Omega.{arith}
use Rattle.definition.specs.Offsets.{Known, look, Def}
use Rattle.values.specs.Tables.{table}
use Rattle.rounds.specs.Ran.{zeros, Ran}

module _ (f : List ℕ) (n : ℕ) (ds : List Def) (k : List Known) (tab : List ℕ) (e : tab ≡ table f n (look k)) where
  -- a change leaves one 0 less, and no change leaves the table as it was
  one_answer : (a b : List ℕ) → Ran f n ds tab a true → Ran f n ds tab b false → ⊥
  one_answer a b p q =
      let z : zeros a ≡ zeros tab = ap zeros (p.learns k e ∙ ap (λ (j : List Known). table f n (look j)) (q.still refl k e) ∙ sym e) in
      omega (arith, p.falls)

  pub round_of : (a b : List ℕ) (r s : Bool) → Ran f n ds tab a r → Ran f n ds tab b s → (a ≡ b) × (r ≡ s)
  round_of a b true true p q = (p.learns k e ∙ sym (q.learns k e), refl)
  round_of a b true false p q = absurd (one_answer a b p q)
  round_of a b false true p q = absurd (one_answer b a q p)
  round_of a b false false p q = (p.learns k e ∙ sym (q.learns k e), refl)
