-- What keeps a region from forming, as counts of labels and gotos.
use mathlib.Core.Path.{◌≡◌, ap, ◌∙◌}
use mathlib.Core.Bool.{true, false≢true}
use mathlib.Core.Option.{Option, none, some}
use mathlib.Core.List.{List, [], ◌∷◌}
use Prim.Native.Nat.{ℕ, ◌<◌}
use native.Mathlib.Omega.{arith}
use Rattle.definition.specs.Lists.{any, count}
use Rattle.definition.specs.Tokens.{Line}
use Rattle.definition.specs.Sorts.{sort}
use Rattle.definition.specs.Passes.{label_name, is, named, aims, aimed, aimed_at, reached}
use Rattle.definition.proofs.Bools.{or_cases, or_left, or_right, by_test}
use Rattle.definition.proofs.TextLaws.{same_refl}
use Rattle.definition.proofs.ListLaws.{bit, count_cons, any_count, count_any}
use Rattle.definition.proofs.SortLaws.{is_some}

-- a label of `mid` that a line of `ls` aims at
abbrev pub Reach : List Line → List Line → Type 0
Reach ls mid = (u : List ℕ) × (0 < count (named u) mid) × (0 < count (aims u) ls)

module _ (ls : List Line) where
  label_aimed : (o : Option (List ℕ)) → aimed_at ls o ≡ true → (u : List ℕ) × (is u o ≡ true) × (aimed u ls ≡ true)
  unfolding aimed_at is
  label_aimed none e = absurd (false≢true e)
  label_aimed (some u) e = (u, same_refl u, e)

  pub reach_of : (mid : List Line) → reached ls mid ≡ true → Reach ls mid
  unfolding reached any named aimed
  reach_of [] e = absurd (false≢true e)
  reach_of (x ∷ xs) e =
      let i = reach_of xs in
      or_cases (aimed_at ls (label_name (sort x))) (reached ls xs)
      (λ a. let r = label_aimed (label_name (sort x)) a in (r.0, omega (arith, count_cons (named r.0) x xs, ap bit r.1), any_count (aims r.0) ls r.2))
      (λ b. let r = i b in (r.0, omega (arith, r.1, count_cons (named r.0) x xs), r.2)) e

  pub of_reach : (mid : List Line) → Reach ls mid → reached ls mid ≡ true
  unfolding reached any count named aimed aimed_at
  of_reach [] r = absurd (omega (arith, r.1))
  of_reach (x ∷ xs) r =
      let i : 0 < count (named r.0) xs → reached ls xs ≡ true = λ w. of_reach xs (r.0, w, r.2) in
      by_test (named r.0 x)
      (λ e. or_left (aimed_at ls (label_name (sort x))) (reached ls xs) (ap (aimed_at ls) (is_some r.0 (label_name (sort x)) e) ∙ count_any (aims r.0) ls r.2))
      (λ e. or_right (aimed_at ls (label_name (sort x))) (reached ls xs) (i (omega (arith, r.1, count_cons (named r.0) x xs, ap bit e))))
