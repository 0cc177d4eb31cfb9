-- Where a scan stops, as bounds on indents: a line that does not end a scan at depth d stands at d - 1 or deeper.
use mathlib.Core.Path.{◌≡◌, refl, sym, ap, subst, ◌∙◌}
use mathlib.Core.Bool.{Bool, true, false, not, ◌&&◌, and-true, true≢false}
use Prim.Native.Nat.{ℕ, suc, ◌≤◌}
use native.Mathlib.Omega.{arith}
use borrow.Author.Tests.{eqb-true, eq-eqb, ltb-true, ltb-false, le-ltb}
use lib.Dec.{eqb, ltb}
use Rattle.definition.specs.Lists.{has}
use Rattle.definition.specs.Tokens.{Line}
use Rattle.definition.specs.Sorts.{sort}
use Rattle.definition.specs.Passes.{label_name, outer, stops}
use Rattle.definition.proofs.Bools.{by_test}

pub stops_not : (d : ℕ) (x : Line) → d ≤ x.indent → stops d x ≡ false
unfolding stops
stops_not d x w = ap (λ (b : Bool). b && not (outer d x)) (le-ltb x.indent d w)

-- no label: the indent decides
pub stops_plain : (d : ℕ) (x : Line) → has (label_name (sort x)) ≡ false → stops d x ≡ ltb x.indent d
unfolding stops outer
stops_plain d x e = ap (λ (l : Bool). ltb x.indent d && not (l && eqb (suc x.indent) d)) e ∙ and-true (ltb x.indent d)

-- a label does not end the scan from it
pub label_runs : (x : Line) → has (label_name (sort x)) ≡ true → stops (suc x.indent) x ≡ false
unfolding stops outer
label_runs x e = go (ltb x.indent (suc x.indent)) (has (label_name (sort x))) (eqb (suc x.indent) (suc x.indent)) e (eq-eqb (suc x.indent) (suc x.indent) refl)
  where
    go : (a l q : Bool) → l ≡ true → q ≡ true → (a && not (l && q)) ≡ false
    go true true true e h = refl
    go true true false e h = sym h
    go true false q e h = sym e
    go false l q e h = refl

pub depth : (d : ℕ) (x : Line) → stops d x ≡ false → d ≤ suc x.indent
unfolding stops outer
depth d x h = go (ltb x.indent d) (has (label_name (sort x))) (eqb (suc x.indent) d) h (ltb-false x.indent d) (eqb-true (suc x.indent) d)
  where
    go : (a l q : Bool) → (a && not (l && q)) ≡ false → (a ≡ false → d ≤ x.indent) → (q ≡ true → suc x.indent ≡ d) → d ≤ suc x.indent
    go true true true h f g = omega (arith, g refl)
    go true true false h f g = absurd (true≢false h)
    go true false q h f g = absurd (true≢false h)
    go false l q h f g = omega (arith, f refl)

-- nor does it end a scan at a lesser depth
pub shallower : (d₀ d : ℕ) (x : Line) → d₀ ≤ d → stops d x ≡ false → stops d₀ x ≡ false
shallower d₀ d x w h =
    by_test (ltb d₀ d) (λ e. stops_not d₀ x (omega (arith, ltb-true d₀ d e, depth d x h)))
    (λ e. let q : d ≡ d₀ = omega (arith, ltb-false d₀ d e) in subst (λ (z : ℕ). stops z x ≡ false) q h)
