-- Each return of the reader: the checks before it have passed, its own has not, and the scratch is zeros since it was cleared.
use mathlib.Core.Path.{◌≡◌, refl, sym, ap, subst, ◌∙◌}
use mathlib.Core.Bool.{Bool, true, false, true≢false, ◌||◌}
use mathlib.Core.List.{List}
use Prim.Native.Nat.{ℕ, ◌+◌, ◌≤◌}
use lib.Dec.{ltb}
use lib.ListN.{length, replicate, length-replicate}
use borrow.Author.Tests.{eq-eqb, ne_eqb, ltb-false}
use Rattle.definition.specs.Edition.{Edition, edition1, expressions}
use Rattle.definition.specs.Contents.{size}
use Rattle.definition.specs.Shape.{refused2, too_many, refused3, refused4}
use Rattle.definition.specs.References.{refused5}
use Rattle.definition.specs.Meaning.{refused6}
use Rattle.definition.specs.Listing.{checked}
use Rattle.file.specs.Verdicts.{verdict, Checked}

-- what a check said of the code's edition, it says of edition 1
pub seen : (g : Edition → List ℕ → Bool) (E : Edition) (f : List ℕ) (b v : Bool) → E ≡ edition1 → b ≡ g E f → b ≡ v → g edition1 f ≡ v
seen g E f b v e p q = subst (λ (D : Edition). g D f ≡ v) e (sym p ∙ q)

or_right : (a b : Bool) → (a || b) ≡ false → b ≡ false
or_right true b h = absurd (true≢false h)
or_right false b h = h

-- a file that passes 3 has few expressions
pub few_expressions : (f : List ℕ) → refused3 edition1 f ≡ false → size f expressions ≤ 2048
unfolding refused3 too_many edition1
few_expressions f h =
    let a0 = or_right (ltb 65536 (length f)) _ h in
    let a1 = or_right (ltb 16 (size f 0)) _ a0 in
    let a2 = or_right (ltb 320 (size f (0 + 1))) _ a1 in
    let a3 = or_right (ltb 512 (size f (0 + 1 + 1))) _ a2 in
    let a4 = or_right (ltb 2048 (size f (0 + 1 + 1 + 1))) _ a3 in
    let a5 = or_right (ltb 1024 (size f (0 + 1 + 1 + 1 + 1))) _ a4 in
    let a6 = or_right (ltb 2048 (size f (0 + 1 + 1 + 1 + 1 + 1))) _ a5 in
    ltb-false 2048 (size f 6) (or_left _ _ a6)
  where
    or_left : (a b : Bool) → (a || b) ≡ false → a ≡ false
    or_left true b h = h
    or_left false b h = refl

-- ---- the checks in order
module _ (f : List ℕ) where
  abbrev passes : (Edition → List ℕ → Bool) → Type 0
  passes g = g edition1 f ≡ false

  abbrev fails : (Edition → List ℕ → Bool) → Type 0
  fails g = g edition1 f ≡ true

  pub by_2 : fails refused2 → 2 ≡ checked edition1 f
  unfolding checked
  by_2 h = rw h

  pub by_3 : passes refused2 → fails refused3 → 3 ≡ checked edition1 f
  unfolding checked
  by_3 a h = rw (a, h)

  pub by_4 : passes refused2 → passes refused3 → fails refused4 → 4 ≡ checked edition1 f
  unfolding checked
  by_4 a b h = rw (a, b, h)

  pub by_5 : passes refused2 → passes refused3 → passes refused4 → fails refused5 → 5 ≡ checked edition1 f
  unfolding checked
  by_5 a b c h = rw (a, b, c, h)

  pub by_6 : passes refused2 → passes refused3 → passes refused4 → passes refused5 → fails refused6 → 6 ≡ checked edition1 f
  unfolding checked
  by_6 a b c d h = rw (a, b, c, d, h)

  pub by_none : passes refused2 → passes refused3 → passes refused4 → passes refused5 → passes refused6 → 0 ≡ checked edition1 f
  unfolding checked
  by_none a b c d h = rw (a, b, c, d, h)

  -- the scratch is not of its length
  pub not_lent : (t u : List ℕ) → u ≡ replicate (length t) 0 → (length u ≡ 2048 → ⊥) → Checked f 1 t u
  unfolding verdict
  not_lent t u e h = record {
    says = let k : length u ≡ length t = ap length e ∙ length-replicate (length t) 0 in rw (ne_eqb (length t) 2048 (λ q. h (k ∙ q)));
    left = e;
  }

  -- it is, and has been left as zeros again where a check wrote to it
  pub answered : (t u v : List ℕ) (n : ℕ) → u ≡ replicate (length t) 0 → length u ≡ 2048 → v ≡ replicate (length u) 0 → n ≡ checked edition1 f → Checked f n t v
  unfolding verdict
  answered t u v n e h z c =
      let k : length u ≡ length t = ap length e ∙ length-replicate (length t) 0 in
      record {
        says = rw (eq-eqb (length t) 2048 (sym k ∙ h)) c;
        left = z ∙ ap (λ (m : ℕ). replicate m 0) k;
      }

  pub untouched : (t u : List ℕ) → u ≡ replicate (length t) 0 → u ≡ replicate (length u) 0
  untouched t u e = e ∙ ap (λ (m : ℕ). replicate m 0) (sym (ap length e ∙ length-replicate (length t) 0))

  -- and zeros again behind a second check
  pub zeros_again : (t u v : List ℕ) → u ≡ replicate (length t) 0 → v ≡ replicate (length u) 0 → v ≡ replicate (length t) 0
  zeros_again t u v e h = h ∙ ap (λ (m : ℕ). replicate m 0) (ap length e ∙ length-replicate (length t) 0)
