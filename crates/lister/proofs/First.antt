-- The first refusal of 1 to 8 decides the definition's result: its refusal, or, where there is none, what structuring makes of the lowered lines. Both
-- sides choose by the same tests.
use mathlib.Core.Path.{◌≡◌, refl}
use mathlib.Core.Bool.{Bool, true, false, cond}
use mathlib.Core.List.{List, [], ◌∷◌}
use Prim.Native.Nat.{ℕ, zero, suc}
use native.Mathlib.Omega.{arith}
use lib.Dec.{eqb, ltb, eqb-suc-zero}
use lib.ListN.{get_or}
use mir.Val.{Fits}
use mir.Syntax.{w8}
use borrow.Author.Tests.{lt-ltb}
use Rattle.definition.specs.Edition.{edition1}
use Rattle.definition.specs.Lists.{all}
use Rattle.definition.specs.Shape.{refused2, refused3, refused4}
use Rattle.definition.specs.References.{refused5}
use Rattle.definition.specs.Meaning.{refused6}
use Rattle.definition.specs.Read.{read, all_trees}
use Rattle.definition.specs.Offsets.{offsets, refused7}
use Rattle.definition.specs.Listing.{Lent, Outcome, refused8, structure, fitting, printed, checked, list, refusal, result_of}
use Rattle.definition.specs.Listing.Outcome.{refused}
use Rattle.definition.proofs.Bools.{passed}
use Rattle.tables.specs.Filled.{outside, judged}
use Rattle.lowered.specs.Lowered.{lines_of, up_to8, first_of}

-- n, or else 7, or else 8
abbrev eight : ℕ → Bool → Bool → ℕ
eight n a b = let j = cond (eqb n 0) (cond a 7 0) n in cond (eqb j 0) (cond b 8 0) j

module _ (B : Lent) where
  by_eight : (n : ℕ) (a b : Bool) (o : Outcome)
      → result_of B (cond (eqb n 0) (cond a (refused 7) (cond b (refused 8) o)) (refused n)) ≡ cond (eqb (eight n a b) 0) (result_of B o) (refusal B (eight n a b))
  unfolding result_of
  by_eight zero true b o = refl
  by_eight zero false true o = refl
  by_eight zero false false o = refl
  by_eight (suc n) a b o = simp eqb-suc-zero refl

  pub by_first : (ready : Bool) (f : List ℕ)
      → cond ready (result_of B (list edition1 f)) (refusal B 1) ≡ cond (eqb (first_of ready f) 0) (result_of B (structure (lines_of f))) (refusal B (first_of ready f))
  unfolding first_of up_to8 judged outside list printed fitting lines_of
  by_first true f =
      by_eight (checked edition1 f) (refused7 (offsets (read edition1 f)) (all_trees edition1 f)) (refused8 edition1.lowered (lines_of f)) (structure (lines_of f))
  by_first false f = refl

-- ---- where nothing refuses the file
behind : (n m : ℕ) → cond (eqb n 0) m n ≡ 0 → (n ≡ 0) × (m ≡ 0)
behind zero m e = (refl, e)
behind (suc n) m e = let h = rw (eqb-suc-zero n) at e in absurd (omega (arith, h))

lent_right : (b : Bool) (n : ℕ) → cond b n 1 ≡ 0 → (b ≡ true) × (n ≡ 0)
lent_right true n e = (refl, e)
lent_right false n e = absurd (omega arith)

pub record Passes (f : List ℕ) : Type 0 where
  pub four : refused4 edition1 f ≡ false
  pub five : refused5 edition1 f ≡ false
  pub six : refused6 edition1 f ≡ false
  pub eighth : refused8 edition1.lowered (lines_of f) ≡ false

pub none_refuses : (ready : Bool) (f : List ℕ) → first_of ready f ≡ 0 → (ready ≡ true) × Passes f
unfolding first_of up_to8 judged checked
none_refuses ready f h =
    let u = behind (cond ready (judged f) 1) (cond (refused8 edition1.lowered (lines_of f)) 8 0) h in
    let j = lent_right ready (judged f) u.0 in
    let p2 = passed (refused2 edition1 f) 2 _ (omega arith) (behind (checked edition1 f) (outside f) j.1).0 in
    let p3 = passed (refused3 edition1 f) 3 _ (omega arith) p2.1 in
    let p4 = passed (refused4 edition1 f) 4 _ (omega arith) p3.1 in
    let p5 = passed (refused5 edition1 f) 5 _ (omega arith) p4.1 in
    let p6 = passed (refused6 edition1 f) 6 _ (omega arith) p5.1 in
    (j.0, record { four = p4.0; five = p5.0; six = p6.0; eighth = (passed (refused8 edition1.lowered (lines_of f)) 8 0 (omega arith) u.1).0 })

-- every number of a file is a byte
pub all_bytes : (f : List ℕ) → ((k : ℕ) → Fits w8 (get_or f k 0)) → all (λ b. ltb b 256) f ≡ true
unfolding all
all_bytes [] h = refl
all_bytes (x ∷ f) h = rw (lt-ltb x 256 (h 0).fits) (all_bytes f (λ k. h (suc k)))
