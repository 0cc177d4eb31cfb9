-- Every file gets exactly one of: one refusal of 2 to 9, or a listing. A number is given exactly when its condition holds and none before it does.
-- The outcome is read as the first of eight tests that holds, and both directions are an induction over the tests.
use mathlib.Core.Path.{◌≡◌, refl, sym, ap, ◌∙◌}
use mathlib.Core.Logic.{◌⊎◌, inl, inr}
use mathlib.Core.Bool.{Bool, true, false, cond, ◌&&◌, true≢false, false≢true}
use mathlib.Core.List.{List, [], ◌∷◌}
use Prim.Native.Nat.{ℕ, zero, suc, ◌+◌, ◌≤◌, ◌<◌}
use native.Mathlib.Omega.{arith}
use lib.Dec.{eqb}
use lib.ListN.{length, get_or}
use Rattle.definition.specs.Edition.{Edition}
use Rattle.definition.specs.Shape.{refused2, refused3, refused4}
use Rattle.definition.specs.References.{refused5}
use Rattle.definition.specs.Meaning.{refused6}
use Rattle.definition.specs.Read.{read, all_trees}
use Rattle.definition.specs.Offsets.{offsets, refused7}
use Rattle.definition.specs.Tokens.{Line}
use Rattle.definition.specs.Blocks.{lower}
use Rattle.definition.specs.Passes.{Passed, structure_ifs, structure_do_while}
use Rattle.definition.specs.Passes.Passed.{done, too_deep}
use Rattle.definition.specs.Listing.{Listing, Outcome, refused8, after_loops, after_ifs, structure, fitting, printed, checked, list, Lent, Result, refusal, success, result_of, fits, result}
use Rattle.definition.specs.Listing.Outcome.{refused, listed}
use Rattle.definition.proofs.Bools.{is_false}

-- the lines that lowering writes for a file
abbrev pub lowered : Edition → List ℕ → List Line
lowered E f = lower (read E f) (offsets (read E f))

-- is a pass too deep: the outcome of structuring is a refusal
abbrev pub is_refused : Outcome → Bool
is_refused (refused n) = true
is_refused (listed L) = false

pub no_refusal {ℓ} : {C : Type ℓ} {n : ℕ} {L : Listing} → refused n ≡ listed L → C
no_refusal e = absurd (true≢false (ap is_refused e))

-- the conditions of 2 to 9, in order
abbrev pub conditions : Edition → List ℕ → List Bool
conditions E f =
    refused2 E f ∷ refused3 E f ∷ refused4 E f ∷ refused5 E f ∷ refused6 E f
    ∷ refused7 (offsets (read E f)) (all_trees E f) ∷ refused8 E.lowered (lowered E f) ∷ is_refused (structure (lowered E f)) ∷ []

-- condition n, from 2 on
abbrev pub holds : Edition → List ℕ → ℕ → Bool
holds E f i = get_or (conditions E f) i false

-- the first test that holds gives its number
first : ℕ → List Bool → Listing → Outcome
first n [] L = listed L
first n (b ∷ bs) L = cond b (refused n) (first (suc n) bs L)

abbrev number : Outcome → ℕ
number (refused n) = n
number (listed L) = 0

-- ---- structuring refuses with 9 alone
structure_nine : (ls : List Line) → (structure ls ≡ refused 9) ⊎ ((L : Listing) × (structure ls ≡ listed L))
unfolding structure after_loops after_ifs
structure_nine ls = ifs (structure_ifs ls)
  where
    loops : (n : ℕ) (p : Passed) → (after_loops n p ≡ refused 9) ⊎ ((L : Listing) × (after_loops n p ≡ listed L))
    loops n (done m ls) = inr (_, refl)
    loops n too_deep = inl refl

    ifs : (p : Passed) → (after_ifs p ≡ refused 9) ⊎ ((L : Listing) × (after_ifs p ≡ listed L))
    ifs (done m ls) = loops m (structure_do_while ls)
    ifs too_deep = inl refl

-- the outcome of structuring, from whether it is a refusal and what it lists
abbrev listing_of : Outcome → Listing
listing_of (refused n) = record { lines = []; ifs = 0; loops = 0 }
listing_of (listed L) = L

abbrev again : Outcome → Outcome
again o = cond (is_refused o) (refused 9) (listed (listing_of o))

structure_is : (ls : List Line) → structure ls ≡ again (structure ls)
structure_is ls = go (structure_nine ls)
  where
    go : (structure ls ≡ refused 9) ⊎ ((L : Listing) × (structure ls ≡ listed L)) → structure ls ≡ again (structure ls)
    go (inl e) = e ∙ sym (ap again e)
    go (inr e) = e.1 ∙ sym (ap again e.1)

-- a check's number, and what stands behind the checks
abbrev number_of : Bool → Bool → Bool → Bool → Bool → ℕ
number_of a b c d g = cond a 2 (cond b 3 (cond c 4 (cond d 5 (cond g 6 0))))

behind : (a b c d g : Bool) (o : Outcome) → cond (eqb (number_of a b c d g) 0) o (refused (number_of a b c d g))
    ≡ cond a (refused 2) (cond b (refused 3) (cond c (refused 4) (cond d (refused 5) (cond g (refused 6) o))))
behind true b c d g o = refl
behind false true c d g o = refl
behind false false true d g o = refl
behind false false false true g o = refl
behind false false false false true o = refl
behind false false false false false o = refl

list_is : (E : Edition) (f : List ℕ) → list E f ≡ first 2 (conditions E f) (listing_of (structure (lowered E f)))
unfolding list checked printed fitting first
list_is E f =
    behind (refused2 E f) (refused3 E f) (refused4 E f) (refused5 E f) (refused6 E f) (printed E f)
    ∙ ap (λ (o : Outcome). cond (refused2 E f) (refused 2) (cond (refused3 E f) (refused 3) (cond (refused4 E f) (refused 4) (cond (refused5 E f) (refused 5) (cond (refused6 E f) (refused 6)
    (cond (refused7 (offsets (read E f)) (all_trees E f)) (refused 7) (cond (refused8 E.lowered (lowered E f)) (refused 8) o)))))))
    (structure_is (lowered E f))

-- ---- the first test that holds
module _ (L : Listing) where
  at_least : (n : ℕ) (bs : List Bool) (m : ℕ) → first n bs L ≡ refused m → n ≤ m
  unfolding first
  at_least n [] m e = no_refusal (sym e)
  at_least n (true ∷ bs) m e = let z : n ≡ m = ap number e in omega arith
  at_least n (false ∷ bs) m e = let z = at_least (suc n) bs m e in omega arith

  -- a number given: its test holds, and none before it
  given : (n : ℕ) (bs : List Bool) (i : ℕ) → first n bs L ≡ refused (n + i)
      → (get_or bs i false ≡ true) × ((j : ℕ) → j < i → get_or bs j false ≡ false)
  unfolding first
  given n [] i e = no_refusal (sym e)
  given n (true ∷ bs) zero e = (refl, λ j h. absurd (omega arith))
  given n (true ∷ bs) (suc i) e = absurd (let z : n ≡ n + suc i = ap number e in omega arith)
  given n (false ∷ bs) zero e = absurd (let z = at_least (suc n) bs (n + zero) e in omega arith)
  given n (false ∷ bs) (suc i) e =
      let p : n + suc i ≡ suc n + i = omega arith in
      let r = given (suc n) bs i (e ∙ ap refused p) in
      (r.0, go r.1)
    where
      go : ((j : ℕ) → j < i → get_or bs j false ≡ false) → (j : ℕ) → j < suc i → get_or (false ∷ bs) j false ≡ false
      go f zero h = refl
      go f (suc j) h = f j (omega arith)

  -- and where its test holds and none before it, it is given
  gives : (n : ℕ) (bs : List Bool) (i : ℕ) → get_or bs i false ≡ true → ((j : ℕ) → j < i → get_or bs j false ≡ false) → first n bs L ≡ refused (n + i)
  unfolding first
  gives n [] i h k = absurd (false≢true h)
  gives n (true ∷ bs) zero h k = let p : n ≡ n + 0 = omega arith in ap refused p
  gives n (true ∷ bs) (suc i) h k = absurd (true≢false (k zero (omega arith)))
  gives n (false ∷ bs) zero h k = absurd (false≢true h)
  gives n (false ∷ bs) (suc i) h k =
      let p : suc n + i ≡ n + suc i = omega arith in
      gives (suc n) bs i h (λ j l. k (suc j) (omega arith)) ∙ ap refused p

  -- a listing: no test holds
  lists : (n : ℕ) (bs : List Bool) (M : Listing) → first n bs L ≡ listed M → (i : ℕ) → get_or bs i false ≡ false
  unfolding first
  lists n [] M e i = refl
  lists n (true ∷ bs) M e i = no_refusal e
  lists n (false ∷ bs) M e zero = refl
  lists n (false ∷ bs) M e (suc i) = lists (suc n) bs M e i

  passed : (n : ℕ) (bs : List Bool) → ((i : ℕ) → get_or bs i false ≡ false) → first n bs L ≡ listed L
  unfolding first
  passed n [] h = refl
  passed n (true ∷ bs) h = absurd (true≢false (h zero))
  passed n (false ∷ bs) h = passed (suc n) bs (λ i. h (suc i))

  -- one of the two
  either : (n : ℕ) (bs : List Bool) → ((i : ℕ) × (i < length bs) × (first n bs L ≡ refused (n + i))) ⊎ (first n bs L ≡ listed L)
  unfolding first
  either n [] = inr refl
  either n (true ∷ bs) = let p : n ≡ n + 0 = omega arith in inl (0, omega arith, ap refused p)
  either n (false ∷ bs) = go (either (suc n) bs)
    where
      go : ((i : ℕ) × (i < length bs) × (first (suc n) bs L ≡ refused (suc n + i))) ⊎ (first (suc n) bs L ≡ listed L)
          → ((i : ℕ) × (i < suc (length bs)) × (first (suc n) bs L ≡ refused (n + i))) ⊎ (first (suc n) bs L ≡ listed L)
      go (inl r) = let p : suc n + r.0 ≡ n + suc r.0 = omega arith in inl (suc r.0, omega (arith, r.1), r.2 ∙ ap refused p)
      go (inr e) = inr e

-- ---- the theorem, for every edition and every file
module _ (E : Edition) (f : List ℕ) where
  -- number i + 2 is given exactly when its condition holds and none before it does
  pub refuses : (i : ℕ) → list E f ≡ refused (2 + i) → (holds E f i ≡ true) × ((j : ℕ) → j < i → holds E f j ≡ false)
  refuses i e = given _ 2 (conditions E f) i (sym (list_is E f) ∙ e)

  pub refused_when : (i : ℕ) → holds E f i ≡ true → ((j : ℕ) → j < i → holds E f j ≡ false) → list E f ≡ refused (2 + i)
  refused_when i h k = list_is E f ∙ gives _ 2 (conditions E f) i h k

  -- a listing is given exactly when no condition holds
  pub accepts : (L : Listing) → list E f ≡ listed L → (i : ℕ) → holds E f i ≡ false
  accepts L e i = lists _ 2 (conditions E f) L (sym (list_is E f) ∙ e) i

  pub accepted_when : ((i : ℕ) → holds E f i ≡ false) → list E f ≡ structure (lowered E f)
  accepted_when h =
      list_is E f ∙ passed _ 2 (conditions E f) h
      ∙ sym (structure_is (lowered E f) ∙ ap (λ (b : Bool). cond b (refused 9) (listed (listing_of (structure (lowered E f))))) (h 7))

  -- one refusal of 2 to 9, or a listing
  pub one_of : ((i : ℕ) × (i < 8) × (list E f ≡ refused (2 + i))) ⊎ ((L : Listing) × (list E f ≡ listed L))
  one_of = go (either (listing_of (structure (lowered E f))) 2 (conditions E f))
    where
      go : ((i : ℕ) × (i < 8) × (first 2 (conditions E f) (listing_of (structure (lowered E f))) ≡ refused (2 + i)))
          ⊎ (first 2 (conditions E f) (listing_of (structure (lowered E f))) ≡ listed (listing_of (structure (lowered E f))))
          → ((i : ℕ) × (i < 8) × (list E f ≡ refused (2 + i))) ⊎ ((L : Listing) × (list E f ≡ listed L))
      go (inl r) = inl (r.0, r.1, list_is E f ∙ r.2)
      go (inr e) = inr (_, list_is E f ∙ e)

  -- 1 comes first: exactly where a lent buffer or the scratch is not of its length
  module _ (B : Lent) (ready : Bool) where
    pub refused_one : (ready && fits E B) ≡ false → result E B ready f ≡ refusal B 1
    unfolding result
    refused_one h = ap (λ (b : Bool). cond b (result_of B (list E f)) (refusal B 1)) h

    pub not_one : (ready && fits E B) ≡ true → result E B ready f ≡ result_of B (list E f)
    unfolding result
    not_one h = ap (λ (b : Bool). cond b (result_of B (list E f)) (refusal B 1)) h

    pub one_when : (result E B ready f).number ≡ 1 → (ready && fits E B) ≡ false
    unfolding result refusal success result_of
    one_when e = is_false (ready && fits E B) (λ p. other (list E f) one_of (sym (ap (λ (r : Result). r.number) (not_one p)) ∙ e))
      where
        other : (o : Outcome) → ((i : ℕ) × (i < 8) × (o ≡ refused (2 + i))) ⊎ ((L : Listing) × (o ≡ listed L)) → (result_of B o).number ≡ 1 → ⊥
        other o (inl r) q =
            let z : 2 + r.0 ≡ 1 = sym (ap (λ (p : Outcome). (result_of B p).number) r.2) ∙ q in
            omega arith
        other o (inr r) q =
            let z : ◌≡◌ {A = ℕ} 0 1 = sym (ap (λ (p : Outcome). (result_of B p).number) r.1) ∙ q in
            omega arith
