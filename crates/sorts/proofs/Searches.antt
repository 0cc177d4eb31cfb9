-- A search goes on as long as the test does not hold, and ends within its places, at the lowest of those where it does.
use mathlib.Core.Path.{◌≡◌, refl, sym, ap, ap₂, ◌∙◌}
use mathlib.Core.List.{List}
use mathlib.Core.Bool.{Bool, true, false, cond, false≢true}
use Prim.Native.Nat.{ℕ, zero, suc, ◌+◌, ◌-◌, ◌≤◌, ◌<◌}
use native.Mathlib.Decide.{ℕ_discrete, dec_lt, dec_le}
use native.Mathlib.Omega.{arith}
use Rattle.definition.proofs.Bools.{by_test}
use borrow.Author.Tests.{lt-ltb, le-ltb}
use denote.Param.Members.{Mut}
use denote.Ref.{Bor}
use Rattle.std.specs.Bool.{⊤}
use Rattle.std.specs.Fn.{CalledAt}
use Rattle.std.specs.Iterator.{YieldsThen}
use Rattle.std.specs.List.{range_with_len, find, FoldsTo}
use Rattle.std.specs.Option.{MatchOption, option_map}
use Rattle.std.specs.Prelude.{Option, Some, None}
use Rattle.std.specs.declared.ops.Range.{Range}
use Rattle.std.proofs.iter.Yields.{nat_range_steps}
use Rattle.std.proofs.lemmas.Iterator.{YieldsList-from_range}
use Rattle.std.proofs.lemmas.Iterator.Search.{find_from_yields_List}
use Rattle.std.proofs.lemmas.Option.{same_Some, none-some}
use Rattle.sorts.specs.Places.{found, first_place}

-- ---- where it ends
pub place_within : (p : ℕ → Bool) (n a : ℕ) → (a ≤ first_place p a n) × (first_place p a n ≤ a + n)
unfolding first_place
place_within p zero a = (omega arith, omega arith)
place_within p (suc n) a =
    let h = place_within p n (a + 1) in
    by_test (p a) (λ e. rw e (omega arith, omega arith)) (λ e. rw e (omega (arith, h.0), omega (arith, h.1)))

-- ---- what it finds
module _ (p : ℕ → Bool) where
  pub place_holds : (n a : ℕ) → first_place p a n < a + n → p (first_place p a n) ≡ true
  unfolding first_place
  place_holds zero a h = absurd (omega arith)
  place_holds (suc n) a h = by_test (p a) (λ e. rw e e) (λ e. rw e (place_holds n (a + 1) (omega (arith, rw e at h))))

  pub place_least : (n a i : ℕ) → a ≤ i → i < a + n → p i ≡ true → first_place p a n ≤ i
  unfolding first_place
  place_least zero a i h k q = absurd (omega arith)
  place_least (suc n) a i h k q =
      by_test (p a) (λ e. rw e h)
      (λ e. rw e (place_least n (a + 1) i (later e (ℕ_discrete a i)) (omega arith) q))
    where
      later : p a ≡ false → Dec (a ≡ i) → a + 1 ≤ i
      later e (yes z) = absurd (false≢true (sym e ∙ ap p z ∙ q))
      later e (no z) = omega arith

  -- another test that says the same of these places
  pub place_same : (q : ℕ → Bool) (n a : ℕ) → ((i : ℕ) → i < a + n → p i ≡ q i) → first_place p a n ≡ first_place q a n
  unfolding first_place
  place_same q zero a h = refl
  place_same q (suc n) a h = ap₂ (λ (b : Bool) (x : ℕ). cond b a x) (h a (omega arith)) (place_same q n (a + 1) (λ i k. h i (omega arith)))

-- ---- what is found before the end
pub found_in : (e j : ℕ) → j < e → found e j ≡ Some j
unfolding found
found_in e j h = rw (lt-ltb j e h)

pub found_out : (e j : ℕ) → e ≤ j → found e j ≡ None
unfolding found
found_out e j h = rw (le-ltb j e h)

pub found_is : (e j i : ℕ) → Some i ≡ found e j → (j ≡ i) × (j < e)
found_is e j i q = go (dec_lt j e)
  where
    go : Dec (j < e) → (j ≡ i) × (j < e)
    go (yes h) = let z = q ∙ found_in e j h in (sym (same_Some i j z), h)
    go (no h) = let z = q ∙ found_out e j (omega arith) in absurd (none-some i (sym z))

pub found_none : (e j : ℕ) → None ≡ found e j → e ≤ j
found_none e j q = go (dec_lt j e)
  where
    go : Dec (j < e) → e ≤ j
    go (yes h) = let z = q ∙ found_in e j h in absurd (none-some j z)
    go (no h) = omega arith

-- ---- a chain `(a..e).find(..)`
find_listed : (p : ℕ → Bool) (n a : ℕ) → find p (range_with_len a n) ≡ found (a + n) (first_place p a n)
unfolding first_place
find_listed p zero a = sym (found_out (a + 0) a (omega arith))
find_listed p (suc n) a =
    let z : a + 1 + n ≡ a + suc n = omega arith in
    by_test (p a) (λ e. rw e (sym (found_in (a + suc n) a (omega arith))))
    (λ e. rw e (find_listed p n (a + 1) ∙ ap (λ (k : ℕ). found k (first_place p (a + 1) n)) z))

same_option : (r : Option ℕ) → r ≡ option_map (λ (x : ℕ). x) r
same_option (Some x) = refl
same_option None = refl

pub search_place : {F : Type 0} {g : Mut F (Bor ℕ × Unit {0}) Bool} {s : Range ℕ} {f : F} (u : Range ℕ) (r : Option ℕ) (p : ℕ → Bool) (a e : ℕ)
    → ((xs : List ℕ) × (j : F) × YieldsThen nat_range_steps s xs r u × FoldsTo (λ p x q. CalledAt g p x false q) f xs j
    × MatchOption r ⊤ (λ x. (h : F) × CalledAt g j x true h))
    → s ≡ record { start = a; end = e }
    → ((x : ℕ) (b : Bool) (q : F) → CalledAt g f x b q → (q ≡ f) × (b ≡ p x)) → r ≡ found e (first_place p a (e - a))
search_place {f = f} u r p a e ran q h =
    same_option r ∙ find_from_yields_List p u f r ran (YieldsList-from_range a e (e - a) q refl) h ∙ find_listed p (e - a) a ∙ go (dec_le a e)
  where
    go : Dec (a ≤ e) → found (a + (e - a)) (first_place p a (e - a)) ≡ found e (first_place p a (e - a))
    go (yes k) = let z : a + (e - a) ≡ e = omega arith in ap (λ (i : ℕ). found i (first_place p a (e - a))) z
    go (no k) = let w = place_within p (e - a) a in found_out _ _ (omega (arith, w.0)) ∙ sym (found_out e _ (omega (arith, w.0)))
