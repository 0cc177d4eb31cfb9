-- Slots taken one by one: the loops' turns, their early ends and their ends, over any lists that the places give.
use mathlib.Core.Path.{◌≡◌, refl, sym, ap, ◌∙◌}
use mathlib.Core.Bool.{Bool, true, false, not, cond}
use mathlib.Core.List.{List, [], ◌∷◌, ◌++◌, map}
use Prim.Native.Nat.{ℕ, suc, ◌+◌, ◌-◌, ◌≤◌, ◌<◌}
use native.Mathlib.Omega.{arith}
use lib.Bits.{bit_or}
use lib.ListN.{get_or, set}
use borrow.Author.Tests.{eq-eqb, ne_eqb, not-true, not-false}
use Rattle.definition.specs.Edition.{phis, statements}
use Rattle.definition.specs.Lists.{gather, range}
use Rattle.definition.specs.Contents.{size}
use Rattle.definition.specs.Values.{Value}
use Rattle.definition.specs.Meaning.{phi_value, assigned, strict}
use Rattle.definition.proofs.Runs.{run_then}
use Rattle.std.specs.Prelude.{Option, Some, None}
use Rattle.defined.specs.declared.value.Value.{Value as CValue}
use Rattle.defined.specs.Defined.{value_of, list_of}
use Rattle.defined.proofs.Ranges.{singles}
use Rattle.slots.specs.Slots.{place, mask, free, marked, Slots, slots, taken, takes}

-- ---- one value
module _ (t : List ℕ) (v : Value) where
  pub take_zero : v.ver ≡ 0 → slots t false ≡ taken t v
  unfolding taken
  take_zero h = rw (eq-eqb v.ver 0 h)

  module _ (above : v.ver ≡ 0 → ⊥) (r : Bool) (says : r ≡ free t v) where
    pub take_clash : not r ≡ true → slots t false ≡ taken t v
    unfolding taken
    take_clash h = rw (ne_eqb v.ver 0 above, ← says, not-true r h)

    pub take_marked : not r ≡ false → slots (marked t v) true ≡ taken t v
    unfolding taken
    take_marked h = rw (ne_eqb v.ver 0 above, ← says, not-false r h)

    pub take_slot : (k m : ℕ) → not r ≡ false → k ≡ place v → m ≡ mask v → slots (set t k (bit_or (get_or t k 0) m)) true ≡ taken t v
    unfolding marked
    take_slot k m h p q = rw (p, q) (take_marked h)

  pub take_read : (w : Value) (s : Slots) → v ≡ w → s ≡ taken t v → s ≡ takes (slots t true) (w ∷ [])
  unfolding takes
  take_read w s h e = e ∙ ap (taken t) h

pub take_none : (t : List ℕ) (d : Option CValue) → d ≡ None → slots t true ≡ takes (slots t true) (list_of d)
unfolding takes
take_none t d e = rw e

pub take_given : (t : List ℕ) (d : Option CValue) (v : CValue) (s : Slots) → d ≡ Some v → s ≡ taken t (value_of v) → s ≡ takes (slots t true) (list_of d)
take_given t d v s e h = rw e (take_read t (value_of v) (value_of v) s refl h)

-- ---- runs of values
takes_then : (s u r : Slots) (xs ys : List Value) → u ≡ takes s xs → r ≡ takes u ys → r ≡ takes s (xs ++ ys)
unfolding takes
takes_then = run_then takes (λ s x. cond s.apart (taken s.table x) s) (λ s. refl) (λ s x xs. refl)

pub stays : (xs : List Value) (t : List ℕ) → takes (slots t false) xs ≡ slots t false
unfolding takes
stays [] t = refl
stays (x ∷ xs) t = stays xs t

-- what was taken first leaves u and r
module _ (t u : List ℕ) (r : Bool) (xs ys : List Value) (says : slots u r ≡ takes (slots t true) xs) where
  pub both_go : (s : Slots) → not r ≡ false → s ≡ takes (slots u true) ys → s ≡ takes (slots t true) (xs ++ ys)
  both_go s h e = takes_then (slots t true) (slots u r) s xs ys says (e ∙ ap (λ (b : Bool). takes (slots u b) ys) (sym (not-false r h)))

  pub both_stop : not r ≡ true → slots u false ≡ takes (slots t true) (xs ++ ys)
  both_stop h = takes_then (slots t true) (slots u r) (slots u false) xs ys says (sym (stays ys u) ∙ ap (λ (b : Bool). takes (slots u b) ys) (sym (not-true r h)))

-- the loop over the numbers below n, whatever list each gives; s is what the whole comes to
module _ (g : ℕ → List Value) (n : ℕ) (s : Slots) where
  abbrev left : List ℕ → ℕ → Slots
  left t i = takes (slots t true) (gather g (range i (n - i)))

  pub runs_start : (m : ℕ) (t : List ℕ) → n ≡ m → s ≡ takes (slots t true) (gather g (range 0 m)) → s ≡ left t 0
  runs_start m t e h = let k : n - 0 ≡ m = omega arith in rw k h

  module _ (i : ℕ) (t : List ℕ) (h : s ≡ left t i) where
    next : i < n → gather g (range i (n - i)) ≡ g i ++ gather g (range (i + 1) (n - (i + 1)))
    unfolding gather range
    next l = let k : n - i ≡ suc (n - (i + 1)) = omega arith in rw k

    pub runs_turn : (u : List ℕ) (r : Bool) → i < n → slots u r ≡ takes (slots t true) (g i) → not r ≡ false → s ≡ left u (i + 1)
    runs_turn u r l e k = h ∙ ap (takes (slots t true)) (next l) ∙ sym (both_go t u r (g i) (gather g (range (i + 1) (n - (i + 1)))) e _ k refl)

    pub runs_stop : (u : List ℕ) (r : Bool) → i < n → slots u r ≡ takes (slots t true) (g i) → not r ≡ true → slots u false ≡ s
    runs_stop u r l e k = both_stop t u r (g i) (gather g (range (i + 1) (n - (i + 1)))) e k ∙ sym (h ∙ ap (takes (slots t true)) (next l))

    pub runs_end : n ≤ i → slots t true ≡ s
    unfolding takes gather range
    runs_end l = let k : n - i ≡ 0 = omega arith in sym (rw k at h)

-- phis, each as a list of one
abbrev pub phi_list : List ℕ → ℕ → List Value
phi_list f i = phi_value f i ∷ []

pub phis_are : (f : List ℕ) (s : Slots) → takes s (gather (phi_list f) (range 0 (size f phis))) ≡ takes s (map (phi_value f) (range 0 (size f phis)))
phis_are f s = ap (takes s) (sym (singles (phi_value f) (range 0 (size f phis))))

-- phis, then Assigns
module _ (f t u : List ℕ) (r : Bool) (says : slots u r ≡ takes (slots t true) (map (phi_value f) (range 0 (size f phis)))) where
  pub strict_ends : not r ≡ true → slots u false ≡ takes (slots t true) (strict f)
  unfolding strict
  strict_ends h = both_stop t u r (map (phi_value f) (range 0 (size f phis))) (gather (assigned f) (range 0 (size f statements))) says h

  pub strict_taken : (s : Slots) → not r ≡ false → s ≡ takes (slots u true) (gather (assigned f) (range 0 (size f statements))) → s ≡ takes (slots t true) (strict f)
  unfolding strict
  strict_taken s h e = both_go t u r (map (phi_value f) (range 0 (size f phis))) (gather (assigned f) (range 0 (size f statements))) says s h e
