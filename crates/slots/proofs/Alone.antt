-- Values that each found their slot free are defined once: one that was there before would have taken it. What is defined elsewhere with a free
-- slot is none of them. So their counts over the whole file are 1.
use mathlib.Core.Path.{◌≡◌, refl, sym, ap, subst, ◌∙◌}
use mathlib.Core.Bool.{Bool, true, false, not, true≢false, cond, ◌&&◌}
use mathlib.Core.List.{List, [], ◌∷◌, ◌++◌, append-nil, append_assoc}
use Prim.Native.Nat.{ℕ, suc, ◌+◌, ◌≤◌, ◌<◌}
use native.Mathlib.Decide.{ℕ_discrete}
use native.Mathlib.Omega.{arith}
use lib.Dec.{eqb}
use borrow.Author.Tests.{eq-eqb, ne_eqb, not-false}
use Rattle.definition.specs.Lists.{all, count}
use Rattle.definition.specs.Values.{Value, eqv}
use Rattle.definition.specs.Meaning.{strict, loose, defined_once}
use Rattle.slots.specs.Slots.{free, marked, Slots, slots, taken, takes}
use Rattle.definition.proofs.ListLaws.{count_append}
use Rattle.definition.proofs.Bools.{both_true}
use Rattle.definition.proofs.Equal.{eqv_true, eqv_refl}
use Rattle.slots.proofs.Bits.{was_free, not_again}
use Rattle.slots.proofs.Taking.{take_zero, take_clash, take_marked, stays}

pub record Alone (t : List ℕ) (vs : List Value) : Type 0 where
  pub away : (v : Value) → free t v ≡ true → count (eqv v) vs ≡ 0
  pub once : (v : Value) → count (eqv v) vs ≤ 1
  pub above : (v : Value) → v.ver ≡ 0 → count (eqv v) vs ≡ 0

alone_none : (t : List ℕ) → Alone t []
unfolding count
alone_none t = record { away = λ v h. refl; once = λ v. omega arith; above = λ v h. refl }

-- one value more
module _ (t : List ℕ) (vs : List Value) (x : Value) (high : x.ver ≡ 0 → ⊥) (new : free t x ≡ true) (old : Alone t vs) where
  counts : (v : Value) → count (eqv v) (vs ++ (x ∷ [])) ≡ count (eqv v) vs + cond (eqv v x) 1 0
  unfolding count
  counts v = count_append (eqv v) vs (x ∷ [])

  -- by whether v is x
  by_same : (v : Value) (P : ℕ → Type 0) → (v ≡ x → P (count (eqv v) vs + 1)) → P (count (eqv v) vs + 0) → P (count (eqv v) (vs ++ (x ∷ [])))
  by_same v P same other = subst P (sym (counts v)) (go (eqv v x) refl)
    where
      go : (b : Bool) → eqv v x ≡ b → P (count (eqv v) vs + cond b 1 0)
      go true e = same (eqv_true v x e)
      go false e = other

  alone_more : Alone (marked t x) (vs ++ (x ∷ []))
  alone_more = record {
    away = λ v h. by_same v (λ n. n ≡ 0) (λ e. absurd (not_again t x (subst (λ (u : Value). free (marked t x) u ≡ true) e h)))
        (let k = old.away v (was_free t x v h) in omega arith);
    once = λ v. by_same v (λ n. n ≤ 1) (λ e. let k = old.away v (subst (λ (u : Value). free t u ≡ true) (sym e) new) in omega arith)
        (let k = old.once v in omega arith);
    above = λ v h. by_same v (λ n. n ≡ 0) (λ e. absurd (high (sym (ap (λ (u : Value). u.ver) e) ∙ h)))
        (let k = old.above v h in omega arith);
  }

-- values one after the other, where none failed
failed : {A : Type 0} (xs : List Value) (t : List ℕ) (s : Slots) → slots t false ≡ s → (takes s xs).apart ≡ true → A
failed xs t s p e = absurd (true≢false (sym e ∙ ap (λ (z : Slots). (takes z xs).apart) (sym p) ∙ ap (λ (z : Slots). z.apart) (stays xs t)))

alone_takes : (xs vs : List Value) (t : List ℕ) → Alone t vs → (takes (slots t true) xs).apart ≡ true → Alone (takes (slots t true) xs).table (vs ++ xs)
unfolding takes
alone_takes [] vs t h e = subst (Alone t) (sym (append-nil vs)) h
alone_takes (x ∷ xs) vs t h e = go (alone_takes xs (vs ++ (x ∷ [])) (marked t x)) (ℕ_discrete x.ver 0) (free t x) refl
  where
    go : (Alone (marked t x) (vs ++ (x ∷ [])) → (takes (slots (marked t x) true) xs).apart ≡ true → Alone (takes (slots (marked t x) true) xs).table (vs ++ (x ∷ []) ++ xs))
        → Dec (x.ver ≡ 0) → (b : Bool) → b ≡ free t x → Alone (takes (taken t x) xs).table (vs ++ (x ∷ xs))
    go rest (yes z) b q = failed xs t (taken t x) (take_zero t x z) e
    go rest (no z) false q = failed xs t (taken t x) (take_clash t x z false q refl) e
    go rest (no z) true q =
        let s : slots (marked t x) true ≡ taken t x = take_marked t x z true q refl in
        let more = rest (alone_more t vs x z (sym q) h) (ap (λ (z : Slots). (takes z xs).apart) s ∙ e) in
        subst (λ (z : Slots). Alone (takes z xs).table (vs ++ (x ∷ xs))) s
        (subst (Alone (takes (slots (marked t x) true) xs).table) (append_assoc vs (x ∷ []) xs) more)

alone_all : (t u : List ℕ) (r : Bool) (xs : List Value) → slots u r ≡ takes (slots t true) xs → not r ≡ false → Alone u xs
alone_all t u r xs e h =
    let a : (takes (slots t true) xs).apart ≡ true = sym (ap (λ (z : Slots). z.apart) e) ∙ not-false r h in
    subst (λ (l : List ℕ). Alone l xs) (sym (ap (λ (z : Slots). z.table) e)) (alone_takes xs [] t (alone_none t) a)

-- ---- counts over the whole file
count_less : (v x : Value) (xs : List Value) → count (eqv v) xs ≤ count (eqv v) (x ∷ xs)
unfolding count
count_less v x xs = go (eqv v x)
  where
    go : (b : Bool) → count (eqv v) xs ≤ cond b (suc (count (eqv v) xs)) (count (eqv v) xs)
    go true = omega arith
    go false = omega arith

count_self : (x : Value) (xs : List Value) → 0 < count (eqv x) (x ∷ xs)
unfolding count
count_self x xs = rw (eqv_refl x) (omega arith)

all_by : (p : Value → Bool) (vs : List Value) → ((v : Value) → 0 < count (eqv v) vs → p v ≡ true) → all p vs ≡ true
unfolding all
all_by p [] h = refl
all_by p (x ∷ xs) h = rw (h x (count_self x xs)) (all_by p xs (λ v k. h v (omega (arith, count_less v x xs))))

-- what has a slot that is not free is none of those that have a free one
none_free : (t : List ℕ) (v : Value) (ls : List Value) → (free t v ≡ true → ⊥) → all (free t) ls ≡ true → count (eqv v) ls ≡ 0
unfolding all count
none_free t v [] h e = refl
none_free t v (x ∷ xs) h e = go (none_free t v xs h) (eqv v x) refl
  where
    go : (all (free t) xs ≡ true → count (eqv v) xs ≡ 0) → (b : Bool) → eqv v x ≡ b → cond b (suc (count (eqv v) xs)) (count (eqv v) xs) ≡ 0
    go rest true q = absurd (h (ap (free t) (eqv_true v x q) ∙ (both_true (free t x) (all (free t) xs) e).0))
    go rest false q = rest (both_true (free t x) (all (free t) xs) e).1

once_told : (f t : List ℕ) → Alone t (strict f) → all (free t) (loose f) ≡ true → defined_once f ≡ true
unfolding defined_once
once_told f t h e = all_by _ (strict f) here
  where
    here : (v : Value) → 0 < count (eqv v) (strict f) → (not (eqb v.ver 0) && eqb (count (eqv v) (strict f ++ loose f)) 1) ≡ true
    here v k =
        let z = none_free t v (loose f) (λ q. let a = h.away v q in omega arith) e in
        rw (ne_eqb v.ver 0 (λ q. let a = h.above v q in omega arith)) (eq-eqb (count (eqv v) (strict f ++ loose f)) 1 (omega (arith, count_append (eqv v) (strict f) (loose f), h.once v, z, k)))

pub slots_told : (f t u : List ℕ) (r s : Bool) → slots u r ≡ takes (slots t true) (strict f) → not r ≡ false → s ≡ all (free u) (loose f) → s ≡ true → defined_once f ≡ true
slots_told f t u r s e h k q = once_told f u (alone_all t u r (strict f) e h) (sym k ∙ q)
