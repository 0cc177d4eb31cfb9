-- Label lines counted by name. The digits of a number below 2^64 are read back, so labels of different starts differ, and no name stands twice.
use mathlib.Core.Path.{◌≡◌, refl, sym, ap, subst, ◌∙◌}
use mathlib.Core.Bool.{Bool, true, false, not, cond, true≢false}
use mathlib.Core.Option.{Option, none, some}
use mathlib.Core.List.{List, [], ◌∷◌, ◌++◌, map}
use Prim.Native.Nat.{ℕ, zero, suc, ◌+◌, ◌*◌, ◌-◌, ◌/◌, ◌%◌, ◌≤◌, ◌<◌}
use native.Mathlib.Omega.{arith}
use lib.Dec.{eqb, ltb, leb}
use lib.ListN.{drop}
use borrow.Author.Tests.{ltb-true, ltb-false, eqb-true, eqb-false, le-leb, lt-leb, not-true}
use Rattle.definition.specs.Texts.{same}
use Rattle.definition.specs.Lists.{any, only, count, among, distinct, gather}
use Rattle.definition.specs.Ssa.{Function}
use Rattle.definition.specs.Offsets.{Known, whole}
use Rattle.definition.specs.Numbers.{digit, digits, hex_upper, label}
use Rattle.definition.specs.Lookup.{order, jumps_from}
use Rattle.definition.specs.Tokens.{Line}
use Rattle.definition.specs.Blocks.{lower}
use Rattle.definition.specs.Sorts.{sort}
use Rattle.definition.specs.Passes.{label_name, is, named}
use Rattle.definition.proofs.Bools.{by_cond, both_true, both_false, or_cases}
use Rattle.definition.proofs.TextLaws.{same_eq, same_refl}
use Rattle.definition.proofs.ListLaws.{Each, end, ◌▸◌}
use Rattle.definition.proofs.LoweredShapes.{label_of, labels_of, lower_labels}

-- ---- digits read back
undigit : ℕ → ℕ
undigit b = cond (leb b 57) (b - 48) (b - 55)

undigit_digit : (v : ℕ) → v < 16 → undigit (digit 65 v) ≡ v
unfolding undigit digit
undigit_digit v h =
    by_cond (λ (d : ℕ). undigit d ≡ v) (ltb v 10)
    (λ e. let l : 48 + v ≤ 57 = omega (arith, ltb-true v 10 e) in ap (λ (b : Bool). cond b (48 + v - 48) (48 + v - 55)) (le-leb (48 + v) 57 l) ∙ omega arith)
    (λ e. let g : 10 ≤ v = ltb-false v 10 e in
    let l : 57 < 65 + (v - 10) = omega arith in
    ap (λ (b : Bool). cond b (65 + (v - 10) - 48) (65 + (v - 10) - 55)) (lt-leb (65 + (v - 10)) 57 l) ∙ omega arith)

back : ℕ → List ℕ → ℕ
back n [] = n
back n (b ∷ t) = back (16 * n + undigit b) t

back_snoc : (n : ℕ) (xs : List ℕ) (b : ℕ) → back n (xs ++ (b ∷ [])) ≡ 16 * back n xs + undigit b
unfolding back
back_snoc n [] b = refl
back_snoc n (x ∷ xs) b = back_snoc (16 * n + undigit x) xs b

-- n + 1 digits can say the numbers below this
bound : ℕ → ℕ
bound zero = 16
bound (suc n) = 16 * bound n

back_digits : (n v : ℕ) → v < bound n → back 0 (digits 16 65 n v) ≡ v
unfolding back digits bound
back_digits zero v h = omega (arith, undigit_digit (v % 16) (omega arith))
back_digits (suc n) v h =
    by_cond (λ (d : List ℕ). back 0 d ≡ v) (ltb v 16)
    (λ e. let l : v < 16 = ltb-true v 16 e in omega (arith, undigit_digit v l))
    (λ e. let i = back_digits n (v / 16) (omega arith) in
    back_snoc 0 (digits 16 65 n (v / 16)) (digit 65 (v % 16)) ∙ omega (arith, undigit_digit (v % 16) (omega arith), i))

-- labels of different starts differ
pub label_injective : (a b : ℕ) → a < whole → b < whole → label a ≡ label b → a ≡ b
unfolding label hex_upper bound
label_injective a b h k e = sym (back_digits 15 a h) ∙ ap (λ (s : List ℕ). back 0 (drop 4 s)) e ∙ back_digits 15 b k

-- ---- labels counted
count_named : (n : List ℕ) (ls : List Line) → count (named n) ls ≡ count (λ u. same u n) (labels_of ls)
unfolding count labels_of gather named label_of is
count_named n [] = refl
count_named n (x ∷ xs) = go (label_name (sort x)) (count_named n xs)
  where
    go : (o : Option (List ℕ)) → count (named n) xs ≡ count (λ u. same u n) (labels_of xs)
        → cond (is n o) (suc (count (named n) xs)) (count (named n) xs) ≡ count (λ u. same u n) (elim o [ none ↦ [] | some t ↦ t ∷ [] ] ++ labels_of xs)
    go none i = i
    go (some t) i = ap (λ (k : ℕ). cond (same t n) (suc k) k) i

module _ (p : ℕ → Bool) where
  abbrev labels : List ℕ → List (List ℕ)
  labels xs = map label (only p xs)

  -- one more start, by whether it is chosen and has the name
  one_more : (C : ℕ → Type 0) (n : List ℕ) (x : ℕ) (xs : List ℕ)
      → (p x ≡ true → label x ≡ n → C (suc (count (λ u. same u n) (labels xs)))) → ((p x ≡ true → label x ≡ n → ⊥) → C (count (λ u. same u n) (labels xs)))
      → C (count (λ u. same u n) (labels (x ∷ xs)))
  unfolding only count
  one_more C n x xs y z = go (p x) refl
    where
      at : p x ≡ true → (b : Bool) → same (label x) n ≡ b → C (cond b (suc (count (λ u. same u n) (labels xs))) (count (λ u. same u n) (labels xs)))
      at q true e = y q (same_eq (label x) n e)
      at q false e = z (λ q' l. true≢false (sym (subst (λ (s : List ℕ). same (label x) s ≡ true) l (same_refl (label x))) ∙ e))

      go : (b : Bool) → p x ≡ b → C (count (λ u. same u n) (map label (cond b (x ∷ only p xs) (only p xs))))
      go true q = at q (same (label x) n) refl
      go false q = z (λ q' l. true≢false (sym q' ∙ q))

  absent : (x : ℕ) {xs : List ℕ} → x < whole → Each (λ a. a < whole) xs → among x xs ≡ false → count (λ u. same u (label x)) (labels xs) ≡ 0
  unfolding among any count only
  absent x b end e = refl
  absent x b (◌▸◌ {x = y} {xs = ys} k ks) e =
      let n = both_false (eqb x y) (among x ys) e in
      one_more (λ k. k ≡ 0) (label x) y ys
      (λ q l. absurd (eqb-false x y n.0 (sym (label_injective y x k b l))))
      (λ z. absent x b ks n.1)

  at_most_once : {xs : List ℕ} → Each (λ a. a < whole) xs → distinct xs ≡ true → (n : List ℕ) → count (λ u. same u n) (labels xs) ≤ 1
  unfolding distinct count only
  at_most_once end d n = omega arith
  at_most_once (◌▸◌ {x = x} {xs = xs} k ks) d n =
      let h = both_true (not (among x xs)) (distinct xs) d in
      one_more (λ c. c ≤ 1) n x xs
      (λ q l. let z : count (λ u. same u n) (labels xs) ≡ 0 =
      subst (λ (s : List ℕ). count (λ u. same u s) (labels xs) ≡ 0) l (absent x k ks (not-true (among x xs) h.0)) in omega arith)
      (λ z. at_most_once ks h.1 n)

  at_least_once : (a : ℕ) (xs : List ℕ) → among a xs ≡ true → p a ≡ true → 1 ≤ count (λ u. same u (label a)) (labels xs)
  unfolding among any
  at_least_once a [] e q = absurd (true≢false (sym e))
  at_least_once a (x ∷ xs) e q =
      let i : among a xs ≡ true → 1 ≤ count (λ u. same u (label a)) (labels xs) = λ r. at_least_once a xs r q in
      one_more (λ c. 1 ≤ c) (label a) x xs (λ r l. omega arith) (λ z.
      or_cases (eqb a x) (among a xs) (λ b. let is : a ≡ x = eqb-true a x b in absurd (z (subst (λ (y : ℕ). p y ≡ true) is q) (ap label (sym is)))) (λ r. i r) e)

-- ---- the labels of a function whose blocks' starts differ and are below 2^64
module _ (F : Function) (t : List Known) (differ : distinct (order F) ≡ true) (below : Each (λ a. a < whole) (order F)) where
  named_is : (n : List ℕ) → count (named n) (lower F t) ≡ count (λ u. same u n) (map label (only (λ a. among a (jumps_from F.blocks)) (order F)))
  named_is n = count_named n (lower F t) ∙ ap (count (λ u. same u n)) (lower_labels F t)

  -- no name stands twice
  pub labels_once : (n : List ℕ) → count (named n) (lower F t) ≤ 1
  labels_once n =
      omega (arith, named_is n, at_most_once (λ a. among a (jumps_from F.blocks)) below differ n)

  -- a start that something jumps to has its label
  pub label_stands : (a : ℕ) → among a (order F) ≡ true → among a (jumps_from F.blocks) ≡ true → count (named (label a)) (lower F t) ≡ 1
  label_stands a o j =
      omega (arith, labels_once (label a), named_is (label a), at_least_once (λ a. among a (jumps_from F.blocks)) a (order F) o j)
