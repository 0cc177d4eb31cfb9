-- No number stands twice, as a test of each against those before it: one more number at the end is none of the others.
use mathlib.Core.Path.{◌≡◌, refl, sym, ap, ap₂, ◌∙◌}
use mathlib.Core.Bool.{Bool, true, false, not, ◌&&◌, ◌||◌, and_assoc}
use mathlib.Core.List.{List, [], ◌∷◌, ◌++◌, map}
use Prim.Native.Nat.{ℕ, zero, suc}
use lib.Dec.{eqb}
use Rattle.definition.proofs.Bools.{eqb_swap}
use Rattle.records.proofs.Also.{and_cross}
use Rattle.records.proofs.Ranges.{map_last}
use Rattle.meaning.specs.Keys.{IsNew}
use Rattle.definition.specs.Lists.{any, range, all_below, among, distinct}

not_or : (a b : Bool) → not (a || b) ≡ (not a && not b)
not_or true b = refl
not_or false b = refl

among_append : (x : ℕ) (xs : List ℕ) (y : ℕ) → not (among x (xs ++ (y ∷ []))) ≡ (not (among x xs) && not (eqb x y))
unfolding among any
among_append x [] y = go (eqb x y)
  where
    go : (b : Bool) → not (b || false) ≡ not b
    go true = refl
    go false = refl
among_append x (z ∷ xs) y =
    not_or (eqb x z) (among x (xs ++ (y ∷ []))) ∙ rw (among_append x xs y) (sym (ap (λ (b : Bool). b && not (eqb x y)) (not_or (eqb x z) (among x xs)) ∙ and_assoc (not (eqb x z)) (not (among x xs)) (not (eqb x y))))

distinct_append : (xs : List ℕ) (y : ℕ) → distinct (xs ++ (y ∷ [])) ≡ (distinct xs && not (among y xs))
unfolding distinct among any
distinct_append [] y = refl
distinct_append (x ∷ xs) y =
    ap₂ (λ (a b : Bool). a && b) (among_append x xs y) (distinct_append xs y)
    ∙ and_cross (not (among x xs)) (not (eqb x y)) (distinct xs) (not (among y xs))
    ∙ sym (ap (λ (b : Bool). not (among x xs) && distinct xs && b) (not_or (eqb y x) (among y xs) ∙ ap (λ (b : Bool). not b && not (among y xs)) (eqb_swap y x)))

pub among_below : (x : ℕ) (g : ℕ → ℕ) (n : ℕ) → not (among x (map g (range 0 n))) ≡ all_below n (λ j. not (eqb x (g j)))
unfolding all_below range among any
among_below x g zero = refl
among_below x g (suc n) =
    ap (λ (l : List ℕ). not (among x l)) (map_last g n) ∙ among_append x (map g (range 0 n)) (g n)
    ∙ ap (λ (b : Bool). b && not (eqb x (g n))) (among_below x g n)

-- number i, which g makes of i, is none of those before it
abbrev pub is_new : (ℕ → ℕ) → ℕ → Bool
is_new g i = all_below i (λ j. not (eqb (g i) (g j)))

pub new_among : (g : ℕ → ℕ) {key : ℕ → ℕ → Type 0} → ((j x : ℕ) → key j x → x ≡ g j) → {i : ℕ} {r : Bool} → IsNew key i r → r ≡ is_new g i
new_among g told h = h.says g told

pub distinct_below : (g : ℕ → ℕ) (n : ℕ) → distinct (map g (range 0 n)) ≡ all_below n (is_new g)
unfolding all_below range distinct
distinct_below g zero = refl
distinct_below g (suc n) =
    ap distinct (map_last g n) ∙ distinct_append (map g (range 0 n)) (g n)
    ∙ ap₂ (λ (a b : Bool). a && b) (distinct_below g n) (among_below (g n) g n)
