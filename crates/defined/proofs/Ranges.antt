-- Lists that run over the numbers below n, as tests and sums over these numbers: what is made of two lists by parts is made of all of them.
use mathlib.Core.Path.{◌≡◌, refl, sym, ap, ◌∙◌}
use mathlib.Core.Bool.{Bool, cond, ◌&&◌, and-true, and_assoc}
use mathlib.Core.List.{List, [], ◌∷◌, ◌++◌, map}
use Prim.Native.Nat.{ℕ, zero, suc, ◌+◌}
use Rattle.definition.proofs.ListLaws.{count_append}
use Rattle.records.proofs.Ranges.{gather_last}
use Rattle.definition.specs.Lists.{all, count, gather, range, all_below, sum_below}

-- an element for each number, as a list of one
pub singles : {A : Type 0} (g : ℕ → A) (ns : List ℕ) → map g ns ≡ gather (λ i. g i ∷ []) ns
unfolding gather
singles g [] = refl
singles {A} g (n ∷ ns) = ap (λ (l : List A). g n ∷ l) (singles g ns)

module _ {A : Type 0} {B : Type 0} (h : List A → B) (op : B → B → B) (parts : (xs ys : List A) → h (xs ++ ys) ≡ op (h xs) (h ys)) (sum : ℕ → B) (none : h [] ≡ sum 0) where
  by_lists : (g : ℕ → List A) → ((n : ℕ) → op (sum n) (h (g n)) ≡ sum (suc n)) → (n : ℕ) → h (gather g (range 0 n)) ≡ sum n
  unfolding gather range
  by_lists g more zero = none
  by_lists g more (suc n) =
      ap h (gather_last g n) ∙ parts (gather g (range 0 n)) (g n) ∙ ap (λ (b : B). op b (h (g n))) (by_lists g more n) ∙ more n

  by_each : (g : ℕ → A) → ((n : ℕ) → op (sum n) (h (g n ∷ [])) ≡ sum (suc n)) → (n : ℕ) → h (map g (range 0 n)) ≡ sum n
  by_each g more n = ap h (singles g (range 0 n)) ∙ by_lists (λ i. g i ∷ []) more n

module _ {A : Type 0} (p : A → Bool) where
  pub all_append : (xs ys : List A) → all p (xs ++ ys) ≡ (all p xs && all p ys)
  unfolding all
  all_append [] ys = refl
  all_append (x ∷ xs) ys = rw (all_append xs ys) (sym (and_assoc (p x) (all p xs) (all p ys)))

  pub all_one : (x : A) → all p (x ∷ []) ≡ p x
  unfolding all
  all_one x = and-true (p x)

  pub all_map : (g : ℕ → A) (n : ℕ) → all p (map g (range 0 n)) ≡ all_below n (λ i. p (g i))
  unfolding all_below all
  all_map g = by_each (all p) ◌&&◌ all_append (λ n. all_below n (λ i. p (g i))) refl g (λ n. ap (λ (b : Bool). all_below n (λ i. p (g i)) && b) (all_one (g n)))

  pub all_gather : (g : ℕ → List A) (n : ℕ) → all p (gather g (range 0 n)) ≡ all_below n (λ i. all p (g i))
  unfolding all_below all
  all_gather g = by_lists (all p) ◌&&◌ all_append (λ n. all_below n (λ i. all p (g i))) refl g (λ n. refl)

  pub count_map : (g : ℕ → A) (n : ℕ) → count p (map g (range 0 n)) ≡ sum_below n (λ i. cond (p (g i)) 1 0)
  unfolding sum_below count
  count_map g = by_each (count p) ◌+◌ (count_append p) (λ n. sum_below n (λ i. cond (p (g i)) 1 0)) refl g (λ n. refl)

  pub count_gather : (g : ℕ → List A) (n : ℕ) → count p (gather g (range 0 n)) ≡ sum_below n (λ i. count p (g i))
  unfolding sum_below count
  count_gather g = by_lists (count p) ◌+◌ (count_append p) (λ n. sum_below n (λ i. count p (g i))) refl g (λ n. refl)
