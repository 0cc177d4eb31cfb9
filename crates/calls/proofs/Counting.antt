-- How many argument registers are set goes by the last of them, so one more register set raises it to that register's last place.
use mathlib.Core.Path.{◌≡◌, refl, sym, ap, ap₂, ◌∙◌}
use mathlib.Core.Bool.{Bool, true, false, cond, ◌||◌, or-false}
use mathlib.Core.List.{List, [], ◌∷◌, ◌++◌, map, map-append}
use Prim.Native.Nat.{ℕ, suc, max, ◌+◌, ◌-◌, ◌≤◌, ◌<◌}
use native.Mathlib.Omega.{arith}
use lib.Dec.{eqb}
use lib.ListN.{length}
use borrow.Author.Tests.{eq-eqb, ne_eqb}
use Rattle.definition.specs.Edition.{Edition, args}
use Rattle.definition.specs.Lists.{any, among, range}
use Rattle.definition.specs.Contents.{size, arg_at}
use Rattle.definition.specs.Owners.{stmt_kind, stmt_field}
use Rattle.definition.specs.Meaning.{arg_regs}
use Rattle.definition.specs.Ssa.{Stmt}
use Rattle.definition.specs.Read.{all_trees, stmt_at, kind_at, marked, read}
use Rattle.definition.specs.Lower.{count_set}
use Rattle.definition.specs.Blocks.{set_after}
use Rattle.definition.proofs.Bools.{by_test, both_false, eqb_swap}
use Rattle.records.proofs.Ranges.{range_last}
use Rattle.values.proofs.Ranges.{map_length}
use Rattle.calls.proofs.Recorded.{by_kind}

-- ---- tests over lists
any_same : (p q : ℕ → Bool) → ((x : ℕ) → p x ≡ q x) → (xs : List ℕ) → any p xs ≡ any q xs
unfolding any
any_same p q e [] = refl
any_same p q e (x ∷ xs) = ap₂ ◌||◌ (e x) (any_same p q e xs)

any_never : (p : ℕ → Bool) → ((x : ℕ) → p x ≡ false) → (xs : List ℕ) → any p xs ≡ false
unfolding any
any_never p e [] = refl
any_never p e (x ∷ xs) = rw (e x) (any_never p e xs)

shuffle : (p t q r : Bool) → ((p || t) || (q || r)) ≡ ((p || q) || (t || r))
shuffle true t q r = refl
shuffle false true true r = refl
shuffle false true false r = refl
shuffle false false q r = refl

any_or : (p q : ℕ → Bool) (xs : List ℕ) → any (λ x. p x || q x) xs ≡ (any p xs || any q xs)
unfolding any
any_or p q [] = refl
any_or p q (x ∷ xs) = ap (λ (b : Bool). (p x || q x) || b) (any_or p q xs) ∙ shuffle (p x) (q x) (any p xs) (any q xs)

any_last : (p : ℕ → Bool) (xs : List ℕ) (y : ℕ) → any p (xs ++ (y ∷ [])) ≡ (p y || any p xs)
unfolding any
any_last p [] y = refl
any_last p (x ∷ xs) y = ap (λ (b : Bool). p x || b) (any_last p xs y) ∙ swap (p x) (p y) (any p xs)
  where
    swap : (a b c : Bool) → (a || (b || c)) ≡ (b || (a || c))
    swap true true c = refl
    swap true false c = refl
    swap false b c = refl

-- ---- how many there are up to the last of which a test holds
unfoldable up_to : (ℕ → Bool) → List ℕ → ℕ
up_to p [] = 0
up_to p (x ∷ xs) = cond (p x || any p xs) (suc (up_to p xs)) 0

count_is : (set xs : List ℕ) → count_set set xs ≡ up_to (λ q. among q set) xs
unfolding count_set up_to
count_is set [] = refl
count_is set (x ∷ xs) = ap (λ (n : ℕ). cond (among x set || any (λ q. among q set) xs) (suc n) 0) (count_is set xs)

up_same : (p q : ℕ → Bool) → ((x : ℕ) → p x ≡ q x) → (xs : List ℕ) → up_to p xs ≡ up_to q xs
unfolding up_to
up_same p q e [] = refl
up_same p q e (x ∷ xs) = rw (e x, any_same p q e xs, up_same p q e xs)

up_none : (p : ℕ → Bool) (xs : List ℕ) → any p xs ≡ false → up_to p xs ≡ 0
unfolding any up_to
up_none p [] h = refl
up_none p (x ∷ xs) h = rw h

up_last : (p : ℕ → Bool) (xs : List ℕ) (y : ℕ) → up_to p (xs ++ (y ∷ [])) ≡ cond (p y) (suc (length xs)) (up_to p xs)
unfolding up_to any
up_last p [] y = by_test (p y) (λ e. rw e) (λ e. rw e)
up_last p (x ∷ xs) y =
    let i = up_last p xs y in
    by_test (p y)
    (λ e. rw (any_last p xs y, i, e) (always (p x) (suc (suc (length xs)))))
    (λ e. rw (any_last p xs y, i, e))
  where
    always : (b : Bool) (n : ℕ) → cond (b || true) n 0 ≡ n
    always true n = refl
    always false n = refl

-- either of two tests: the max
up_or : (p q : ℕ → Bool) (xs : List ℕ) → up_to (λ x. p x || q x) xs ≡ max (up_to q xs) (up_to p xs)
unfolding up_to
up_or p q [] = refl
up_or p q (x ∷ xs) =
    rw (any_or p q xs, shuffle (p x) (q x) (any p xs) (any q xs), up_or p q xs)
    (go (p x || any p xs) (q x || any q xs) (up_to p xs) (up_to q xs)
    (λ h. up_none p xs (both_false (p x) (any p xs) h).1) (λ h. up_none q xs (both_false (q x) (any q xs) h).1))
  where
    go : (b c : Bool) (m n : ℕ) → (b ≡ false → m ≡ 0) → (c ≡ false → n ≡ 0) → cond (b || c) (suc (max n m)) 0 ≡ max (cond c (suc n) 0) (cond b (suc m) 0)
    go true true m n h k = omega arith
    go true false m n h k = let e : n ≡ 0 = k refl in omega arith
    go false true m n h k = let e : m ≡ 0 = h refl in omega arith
    go false false m n h k = refl

-- ---- the registers that are set
-- none at first
pub count_none : (xs : List ℕ) → count_set [] xs ≡ 0
unfolding among any
count_none xs = count_is [] xs ∙ up_none (λ q. among q []) xs (any_never (λ q. among q []) (λ x. refl) xs)

-- one more
pub count_more : (r : ℕ) (set xs : List ℕ) → count_set (r ∷ set) xs ≡ max (count_set set xs) (count_set (r ∷ []) xs)
unfolding among any
count_more r set xs =
    count_is (r ∷ set) xs
    ∙ up_same (λ q. among q (r ∷ set)) (λ q. among q (r ∷ []) || among q set) (λ q. either (eqb q r) (among q set)) xs
    ∙ up_or (λ q. among q (r ∷ [])) (λ q. among q set) xs
    ∙ sym (ap₂ max (count_is set xs) (count_is (r ∷ []) xs))
  where
    either : (a b : Bool) → (a || b) ≡ ((a || false) || b)
    either true b = refl
    either false b = refl

-- one that is no argument's
count_other : (r : ℕ) (xs : List ℕ) → among r xs ≡ false → count_set (r ∷ []) xs ≡ 0
unfolding among any
count_other r xs h =
    count_is (r ∷ []) xs ∙ up_none (λ q. among q (r ∷ [])) xs (any_same (λ q. among q (r ∷ [])) (eqb r) (λ q. or-false (eqb q r) ∙ eqb_swap q r) xs ∙ h)

count_last : (r : ℕ) (xs : List ℕ) (y : ℕ) → count_set (r ∷ []) (xs ++ (y ∷ [])) ≡ cond (eqb y r) (suc (length xs)) (count_set (r ∷ []) xs)
unfolding among any
count_last r xs y =
    count_is (r ∷ []) (xs ++ (y ∷ [])) ∙ up_last (λ q. among q (r ∷ [])) xs y
    ∙ ap₂ (λ (b : Bool) (n : ℕ). cond b (suc (length xs)) n) (or-false (eqb y r)) (sym (count_is (r ∷ []) xs))

-- ---- the loop of `last_place`, from the last argument down: i are left
module _ (f : List ℕ) (v : ℕ) where
  args_last : (i x : ℕ) → 0 < i → x ≡ arg_at f (i - 1) → count_set (v ∷ []) (map (arg_at f) (range 0 i)) ≡ cond (eqb x v) i (count_set (v ∷ []) (map (arg_at f) (range 0 (i - 1))))
  args_last i x h e =
      let k : i ≡ suc (i - 1) = omega arith in
      let xs = map (arg_at f) (range 0 (i - 1)) in
      ap (λ (n : ℕ). count_set (v ∷ []) (map (arg_at f) (range 0 n))) k
      ∙ ap (λ (l : List ℕ). count_set (v ∷ []) (map (arg_at f) l)) (range_last (i - 1))
      ∙ ap (count_set (v ∷ [])) (map-append (arg_at f) (range 0 (i - 1)) ((i - 1) ∷ []))
      ∙ count_last v xs (arg_at f (i - 1))
      ∙ rw (← e, map_length (arg_at f) 0 (i - 1), ← k)

  module _ (i r : ℕ) (so : r ≡ count_set (v ∷ []) (map (arg_at f) (range 0 i))) where
    pub place_here : (x : ℕ) → 0 < i → x ≡ arg_at f (i - 1) → x ≡ v → i - 1 + 1 ≡ r
    place_here x h e q = let k : i - 1 + 1 ≡ i = omega arith in k ∙ sym (so ∙ args_last i x h e ∙ rw (eq-eqb x v q))

    pub place_next : (x : ℕ) → 0 < i → x ≡ arg_at f (i - 1) → (x ≡ v → ⊥) → r ≡ count_set (v ∷ []) (map (arg_at f) (range 0 (i - 1)))
    place_next x h e q = so ∙ args_last i x h e ∙ rw (ne_eqb x v q)

    pub place_none : i ≤ 0 → 0 ≡ r
    unfolding range count_set
    place_none h = let k : i ≡ 0 = omega arith in sym (so ∙ rw k)

  pub place_start : (n : ℕ) → n ≡ size f args → count_set (v ∷ []) (arg_regs f) ≡ count_set (v ∷ []) (map (arg_at f) (range 0 n))
  unfolding arg_regs
  place_start n e = rw e

-- ---- the returns of `set_behind`
zero_max : (n : ℕ) → max n 0 ≡ n
zero_max n = omega arith

set_raised : (A set : List ℕ) (v n m r : ℕ) → n ≡ count_set set A → m ≡ count_set (v ∷ []) A → r ≡ max n m → r ≡ count_set (cond (among v A) (v ∷ set) set) A
set_raised A set v n m r so p q =
    by_test (among v A)
    (λ t. rw t (q ∙ ap₂ max so p ∙ sym (count_more v set A)))
    (λ t. rw t (q ∙ ap (max n) (p ∙ count_other v A t) ∙ zero_max n ∙ so))

module _ (f : List ℕ) (i k n : ℕ) (kind : k ≡ stmt_kind f i) (E : Edition) (set : List ℕ) (so : n ≡ count_set set (read E f).args) where
  abbrev A : List ℕ
  A = (read E f).args

  abbrev S : Stmt
  S = stmt_at E f (all_trees E f) i

  abbrev After : ℕ → Type 0
  After r = r ≡ count_set (set_after A S S.kind set) A

  pub set_assign : (v m r : ℕ) → k ≡ 1 → v ≡ stmt_field f i 0 → m ≡ count_set (v ∷ []) (arg_regs f) → r ≡ max n m → After r
  unfolding set_after stmt_at kind_at read
  set_assign v m r h e p q = set_raised A set v n m r so p q ∙ rw (sym kind ∙ h, e)

  pub set_other : (k ≡ 1 → ⊥) → (k ≡ 3 → ⊥) → After n
  unfolding set_after stmt_at
  set_other h g =
      so ∙ sym (ap (λ (l : List ℕ). count_set l A)
      (by_kind E f (all_trees E f) i (λ x. set_after A S x set ≡ set) (λ e. absurd (h (kind ∙ e))) (λ e. refl) (λ e x xs r vs. absurd (g (kind ∙ e)))
      (λ e c d xs. refl) (λ e b x y. refl) (λ e x. refl) (λ m c b r x xs vs. refl)))

  pub set_dead : (d : Bool) → k ≡ 3 → d ≡ marked f i 1 → d ≡ true → After n
  unfolding set_after stmt_at kind_at
  set_dead d h e g = so ∙ rw (sym kind ∙ h, sym e ∙ g)

  pub set_cleared : (d : Bool) → k ≡ 3 → d ≡ marked f i 1 → d ≡ false → After 0
  unfolding set_after stmt_at kind_at
  set_cleared d h e g = rw (sym kind ∙ h, sym e ∙ g) (sym (count_none A))
