-- The expressions that a record names, and a loop over their numbers.
use mathlib.Core.Path.{◌≡◌, refl, ap, ◌∙◌}
use mathlib.Core.Bool.{Bool, true, false, cond}
use mathlib.Core.List.{List, [], ◌∷◌, map}
use Prim.Native.Nat.{ℕ, ◌+◌, ◌-◌, ◌≤◌}
use native.Mathlib.Decide.{ℕ_discrete}
use native.Mathlib.Omega.{arith}
use lib.Dec.{eqb}
use borrow.Author.Tests.{ne_eqb}
use Rattle.definition.specs.Contents.{item_word, expr_word}
use Rattle.definition.specs.Lists.{range}
use Rattle.definition.specs.Owners.{stmt_kind, stmt_field, expr_items, first_item}
use Rattle.definition.specs.References.{children, roots, item_exprs}
use Rattle.definition.proofs.Runs.{loop_start}
use Rattle.mentions.specs.Named.{child_count, child_at, root_count, root_at}

-- ---- children: two at most
pub count_few : (f : List ℕ) (i : ℕ) → child_count f i ≤ 2
unfolding child_count
count_few f i = go (eqb (expr_word f i 0) 3) (eqb (expr_word f i 0) 4) (eqb (expr_word f i 0) 5)
  where
    go : (a b c : Bool) → cond a 2 (cond b 1 (cond c 1 0)) ≤ 2
    go true b c = omega arith
    go false true c = omega arith
    go false false true = omega arith
    go false false false = omega arith

pub children_are : (f : List ℕ) (i : ℕ) → children f i ≡ map (child_at f i) (range 0 (child_count f i))
unfolding children child_at child_count range
children_are f i = go (expr_word f i 0) (expr_word f i) (ℕ_discrete (expr_word f i 0) 3) (ℕ_discrete (expr_word f i 0) 4) (ℕ_discrete (expr_word f i 0) 5)
  where
    go : (t : ℕ) (w : ℕ → ℕ) → Dec (t ≡ 3) → Dec (t ≡ 4) → Dec (t ≡ 5)
        → cond (eqb t 3) (w 3 ∷ w 4 ∷ []) (cond (eqb t 4) (w 3 ∷ []) (cond (eqb t 5) (w 2 ∷ []) []))
        ≡ map (λ (k : ℕ). cond (eqb t 5) (w 2) (w (3 + k))) (range 0 (cond (eqb t 3) 2 (cond (eqb t 4) 1 (cond (eqb t 5) 1 0))))
    go t w (yes e) b c = rw e
    go t w (no a) (yes e) c = rw e
    go t w (no a) (no b) (yes e) = rw e
    go t w (no a) (no b) (no c) = rw (ne_eqb t 3 a, ne_eqb t 4 b, ne_eqb t 5 c)

-- ---- roots
pub roots_are : (f : List ℕ) (i first : ℕ) → first ≡ first_item f i → roots f i ≡ map (root_at f i first) (range 0 (root_count f i))
unfolding roots item_exprs root_at root_count range
roots_are f i first p =
    let k = stmt_kind f i in
    rw p (go (eqb k 1) (eqb k 2) (eqb k 5) (eqb k 6) (eqb (stmt_field f i 0) 1))
  where
    go : (a b c d e : Bool)
        → cond a (stmt_field f i 2 ∷ []) (cond b (stmt_field f i 1 ∷ stmt_field f i 2 ∷ []) (cond c (stmt_field f i 1 ∷ stmt_field f i 2 ∷ [])
        (cond d (cond e (stmt_field f i 1 ∷ []) []) (map (λ (k : ℕ). item_word f (first_item f i + k) 0) (range 0 (expr_items f i))))))
        ≡ map (λ (k : ℕ). cond a (stmt_field f i 2) (cond b (stmt_field f i (1 + k)) (cond c (stmt_field f i (1 + k))
        (cond d (stmt_field f i 1) (item_word f (first_item f i + k) 0)))))
        (range 0 (cond a 1 (cond b 2 (cond c 2 (cond d (cond e 1 0) (expr_items f i))))))
    go true b c d e = refl
    go false true c d e = refl
    go false false true d e = refl
    go false false false true true = refl
    go false false false true false = refl
    go false false false false e = refl

-- what is made of all names is made of those from the first on
pub names_start {ℓ} : {B : Type ℓ} (h : List ℕ → B) (g : ℕ → ℕ) {n m : ℕ} {xs : List ℕ} → xs ≡ map g (range 0 m) → n ≡ m → h xs ≡ h (map g (range 0 (n - 0)))
names_start h g {n} {m} p e = ap h p ∙ loop_start (λ (k : ℕ). h (map g (range 0 k))) n m e
