-- The definition's search through the statements behind is the search by number: the reader is the one statement among them that reads the value.
use mathlib.Core.Path.{◌≡◌, refl, sym}
use mathlib.Core.Bool.{Bool, true, false, not, cond, ◌&&◌, ◌||◌, and-false}
use mathlib.Core.List.{List, map}
use Prim.Native.Nat.{ℕ, zero, suc, ◌+◌, ◌-◌, ◌≤◌, ◌<◌}
use native.Mathlib.Decide.{ℕ_discrete, dec_lt}
use native.Mathlib.Omega.{arith}
use lib.Dec.{eqb, ltb, leb}
use Rattle.definition.proofs.Bools.{by_cond}
use Rattle.later.proofs.Changing.{assign_stays, between_stays, others_change}
use borrow.Author.Tests.{eqb-true, eqb-false, eq-eqb, ne_eqb, lt-ltb, le-ltb, le-leb, lt-leb}
use Rattle.definition.specs.Codes.{k_assign, k_store, k_call, k_branch, k_flags, k_return}
use Rattle.definition.specs.Edition.{Edition, statements}
use Rattle.definition.specs.Lists.{any, range}
use Rattle.definition.specs.Contents.{size}
use Rattle.definition.specs.Owners.{stmt_kind}
use Rattle.definition.specs.Values.{Value, within}
use Rattle.definition.specs.Ssa.{Expr, Kind, uses}
use Rattle.definition.specs.Read.{kind_at, marked, stmt_at}
use Rattle.definition.specs.Inline.{clobbers, read_later}
use Rattle.later.specs.Search.{changes, changed, reached}

-- ---- which kinds change memory
changes_is : (E : Edition) (f : List ℕ) (t : List Expr) (i : ℕ) → clobbers (kind_at E f t i) ≡ changes f i
unfolding clobbers kind_at
changes_is E f t i =
    let k = stmt_kind f i in
    let P : Kind → Type 0 = (λ (x : Kind). clobbers x ≡ changes f i) in
    let stays : (n : ℕ) → 4 ≤ n → n ≤ 6 → eqb k n ≡ true → false ≡ changes f i =
    (λ n l h e. let q = eqb-true k n e in between_stays f i k refl (omega arith) (omega arith)) in
    let moves : (n : ℕ) → 2 ≤ n → n ≤ 3 → eqb k n ≡ true → true ≡ changes f i =
    (λ n l h e. let q = eqb-true k n e in others_change f i k refl (λ d. omega arith) (λ c d. omega arith)) in
    by_cond P (eqb k k_assign) (λ e. assign_stays f i k refl (eqb-true k 1 e)) (λ a.
    by_cond P (eqb k k_store) (moves 2 (omega arith) (omega arith)) (λ s.
    by_cond P (eqb k k_call) (moves 3 (omega arith) (omega arith)) (λ c.
    by_cond P (eqb k k_branch) (stays 4 (omega arith) (omega arith)) (λ b.
    by_cond P (eqb k k_flags) (stays 5 (omega arith) (omega arith)) (λ g.
    by_cond P (eqb k k_return) (stays 6 (omega arith) (omega arith)) (λ r.
    others_change f i k refl (eqb-false k 1 a) (λ l h. six k l h (eqb-false k 4 b) (eqb-false k 5 g) (eqb-false k 6 r))))))))
  where
    six : (k : ℕ) → 4 ≤ k → k ≤ 6 → (k ≡ 4 → ⊥) → (k ≡ 5 → ⊥) → (k ≡ 6 → ⊥) → ⊥
    six k l h a b c = go (ℕ_discrete k 4) (ℕ_discrete k 5)
      where
        go : Dec (k ≡ 4) → Dec (k ≡ 5) → ⊥
        go (yes e) d = a e
        go (no x) (yes e) = b e
        go (no x) (no y) = c (omega arith)

-- ---- one statement of the search
none_left : (b : Bool) → cond b false false ≡ false
none_left true = refl
none_left false = refl

goes_on : (l c h s : Bool) → cond (l && c) false (h && not (l && s)) ≡ (h && not (l && (c || s)))
goes_on true true h s = sym (and-false h)
goes_on true false h s = refl
goes_on false c h s = refl

search_end : (f : List ℕ) (r : ℕ) (loads : Bool) (a : ℕ) → false ≡ reached f r loads a a
unfolding reached
search_end f r loads a = go (dec_lt a r)
  where
    go : Dec (a < r) → false ≡ (ltb a r && leb r a && not (loads && changed f a (r - 1 - a)))
    go (yes h) = rw (lt-ltb a r h, lt-leb r a h)
    go (no h) = rw (le-ltb a r (omega arith))

search_turn : (f : List ℕ) (r : ℕ) (loads : Bool) (a e : ℕ) → a < e
    → cond (eqb r (suc a)) true (cond (loads && changes f a) false (reached f r loads (a + 1) e)) ≡ reached f r loads a e
unfolding reached changed any range
search_turn f r loads a e h = go (ℕ_discrete r (suc a)) (dec_lt (suc a) r)
  where
    go : Dec (r ≡ suc a) → Dec (suc a < r)
        → cond (eqb r (suc a)) true (cond (loads && changes f a) false (ltb (a + 1) r && leb r e && not (loads && any (changes f) (range (a + 1) (r - 1 - (a + 1))))))
        ≡ (ltb a r && leb r e && not (loads && any (changes f) (range a (r - 1 - a))))
    go (yes q) d =
        let z : r - 1 - a ≡ 0 = omega arith in
        let i : a < r = omega arith in
        let j : r ≤ e = omega arith in
        rw (eq-eqb r (suc a) q, z, lt-ltb a r i, le-leb r e j, and-false loads)
    go (no q) (yes d) =
        let z : r - 1 - a ≡ suc (r - 1 - (a + 1)) = omega arith in
        let i : a < r = omega arith in
        let j : a + 1 < r = omega arith in
        rw (ne_eqb r (suc a) q, z, lt-ltb a r i, lt-ltb (a + 1) r j) (goes_on loads (changes f a) (leb r e) (any (changes f) (range (a + 1) (r - 1 - (a + 1)))))
    go (no q) (no d) =
        let i : r ≤ a = omega arith in
        let j : r ≤ a + 1 = omega arith in
        rw (ne_eqb r (suc a) q, le-ltb a r i, le-ltb (a + 1) r j) (none_left (loads && changes f a))

-- ---- all of them
module _ (E : Edition) (f : List ℕ) (t : List Expr) (v : Value) (r : ℕ)
    (one : (j : ℕ) → j < size f statements → (not (marked f j 1) && within v (uses (kind_at E f t j))) ≡ eqb r (suc j)) where
  pub search_is : (loads : Bool) (n a : ℕ) → a + n ≤ size f statements → read_later v loads (map (stmt_at E f t) (range a n)) ≡ reached f r loads a (a + n)
  unfolding read_later range stmt_at
  search_is loads zero a h = let q : a + 0 ≡ a = omega arith in rw q (search_end f r loads a)
  search_is loads (suc n) a h =
      let q : a + suc n ≡ a + 1 + n = omega arith in
      rw (one a (omega arith), changes_is E f t a, search_is loads n (a + 1) (omega arith), q) (search_turn f r loads a (a + 1 + n) (omega arith))
