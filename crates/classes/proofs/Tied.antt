-- Roots by number and the definition's roots by value say the same: the greater of two keys is the key of the greater value, and two numbers are equal
-- exactly when their values are, so that a join of numbers and a union of members rename the same roots.
use mathlib.Core.Path.{◌≡◌, refl, sym, ap, ap₂, ◌∙◌}
use mathlib.Core.Bool.{true, false, cond, ◌&&◌, ◌||◌}
use mathlib.Core.List.{List}
use Prim.Native.Nat.{ℕ, ◌-◌, ◌/◌, ◌%◌, ◌≤◌, ◌<◌}
use native.Mathlib.Omega.{arith}
use native.Mathlib.Decide.{dec_lt, ℕ_discrete}
use lib.ListN.{length}
use lib.Dec.{eqb, ltb}
use borrow.Author.Tests.{lt-ltb, le-ltb, eq-eqb, ne_eqb, ltb-false}
use Rattle.definition.specs.Values.{Value, value, eqv, before, lesser, greater}
use Rattle.definition.specs.Classes.{Member, Pair, find, union}
use Rattle.definition.specs.Lists.{at}
use Rattle.definition.proofs.Bools.{by_test}
use Rattle.definition.proofs.ListLaws.{Each, at_out}
use Rattle.definition.proofs.Equal.{eqv_true}
use Rattle.places.specs.Keys.{key_of, value_of}
use Rattle.values.specs.Tables.{first_of, numbers_of}
use Rattle.values.proofs.Tables.{key_not_0, decode, eqv_keys, number_first, number_key}
use Rattle.unions.specs.Roots.{under, renamed, merged, root_in, join}
use Rattle.unions.proofs.Labels.{at_renamed}
use Rattle.classes.proofs.Members.{Here, has, root_left, root_right, find_union}

-- the order of values is the order of keys
before_keys : (a b : ℕ) → (a ≡ 0 → ⊥) → (b ≡ 0 → ⊥) → before (value_of a) (value_of b) ≡ ltb a b
unfolding before value_of
before_keys a b h k = go (dec_lt a b) (ℕ_discrete ((a - 1) / 4294967296) ((b - 1) / 4294967296))
  where
    go : Dec (a < b) → Dec ((a - 1) / 4294967296 ≡ (b - 1) / 4294967296)
        → (ltb ((a - 1) / 4294967296) ((b - 1) / 4294967296)
        || (eqb ((a - 1) / 4294967296) ((b - 1) / 4294967296) && ltb ((a - 1) % 4294967296) ((b - 1) % 4294967296))) ≡ ltb a b
    go (yes l) (yes e) =
        let m : (a - 1) % 4294967296 < (b - 1) % 4294967296 = omega (arith, h) in
        let r : (b - 1) / 4294967296 ≤ (a - 1) / 4294967296 = omega arith in
        rw (lt-ltb a b l, le-ltb _ _ r, eq-eqb _ _ e, lt-ltb _ _ m)
    go (yes l) (no n) =
        let m : (a - 1) / 4294967296 < (b - 1) / 4294967296 = omega (arith, h) in
        rw (lt-ltb a b l, lt-ltb _ _ m)
    go (no l) (yes e) =
        let m : (b - 1) % 4294967296 ≤ (a - 1) % 4294967296 = omega (arith, k) in
        let r : (b - 1) / 4294967296 ≤ (a - 1) / 4294967296 = omega arith in
        let s : b ≤ a = omega arith in
        rw (le-ltb a b s, le-ltb _ _ r, eq-eqb _ _ e, le-ltb _ _ m)
    go (no l) (no n) =
        let m : (b - 1) / 4294967296 ≤ (a - 1) / 4294967296 = omega (arith, k) in
        let s : b ≤ a = omega arith in
        rw (le-ltb a b s, le-ltb _ _ m, ne_eqb _ _ n)

module _ (ks : List ℕ) where
  -- p is a value's number
  pub record Number (p : ℕ) : Type 0 where
    pub named : at ks p ≡ 0 → ⊥
    pub first : first_of ks (at ks p) ≡ p

  -- the value that place p names
  abbrev pub value_at : ℕ → Value
  value_at p = value_of (at ks p)

  pub inside : (p : ℕ) → Number p → p < length ks
  inside p n = go (dec_lt p (length ks))
    where
      go : Dec (p < length ks) → p < length ks
      go (yes h) = h
      go (no h) = absurd (n.named (sym (at_out ks p (omega arith))))

  -- the number that stands at a place, and its value
  pub record Names (p : ℕ) (v : Value) : Type 0 where
    pub number : Number p
    pub is : value_at p ≡ v

  pub names : (p r n : ℕ) → p < length ks → at ks p ≡ key_of (value r n) → n < 4294967296 → Names (at (numbers_of ks) p) (value r n)
  names p r n here e small =
      let some : at ks p ≡ 0 → ⊥ = (λ z. key_not_0 (value r n) (sym e ∙ z)) in
      let k : at ks (at (numbers_of ks) p) ≡ at ks p = number_key ks p here some in
      record {
        number = record { named = (λ z. some (sym k ∙ z)); first = ap (first_of ks) k ∙ sym (number_first ks p here some) };
        is = ap value_of (k ∙ e) ∙ decode r n small;
      }

  -- ---- two numbers
  module _ (p q : ℕ) (np : Number p) (nq : Number q) where
    number_same : at ks p ≡ at ks q → p ≡ q
    number_same e = sym np.first ∙ ap (first_of ks) e ∙ nq.first

    pub same_values : eqv (value_at p) (value_at q) ≡ eqb p q
    same_values = eqv_keys (at ks p) (at ks q) np.named nq.named ∙ go (ℕ_discrete p q)
      where
        go : Dec (p ≡ q) → eqb (at ks p) (at ks q) ≡ eqb p q
        go (yes e) = eq-eqb (at ks p) (at ks q) (ap (at ks) e) ∙ sym (eq-eqb p q e)
        go (no n) = ne_eqb (at ks p) (at ks q) (λ e. n (number_same e)) ∙ sym (ne_eqb p q n)

    value_order : before (value_at p) (value_at q) ≡ under ks p q
    unfolding under
    value_order = before_keys (at ks p) (at ks q) np.named nq.named

    under_neither : under ks p q ≡ false → under ks q p ≡ false → p ≡ q
    unfolding under
    under_neither h k =
        let a = ltb-false (at ks p) (at ks q) h in
        let b = ltb-false (at ks q) (at ks p) k in
        number_same (omega arith)

  -- ---- the roots t are those of the members m
  abbrev pub Tied : List ℕ → List Member → Type 0
  Tied t m = (p : ℕ) → Number p → Names (at t p) (find m (value_at p))

  -- one root gives way to another
  gives : (t : List ℕ) (x y p : ℕ) → p < length t → Number x → Number y → Number (at t p)
      → Names (at (renamed x y t) p) (cond (eqv (value_at (at t p)) (value_at x)) (value_at y) (value_at (at t p)))
  gives t x y p h nx ny nz =
      let z = at t p in
      let e : at (renamed x y t) p ≡ cond (eqb z x) y z = at_renamed x y t p h in
      rw (e, same_values z x nz nx)
      (by_test (eqb z x) (λ k. rw k (record { number = ny; is = refl })) (λ k. rw k (record { number = nz; is = refl })))

  module _ (t : List ℕ) (m : List Member) (long : length t ≡ length ks) (tied : Tied t m) where
    root_names : (a : ℕ) (v : Value) → Names a v → Names (root_in t a) (find m v)
    unfolding root_in
    root_names a v n =
        let h : a < length t = omega (arith, inside a n.number) in
        rw (lt-ltb a (length t) h, ← n.is) (tied a n.number)

    pub tied_join : (p : Pair) (a b : ℕ) → Each (λ x. has m x.root ≡ true) m → Here m p → Names a p.left → Names b p.right
        → Tied (join ks t a b) (union m p)
    unfolding join merged lesser greater
    tied_join p a b ready here na nb i ni =
        let x = root_in t a in
        let y = root_in t b in
        let nx = root_names a p.left na in
        let ny = root_names b p.right nb in
        let nz = tied i ni in
        let h : i < length t = omega (arith, inside i ni) in
        let o : before (root_right m p) (root_left m p) ≡ under ks y x = ap₂ before (sym ny.is) (sym nx.is) ∙ value_order y x ny.number nx.number in
        rw (find_union m p ready here (value_at i), o, ← nx.is, ← ny.is, ← nz.is)
        (by_test (under ks y x) (λ g. rw g (gives t x y i h nx.number ny.number nz.number))
        (λ g. by_test (under ks x y) (λ k. rw (g, k) (gives t y x i h ny.number nx.number nz.number))
        (λ k.
        let e : x ≡ y = under_neither x y nx.number ny.number k g in
        rw (g, k) (by_test (eqv (value_at (at t i)) (value_at y))
        (λ s. rw s (record { number = nz.number; is = eqv_true (value_at (at t i)) (value_at y) s ∙ ap value_at (sym e) }))
        (λ s. rw s (record { number = nz.number; is = refl }))))))
