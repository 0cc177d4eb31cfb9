-- An expression's tree says what its record says: a child that is not lower counts as an Opaque, so that the definition's `stack_off` and `outside`
-- of a tree are read off the records of one node and its children.
use mathlib.Core.Path.{◌≡◌, refl, sym, ap, ap₂, ◌∙◌}
use mathlib.Core.Bool.{Bool, true, false, not, cond, ◌&&◌, ◌||◌, or_assoc}
use mathlib.Core.List.{List, [], ◌∷◌, ◌++◌}
use Prim.Native.Nat.{ℕ, zero, suc, ◌+◌, ◌≤◌, ◌<◌}
use native.Mathlib.Omega.{arith}
use lib.Dec.{eqb, ltb}
use borrow.Author.Tests.{ltb-true, ltb-false, eq-eqb, ne_eqb}
use Rattle.definition.specs.Edition.{Edition, expressions}
use Rattle.definition.specs.Lists.{any}
use Rattle.definition.specs.Texts.{txt, same}
use Rattle.definition.specs.Contents.{size, text, text_at, expr_word, expr_long}
use Rattle.definition.specs.Values.{value}
use Rattle.definition.specs.Ssa.{Expr}
use Rattle.definition.specs.Ssa.Expr.{Const, Use, Bin, Un, Load, Opaque}
use Rattle.definition.specs.Read.{op_text, tree_at, tree, trees, all_trees}
use Rattle.definition.specs.Offsets.{Known, look, with_const, sum, stack_off, known, is_const, outside, refused7}
use Rattle.definition.proofs.Bools.{by_test, or_left, or_right}
use Rattle.records.proofs.Trees.{tree_lower, tree_past, by_tag}
use Rattle.sums.specs.Address.{single, op_byte, is_sign, signed_by, used_at, const_at, sum_at, address_at, outside_at}
use Rattle.sums.proofs.Signed.{signed_0, signed_single, sign_single}

-- ---- the parts of a sum: the base's offset, 0 where it is no value
unfoldable base : List Known → Expr → ℕ
base k (Const c) = 0
base k (Use v) = look k v
base k (Bin o a b) = 0
base k (Un o a) = 0
base k (Load n a) = 0
base k (Opaque x) = 0

module _ (k : List Known) (o : List ℕ) where
  with_0 : (b : Expr) → with_const 0 o b ≡ 0
  unfolding with_const
  with_0 (Const c) = signed_0 o c
  with_0 (Use v) = refl
  with_0 (Bin p x y) = refl
  with_0 (Un p x) = refl
  with_0 (Load n x) = refl
  with_0 (Opaque x) = refl

  sum_base : (a b : Expr) → sum k o a b ≡ with_const (base k a) o b
  unfolding sum base
  sum_base (Const c) b = sym (with_0 b)
  sum_base (Use v) b = refl
  sum_base (Bin p x y) b = sym (with_0 b)
  sum_base (Un p x) b = sym (with_0 b)
  sum_base (Load n x) b = sym (with_0 b)
  sum_base (Opaque x) b = sym (with_0 b)

known_base : (k : List Known) (a : Expr) → known k a ≡ not (eqb (base k a) 0)
unfolding known base
known_base k (Const c) = refl
known_base k (Use v) = refl
known_base k (Bin p x y) = refl
known_base k (Un p x) = refl
known_base k (Load n x) = refl
known_base k (Opaque x) = refl

-- the parts of a test in another order
ordered : (s x c z : Bool) → (s && x && c && z) ≡ (s && (c && (x && z)))
ordered true true c z = refl
ordered true false true z = refl
ordered true false false z = refl
ordered false x c z = refl

none : (s c z : Bool) → (s && false && c && z) ≡ (s && false)
none true c z = refl
none false c z = refl

any_append : {A : Type 0} (p : A → Bool) (xs ys : List A) → any p (xs ++ ys) ≡ (any p xs || any p ys)
unfolding any
any_append p [] ys = refl
any_append p (x ∷ xs) ys = ap (λ (b : Bool). p x || b) (any_append p xs ys) ∙ sym (or_assoc (p x) (any p xs) (any p ys))

-- ---- the trees of a file
module _ (E : Edition) (f : List ℕ) where
  unfoldable node : ℕ → Expr
  node n = tree E f (trees E f n) n

  node_lower : (n i : ℕ) → i < n → tree_at (trees E f n) i ≡ node i
  unfolding node
  node_lower n i h = tree_lower E f n i h

  -- by its tag
  by_node : (n : ℕ) (P : Expr → Type 0)
      → (expr_word f n 0 ≡ 1 → P (Const (expr_long f n 1)))
      → (expr_word f n 0 ≡ 2 → P (Use (value (expr_word f n 1) (expr_word f n 2))))
      → (expr_word f n 0 ≡ 3 → P (Bin (op_text E f n) (tree_at (trees E f n) (expr_word f n 3)) (tree_at (trees E f n) (expr_word f n 4))))
      → ((expr_word f n 0 ≡ 1 → ⊥) → (expr_word f n 0 ≡ 2 → ⊥) → (expr_word f n 0 ≡ 3 → ⊥)
      → ((o : List ℕ) (a : Expr) → P (Un o a)) × ((m : ℕ) (a : Expr) → P (Load m a)) × ((x : List ℕ) → P (Opaque x)))
      → P (node n)
  unfolding node
  by_node n P const used bin rest =
      by_tag E f (trees E f n) n P const used bin
      (λ e. (rest (λ z. omega arith) (λ z. omega arith) (λ z. omega arith)).0 _ _) (λ e. (rest (λ z. omega arith) (λ z. omega arith) (λ z. omega arith)).1 _ _)
      (λ p q r s t. (rest p q r).2 _)

  -- ---- what is known of the values that expressions use
  module _ (k : List Known) (h : ℕ → ℕ) (says : (n : ℕ) → n < size f expressions → expr_word f n 0 ≡ 2 → h n ≡ look k (value (expr_word f n 1) (expr_word f n 2))) where
    base_node : (n : ℕ) → n < size f expressions → base k (node n) ≡ used_at h f n
    unfolding base used_at
    base_node n b =
        by_node n (λ e. base k e ≡ used_at h f n)
        (λ e. rw (ne_eqb (expr_word f n 0) 2 (λ z. omega arith)))
        (λ e. rw (eq-eqb (expr_word f n 0) 2 e) (sym (says n b e)))
        (λ e. rw (ne_eqb (expr_word f n 0) 2 (λ z. omega arith)))
        (λ p q r. let z : 0 ≡ used_at h f n = rw (ne_eqb (expr_word f n 0) 2 q) in ((λ o a. z), (λ m a. z), (λ x. z)))

    const_node : (n s : ℕ) (o : List ℕ) → with_const s o (node n) ≡ cond (eqb (expr_word f n 0) 1) (signed_by s (single o) (expr_long f n 1)) 0
    unfolding with_const
    const_node n s o =
        by_node n (λ e. with_const s o e ≡ cond (eqb (expr_word f n 0) 1) (signed_by s (single o) (expr_long f n 1)) 0)
        (λ e. rw (eq-eqb (expr_word f n 0) 1 e) (signed_single s o (expr_long f n 1)))
        (λ e. rw (ne_eqb (expr_word f n 0) 1 (λ z. omega arith)))
        (λ e. rw (ne_eqb (expr_word f n 0) 1 (λ z. omega arith)))
        (λ p q r. ((λ o a. rw (ne_eqb (expr_word f n 0) 1 p)), (λ m a. rw (ne_eqb (expr_word f n 0) 1 p)), (λ x. rw (ne_eqb (expr_word f n 0) 1 p))))

    is_const_lem : (n : ℕ) → is_const (node n) ≡ eqb (expr_word f n 0) 1
    unfolding is_const
    is_const_lem n =
        by_node n (λ e. is_const e ≡ eqb (expr_word f n 0) 1)
        (λ e. sym (eq-eqb (expr_word f n 0) 1 e))
        (λ e. sym (ne_eqb (expr_word f n 0) 1 (λ z. omega arith)))
        (λ e. sym (ne_eqb (expr_word f n 0) 1 (λ z. omega arith)))
        (λ p q r. ((λ o a. sym (ne_eqb (expr_word f n 0) 1 p)), (λ m a. sym (ne_eqb (expr_word f n 0) 1 p)), (λ x. sym (ne_eqb (expr_word f n 0) 1 p))))

    module _ (n : ℕ) (here : n < size f expressions) where
      -- the two children of node n
      abbrev child : ℕ → Expr
      child a = tree_at (trees E f n) a

      base_child : (a : ℕ) → base k (child a) ≡ cond (ltb a n) (used_at h f a) 0
      unfolding base
      base_child a =
          by_test (ltb a n)
          (λ e. rw e (ap (base k) (node_lower n a (ltb-true a n e)) ∙ base_node a (omega (arith, ltb-true a n e))))
          (λ e. rw e (ap (base k) (tree_past E f n a (ltb-false a n e))))

      const_child : (b s : ℕ) (o : List ℕ) → with_const s o (child b) ≡ cond (ltb b n && eqb (expr_word f b 0) 1) (signed_by s (single o) (expr_long f b 1)) 0
      unfolding with_const
      const_child b s o =
          by_test (ltb b n)
          (λ e. rw e (ap (with_const s o) (node_lower n b (ltb-true b n e)) ∙ const_node b s o))
          (λ e. rw e (ap (with_const s o) (tree_past E f n b (ltb-false b n e))))

      is_const_child : (b : ℕ) → is_const (child b) ≡ (ltb b n && eqb (expr_word f b 0) 1)
      unfolding is_const
      is_const_child b =
          by_test (ltb b n)
          (λ e. rw e (ap is_const (node_lower n b (ltb-true b n e)) ∙ is_const_lem b))
          (λ e. rw e (ap is_const (tree_past E f n b (ltb-false b n e))))

      op_is : single (op_text E f n) ≡ op_byte f (text E) n
      unfolding op_text text_at op_byte
      op_is = refl

      sum_node : sum k (op_text E f n) (child (expr_word f n 3)) (child (expr_word f n 4)) ≡ sum_at h f (text E) n
      unfolding sum_at const_at
      sum_node =
          let a = expr_word f n 3 in
          let b = expr_word f n 4 in
          let o = op_text E f n in
          let s = base k (child a) in
          sum_base k o (child a) (child b)
          ∙ by_test (ltb a n)
          (λ e. rw e (const_child b s o ∙ ap₂ (λ (x y : ℕ). cond (ltb b n && eqb (expr_word f b 0) 1) (signed_by x y (expr_long f b 1)) 0) (rw e at (base_child a)) op_is))
          (λ e. rw e (ap (λ (x : ℕ). with_const x o (child b)) (rw e at (base_child a)) ∙ with_0 k o (child b)))

      outside_sum : (a b : ℕ) → a ≡ expr_word f n 3 → b ≡ expr_word f n 4
          → ((same (op_text E f n) (txt "+") || same (op_text E f n) (txt "-")) && known k (child a) && is_const (child b) && eqb (sum k (op_text E f n) (child a) (child b)) 0)
          ≡ (is_sign (op_byte f (text E) n) && (const_at f n && (not (eqb (used_at h f a) 0) && eqb (sum_at h f (text E) n) 0)))
      unfolding const_at
      outside_sum a b p q =
          let z = eqb (sum_at h f (text E) n) 0 in
          let c = ltb (expr_word f n 4) n && eqb (expr_word f (expr_word f n 4) 0) 1 in
          let x = not (eqb (used_at h f (expr_word f n 3)) 0) in
          let s = is_sign (op_byte f (text E) n) in
          rw (sign_single (op_text E f n), op_is, p, q, sum_node, known_base k (child (expr_word f n 3)), base_child (expr_word f n 3), is_const_child (expr_word f n 4))
          (by_test (ltb (expr_word f n 3) n) (λ e. rw e (ordered s x c z)) (λ e. rw e (none s c z)))

      off_node : stack_off k (node n) ≡ address_at h f (text E) n
      unfolding stack_off address_at
      off_node =
          by_node n (λ e. stack_off k e ≡ address_at h f (text E) n)
          (λ e. rw e)
          (λ e. rw e (sym (says n here e)))
          (λ e. rw e sum_node)
          (λ p q r. let z : 0 ≡ address_at h f (text E) n = rw (ne_eqb (expr_word f n 0) 2 q, ne_eqb (expr_word f n 0) 3 r) in ((λ o a. z), (λ m a. z), (λ x. z)))

      outside_node : outside k (node n) ≡ outside_at h f (text E) n
      unfolding outside outside_at
      outside_node =
          by_node n (λ e. outside k e ≡ outside_at h f (text E) n)
          (λ e. rw e)
          (λ e. rw e)
          (λ e. rw e (outside_sum (expr_word f n 3) (expr_word f n 4) refl refl))
          (λ p q r. let z : false ≡ outside_at h f (text E) n = rw (ne_eqb (expr_word f n 0) 3 r) in ((λ o a. z), (λ m a. z), (λ x. z)))

    -- an expression of the file, and one that is not there
    pub off_here : (n : ℕ) → n < size f expressions → address_at h f (text E) n ≡ stack_off k (tree_at (all_trees E f) n)
    unfolding all_trees
    off_here n b = sym (ap (stack_off k) (node_lower (size f expressions) n b) ∙ off_node n b)

    -- the expressions below n, one after the other
    pub out_turn : (n : ℕ) → n < size f expressions → any (outside k) (trees E f n) ≡ false → outside_at h f (text E) n ≡ false → any (outside k) (trees E f (n + 1)) ≡ false
    unfolding trees node any
    out_turn n b e o =
        let p : n + 1 ≡ suc n = omega arith in
        rw p (any_append (outside k) (trees E f n) (node n ∷ []) ∙ rw (e, outside_node n b, o))

    any_lower : (n m : ℕ) → n < m → outside k (node n) ≡ true → any (outside k) (trees E f m) ≡ true
    unfolding trees node any
    any_lower n zero h e = absurd (omega arith)
    any_lower n (suc m) h e =
        let t = any (outside k) (trees E f m) in
        let u = outside k (node m) || false in
        let below = any_lower n m in
        any_append (outside k) (trees E f m) (node m ∷ [])
        ∙ by_test (ltb n m)
        (λ b. or_left t u (below (ltb-true n m b) e))
        (λ b. let q : n ≡ m = omega (arith, ltb-false n m b) in or_right t u (or_left (outside k (node m)) false (rw q at e)))

    pub out_hit : (n : ℕ) → n < size f expressions → outside_at h f (text E) n ≡ true → true ≡ refused7 k (all_trees E f)
    unfolding refused7 all_trees
    out_hit n b e = sym (any_lower n (size f expressions) b (outside_node n b ∙ e))

  pub out_start : (k : List Known) → any (outside k) (trees E f 0) ≡ false
  unfolding trees any
  out_start k = refl

  pub out_end : (k : List Known) (n : ℕ) → n ≡ size f expressions → any (outside k) (trees E f n) ≡ false → false ≡ refused7 k (all_trees E f)
  unfolding refused7 all_trees
  out_end k n q e = sym (rw q at e)

  pub off_past : (k : List Known) (n : ℕ) → size f expressions ≤ n → 0 ≡ stack_off k (tree_at (all_trees E f) n)
  unfolding all_trees stack_off
  off_past k n b = sym (ap (stack_off k) (tree_past E f (size f expressions) n b))
