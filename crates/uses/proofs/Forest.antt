-- The Use nodes of all statements are no more than the expressions. Count the nodes of every expression, summed over the expressions: since each is
-- mentioned once, that is the sum over all mentions, by statements and by expressions; since an expression has at most one node more than its children,
-- it is at most the sum over the mentions by expressions, and one for each expression. What is left for the statements is one for each expression.
use mathlib.Core.Path.{◌≡◌, refl, sym, ap, ◌∙◌}
use mathlib.Core.Bool.{Bool, true, false, not, cond, ◌&&◌, false≢true}
use mathlib.Core.List.{List, [], ◌∷◌, ◌++◌}
use Prim.Native.Nat.{ℕ, zero, suc, ◌+◌, ◌≤◌, ◌<◌}
use native.Mathlib.Decide.{dec_lt}
use native.Mathlib.Omega.{arith}
use lib.Dec.{eqb}
use lib.ListN.{length, get_or, length-append}
use borrow.Author.Tests.{eqb-true, eq-eqb, not-false}
use Rattle.definition.specs.Codes.{t_use, t_bin, t_un, t_load}
use Rattle.definition.specs.Edition.{Edition, statements, expressions, names}
use Rattle.definition.specs.Lists.{all, count, gather, total, range, all_below, sum_below}
use Rattle.definition.specs.Contents.{size, text, text_at, expr_word}
use Rattle.definition.specs.References.{printable, name_sound, stmt_text, expr_text, children, roots, mentions, children_lower, roots_inside, owned_once, refused5}
use Rattle.definition.proofs.Bools.{is_true, both_true}
use Rattle.definition.proofs.ListLaws.{total_append}
use Rattle.records.proofs.Below.{all_fail, sum_add, sum_same, sum_mono}
use Rattle.records.proofs.Ranges.{gather_last}
use Rattle.values.proofs.Ranges.{gather_length}
use Rattle.uses.specs.Uses.{node_uses, uses_below, uses_in, stmt_uses, use_order}
use Rattle.uses.specs.Filling.{uses_under}
use Rattle.uses.proofs.Filling.{under_is, under_none}

-- ---- sums
length_gather : {A : Type 0} (g : A → List ℕ) (xs : List A) → length (gather g xs) ≡ total (λ x. length (g x)) xs
unfolding gather total
length_gather g [] = refl
length_gather g (x ∷ xs) = omega (arith, length-append (g x) (gather g xs), length_gather g xs)

total_gather : (s : ℕ → ℕ) (g : ℕ → List ℕ) (n : ℕ) → total s (gather g (range 0 n)) ≡ sum_below n (λ i. total s (g i))
unfolding gather range sum_below total
total_gather s g zero = refl
total_gather s g (suc n) = omega (arith, ap (total s) (gather_last g n), total_append s (gather g (range 0 n)) (g n), total_gather s g n)

sum_ones : (g : ℕ → ℕ) (n : ℕ) → sum_below n (λ i. 1 + g i) ≡ n + sum_below n g
unfolding sum_below
sum_ones g zero = refl
sum_ones g (suc n) = omega (arith, sum_ones g n)

-- ---- what is mentioned once is summed once
module _ {A : Type 0} (p : A → Bool) (k : ℕ) where
  hit_none : (xs : List A) → count p xs ≡ 0 → total (λ x. cond (p x) k 0) xs ≡ 0
  unfolding count total
  hit_none [] e = refl
  hit_none (x ∷ xs) e = go (p x) e (hit_none xs)
    where
      go : (b : Bool) → cond b (suc (count p xs)) (count p xs) ≡ 0 → (count p xs ≡ 0 → total (λ x. cond (p x) k 0) xs ≡ 0) → cond b k 0 + total (λ x. cond (p x) k 0) xs ≡ 0
      go true e r = absurd (omega arith)
      go false e r = omega (arith, r e)

  hit_once : (xs : List A) → count p xs ≡ 1 → total (λ x. cond (p x) k 0) xs ≡ k
  unfolding count total
  hit_once [] e = absurd (omega arith)
  hit_once (x ∷ xs) e = go (p x) e (hit_once xs)
    where
      go : (b : Bool) → cond b (suc (count p xs)) (count p xs) ≡ 1 → (count p xs ≡ 1 → total (λ x. cond (p x) k 0) xs ≡ k) → cond b k 0 + total (λ x. cond (p x) k 0) xs ≡ k
      go true e r = let z : count p xs ≡ 0 = omega arith in omega (arith, hit_none xs z)
      go false e r = omega (arith, r e)

module _ (s : ℕ → ℕ) where
  picked : (n x : ℕ) → x < n → s x ≤ sum_below n (λ e. cond (eqb e x) (s e) 0)
  unfolding sum_below
  picked zero x h = absurd (omega arith)
  picked (suc n) x h = go (dec_lt x n) (picked n x)
    where
      go : Dec (x < n) → (x < n → s x ≤ sum_below n (λ e. cond (eqb e x) (s e) 0)) → s x ≤ sum_below n (λ e. cond (eqb e x) (s e) 0) + cond (eqb n x) (s n) 0
      go (yes k) r = omega (arith, r k)
      go (no k) r = let q : n ≡ x = omega arith in rw (eq-eqb n x q) (omega (arith, ap s q))

  module _ (n : ℕ) (outside : (x : ℕ) → n ≤ x → s x ≡ 0) where
    inside : (x : ℕ) → s x ≤ sum_below n (λ e. cond (eqb e x) (s e) 0)
    inside x = go (dec_lt x n)
      where
        go : Dec (x < n) → s x ≤ sum_below n (λ e. cond (eqb e x) (s e) 0)
        go (yes k) = picked n x k
        go (no k) = omega (arith, outside x (omega arith))

    spread : (xs : List ℕ) → total s xs ≤ sum_below n (λ e. total (λ x. cond (eqb e x) (s e) 0) xs)
    unfolding total
    spread [] = omega arith
    spread (x ∷ xs) =
        omega (arith, inside x, spread xs, sum_add (λ (e : ℕ). cond (eqb e x) (s e) 0) (λ (e : ℕ). total (λ (x : ℕ). cond (eqb e x) (s e) 0) xs) n)

    summed_once : (xs : List ℕ) → ((e : ℕ) → e < n → count (eqb e) xs ≡ 1) → total s xs ≤ sum_below n s
    summed_once xs h =
        omega (arith, spread xs, sum_mono (λ (e : ℕ). total (λ (x : ℕ). cond (eqb e x) (s e) 0) xs) s n (λ e k. omega (arith, hit_once (eqb e) (s e) xs (h e k))))

-- ---- the nodes of an expression
module _ (f : List ℕ) where
  -- how many expression n has
  nodes : ℕ → ℕ
  nodes n = length (uses_in f n)

  in_is : (n : ℕ) → uses_in f n ≡ uses_under f (size f expressions) n
  unfolding uses_in uses_under
  in_is n = refl

  outside_none : (n : ℕ) → size f expressions ≤ n → nodes n ≡ 0
  unfolding nodes
  outside_none n h = ap length (in_is n ∙ under_none f (size f expressions) n h)

  child_few : (n c : ℕ) → n ≤ size f expressions → length (uses_under f n c) ≤ nodes c
  unfolding nodes
  child_few n c b = go (dec_lt c n)
    where
      go : Dec (c < n) → length (uses_under f n c) ≤ length (uses_in f c)
      go (yes k) =
          let e : uses_under f n c ≡ uses_in f c = under_is f n c k ∙ sym (in_is c ∙ under_is f (size f expressions) c (omega arith)) in
          omega (arith, ap length e)
      go (no k) = omega (arith, ap length (under_none f n c (omega arith)))

  node_few : (n : ℕ) → n < size f expressions → nodes n ≤ 1 + total nodes (children f n)
  unfolding nodes node_uses children total uses_under
  node_few n b =
      let g = expr_word f n 0 in
      let e : uses_in f n ≡ node_uses f (uses_below f n) n = in_is n ∙ under_is f (size f expressions) n b in
      let child : (c : ℕ) → length (get_or (uses_below f n) c []) ≤ nodes c = λ c. child_few n c (omega arith) in
      rw e (go (eqb g t_use) (eqb g t_bin) (eqb g t_un) (eqb g t_load) (expr_word f n) child)
    where
      go : (p q r s : Bool) (w : ℕ → ℕ) → ((c : ℕ) → length (get_or (uses_below f n) c []) ≤ nodes c)
          → length (cond p (n ∷ []) (cond q (get_or (uses_below f n) (w 3) [] ++ get_or (uses_below f n) (w 4) []) (cond r (get_or (uses_below f n) (w 3) []) (cond s (get_or (uses_below f n) (w 2) []) []))))
          ≤ 1 + total nodes (cond q (w 3 ∷ w 4 ∷ []) (cond r (w 3 ∷ []) (cond s (w 2 ∷ []) [])))
      go true q r s w h = omega arith
      go false true r s w h = omega (arith, length-append (get_or (uses_below f n) (w 3) []) (get_or (uses_below f n) (w 4) []), h (w 3), h (w 4))
      go false false true s w h = omega (arith, h (w 3))
      go false false false true w h = omega (arith, h (w 2))
      go false false false false w h = omega arith

  -- ---- the forest
  mentioned_once : owned_once f ≡ true → (e : ℕ) → e < size f expressions → count (eqb e) (mentions f) ≡ 1
  unfolding owned_once
  mentioned_once own e h =
      let p : ℕ → Bool = λ e. eqb (count (eqb e) (mentions f)) 1 in
      eqb-true (count (eqb e) (mentions f)) 1 (is_true (p e) (λ q. false≢true (all_fail p {i = e} refl refl h (ap not q) ∙ own)))

  order_few : owned_once f ≡ true → length (use_order f) ≤ size f expressions
  unfolding use_order stmt_uses mentions nodes
  order_few own =
      let n = size f expressions in
      let m = size f statements in
      let r = gather (roots f) (range 0 m) in
      let c = gather (children f) (range 0 n) in
      let a = gather_length (λ (i : ℕ). gather (uses_in f) (roots f i)) m in
      let b = sum_same (λ (i : ℕ). length (gather (uses_in f) (roots f i))) (λ (i : ℕ). total nodes (roots f i)) m (λ i. length_gather (uses_in f) (roots f i)) in
      omega (
        arith,
        a,
        b,
        total_gather nodes (roots f) m,
        total_gather nodes (children f) n,
        total_append nodes r c,
        summed_once nodes n outside_none (r ++ c) (mentioned_once own),
        sum_mono nodes (λ (i : ℕ). 1 + total nodes (children f i)) n node_few,
        sum_ones (λ (i : ℕ). total nodes (children f i)) n,
      )

-- of a file that check 5 lets pass
pub order_short : (E : Edition) (f : List ℕ) → refused5 E f ≡ false → length (use_order f) ≤ size f expressions
unfolding refused5
order_short E f h =
    let others =
    all printable (text_at E f 0 (size f (text E)))
    && all_below (size f names) (name_sound E f) && all_below (size f statements) (stmt_text E f) && all_below (size f expressions) (expr_text E f)
    && all_below (size f expressions) (children_lower f) && all_below (size f statements) (roots_inside f) in
    order_few f (both_true others (owned_once f) (not-false _ h)).1
