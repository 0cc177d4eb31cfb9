-- A list that is filled goes on where it stopped, so that what is put in runs is put at once; begun as zeros and with room for all, it ends as these
-- numbers with zeros behind. An expression's Use nodes are its children's, which stand below it.
use mathlib.Core.Path.{◌≡◌, refl, sym, ap, ◌∙◌}
use mathlib.Core.Logic.{◌⊎◌, inl, inr}
use mathlib.Core.List.{List, [], ◌∷◌, ◌++◌, append-nil}
use Prim.Native.Nat.{ℕ, suc, ◌+◌, ◌-◌, ◌≤◌, ◌<◌}
use native.Mathlib.Omega.{arith}
use lib.ListN.{length, get_or, set, replicate, length-append}
use lib.Seq.{append_snoc}
use borrow.Author.Tests.{ne_eqb, lt-ltb, le-ltb}
use Rattle.definition.specs.Contents.{expr_word}
use Rattle.definition.specs.Listing.{padded}
use Rattle.definition.proofs.Runs.{run_append, run_then}
use Rattle.records.proofs.Trees.{grown_at, grown_past}
use Rattle.records.proofs.Padded.{padded_set, length_padded}
use Rattle.uses.specs.Uses.{node_uses, uses_below}
use Rattle.uses.specs.Filling.{Filling, filling, put, put_all, uses_under}

-- ---- numbers put
pub put_in : (l : List ℕ) (k x : ℕ) → k < length l → filling (set l k x) (k + 1) ≡ put (filling l k) x
unfolding put
put_in l k x h = rw (lt-ltb k (length l) h)

pub put_out : (l : List ℕ) (k x : ℕ) → length l ≤ k → filling l k ≡ put (filling l k) x
unfolding put
put_out l k x h = rw (le-ltb k (length l) h)

pub put_append : (r : Filling) (xs ys : List ℕ) → put_all r (xs ++ ys) ≡ put_all (put_all r xs) ys
unfolding put_all
put_append = run_append put_all put (λ r. refl) (λ r x xs. refl)

-- one run behind another
pub put_more : (p q r : Filling) (xs ys : List ℕ) → q ≡ put_all p xs → r ≡ put_all q ys → r ≡ put_all p (xs ++ ys)
unfolding put_all
put_more = run_then put_all put (λ r. refl) (λ r x xs. refl)

-- ---- into zeros
-- the next number, behind those that stand there
pub padded_next : (n : ℕ) (xs : List ℕ) (i x : ℕ) → length xs ≡ i → i < n → set (padded n xs) i x ≡ padded n (xs ++ (x ∷ []))
padded_next n xs i x e h = ap (λ (k : ℕ). set (padded n xs) k x) (sym e) ∙ padded_set n xs x (omega arith)

pub padded_none : (n : ℕ) → replicate n 0 ≡ padded n []
unfolding padded
padded_none n = let a : n - 0 ≡ n = omega arith in sym (rw a)

filled_on : (n : ℕ) (xs l : List ℕ) → length l + length xs ≤ n → put_all (filling (padded n l) (length l)) xs ≡ filling (padded n (l ++ xs)) (length l + length xs)
unfolding put_all
filled_on n [] l h = let a : length l + 0 ≡ length l = omega arith in rw (append-nil l, a)
filled_on n (x ∷ xs) l h =
    let a : length (l ++ (x ∷ [])) ≡ length l + 1 = length-append l (x ∷ []) in
    let b : length l + 1 + length xs ≡ length l + suc (length xs) = omega arith in
    let c : length l < length (padded n l) = omega (arith, length_padded n l (omega arith)) in
    ap (λ (r : Filling). put_all r xs)
    (sym (put_in (padded n l) (length l) x c) ∙ rw (padded_set n l x (omega arith), ← a))
    ∙ filled_on n xs (l ++ (x ∷ [])) (omega arith)
    ∙ rw (append_snoc l x xs, a, b)

pub filled : (n : ℕ) (xs : List ℕ) → length xs ≤ n → put_all (filling (replicate n 0) 0) xs ≡ filling (padded n xs) (length xs)
filled n xs h =
    let a : 0 + length xs ≡ length xs = omega arith in
    ap (λ (l : List ℕ). put_all (filling l 0) xs) (padded_none n) ∙ filled_on n xs [] (omega arith) ∙ ap (filling (padded n xs)) a

-- ---- the Use nodes of an expression
pub under_none : (f : List ℕ) (b x : ℕ) → b ≤ x → uses_under f b x ≡ []
unfolding uses_under uses_below
under_none f = grown_past (uses_below f) (λ n. node_uses f (uses_below f n) n) refl (λ n. refl) []

pub under_is : (f : List ℕ) (b x : ℕ) → x < b → uses_under f b x ≡ node_uses f (uses_below f x) x
unfolding uses_under uses_below
under_is f = grown_at (uses_below f) (λ n. node_uses f (uses_below f n) n) refl (λ n. refl) []

pub put_none : (f : List ℕ) (b x : ℕ) (r : Filling) → b ≤ x → r ≡ put_all r (uses_under f b x)
unfolding put_all
put_none f b x r h = sym (ap (put_all r) (under_none f b x h))

-- of expression x, whose tag t was read: r is what p becomes
module _ (f : List ℕ) (b x t : ℕ) (p : Filling) (tag : t ≡ expr_word f x 0) (below : x < b) where
  pub put_other : (t ≡ 2 → ⊥) → (t ≡ 3 → ⊥) → (t ≡ 4 → ⊥) → (t ≡ 5 → ⊥) → p ≡ put_all p (uses_under f b x)
  unfolding put_all node_uses
  put_other a c d e =
      let u : uses_under f b x ≡ [] = under_is f b x below ∙ rw (← tag, ne_eqb t 2 a, ne_eqb t 3 c, ne_eqb t 4 d, ne_eqb t 5 e) in
      sym (ap (put_all p) u)

  module _ (r : Filling) where
    pub put_use : t ≡ 2 → r ≡ put p x → r ≡ put_all p (uses_under f b x)
    unfolding put_all node_uses
    put_use e h = let u : uses_under f b x ≡ x ∷ [] = under_is f b x below ∙ rw (sym tag ∙ e) in h ∙ sym (ap (put_all p) u)

    pub put_bin : (q : Filling) (i j : ℕ) → t ≡ 3 → i ≡ expr_word f x 3 → j ≡ expr_word f x 4
        → q ≡ put_all p (uses_under f x i) → r ≡ put_all q (uses_under f x j) → r ≡ put_all p (uses_under f b x)
    unfolding node_uses uses_under
    put_bin q i j e m n g h =
        put_more p q r (get_or (uses_below f x) i []) (get_or (uses_below f x) j []) g h
        ∙ ap (put_all p) (rw (m, n) (sym (under_is f b x below ∙ rw (sym tag ∙ e))))

    -- of one child: that of a one-operand operator, or of a load
    put_child : (i : ℕ) → uses_under f x i ≡ node_uses f (uses_below f x) x → r ≡ put_all p (uses_under f x i) → r ≡ put_all p (uses_under f b x)
    put_child i e h = h ∙ ap (put_all p) (e ∙ sym (under_is f b x below))

    pub put_one : (i : ℕ) → ((t ≡ 4) × (i ≡ expr_word f x 3)) ⊎ ((t ≡ 5) × (i ≡ expr_word f x 2)) → r ≡ put_all p (uses_under f x i) → r ≡ put_all p (uses_under f b x)
    unfolding node_uses uses_under
    put_one i (inl (e, m)) = put_child i (rw (sym tag ∙ e, m))
    put_one i (inr (e, m)) = put_child i (rw (sym tag ∙ e, m))

-- a bound falls with the expression that it bounds
pub falls_to : (x b t : ℕ) → b ≡ t → x < b → x < t
falls_to x b t e h = omega arith
