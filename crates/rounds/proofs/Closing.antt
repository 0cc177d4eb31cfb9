-- The closure is closed: a round learns nothing, or it leaves fewer definitions whose value is not known, of which there are at most as many as
-- definitions. So more rounds than the definition runs change nothing.
use mathlib.Core.Path.{◌≡◌, refl, sym, ap, ◌∙◌}
use mathlib.Core.Bool.{Bool, true, false, not, cond, ◌||◌}
use mathlib.Core.Logic.{◌⊎◌, inl, inr, ⊎_elim}
use mathlib.Core.List.{List, [], ◌∷◌, ◌++◌, append_assoc}
use Prim.Native.Nat.{ℕ, zero, suc, ◌+◌, ◌≤◌, ◌<◌}
use native.Mathlib.Omega.{arith}
use lib.Dec.{eqb}
use lib.ListN.{length}
use borrow.Author.Tests.{eqb-true, eqb-false, eq-eqb, ne_eqb}
use Rattle.definition.specs.Lists.{count}
use Rattle.definition.specs.Values.{eqv}
use Rattle.definition.specs.Offsets.{Known, look, Def, defined, rule, learn, round, rounds, closure}
use Rattle.definition.proofs.Bools.{by_test}
use Rattle.definition.proofs.ListLaws.{bit, count_cons, count_at, count_length}
use Rattle.definition.proofs.Runs.{run_append}
use Rattle.definition.proofs.Equal.{eqv_refl}

-- ---- one definition
-- what it learns
abbrev pub known : Def → ℕ → List Known → List Known
known d x k = record { of = defined d; offset = x } ∷ k

module _ (k : List Known) (d : Def) where
  pub learn_none : rule k d ≡ 0 → learn k d ≡ k
  unfolding learn
  learn_none e = go (eqb (look k (defined d)) 0)
    where
      go : (b : Bool) → cond (not b || eqb (rule k d) 0) k (known d (rule k d) k) ≡ k
      go true = rw (eq-eqb (rule k d) 0 e)
      go false = refl

  pub learn_old : (look k (defined d) ≡ 0 → ⊥) → learn k d ≡ k
  unfolding learn
  learn_old h = rw (ne_eqb (look k (defined d)) 0 h)

  pub learn_new : look k (defined d) ≡ 0 → (rule k d ≡ 0 → ⊥) → learn k d ≡ known d (rule k d) k
  unfolding learn
  learn_new e h = rw (eq-eqb (look k (defined d)) 0 e, ne_eqb (rule k d) 0 h)

  -- it learns nothing, or something of a value that was not known
  pub by_learn : (P : List Known → Type 0) → P k → (look k (defined d) ≡ 0 → (rule k d ≡ 0 → ⊥) → P (known d (rule k d) k)) → P (learn k d)
  by_learn P old new =
      by_test (eqb (rule k d) 0)
      (λ e. rw (learn_none (eqb-true (rule k d) 0 e)) old)
      (λ e. by_test (eqb (look k (defined d)) 0)
      (λ z. let y = eqb-true (look k (defined d)) 0 z in let n = eqb-false (rule k d) 0 e in rw (learn_new y n) (new y n))
      (λ z. rw (learn_old (eqb-false (look k (defined d)) 0 z)) old))

-- ---- how many are not known
unfoldable lacks : List Known → Def → Bool
lacks k d = eqb (look k (defined d)) 0

unfoldable left : List Def → List Known → ℕ
left ds k = count (lacks k) ds

left_most : (ds : List Def) (k : List Known) → left ds k ≤ length ds
unfolding left
left_most ds k = count_length (lacks k) ds

-- fewer of which a test holds
module _ {A : Type 0} (p q : A → Bool) (less : (x : A) → bit (p x) ≤ bit (q x)) where
  fewer : (xs : List A) → count p xs ≤ count q xs
  unfolding count
  fewer [] = omega arith
  fewer (x ∷ xs) = omega (arith, count_cons p x xs, count_cons q x xs, less x, fewer xs)

-- what is known stays known, and what is learnt is known then
module _ (k : List Known) (d : Def) (x : ℕ) (some_x : x ≡ 0 → ⊥) where
  lacks_less : (e : Def) → bit (lacks (known d x k) e) ≤ bit (lacks k e)
  unfolding lacks look
  lacks_less e = go (eqv (defined d) (defined e))
    where
      go : (b : Bool) → bit (eqb (cond b x (look k (defined e))) 0) ≤ bit (eqb (look k (defined e)) 0)
      go true = rw (ne_eqb x 0 some_x) (omega arith)
      go false = omega arith

  lacks_now : lacks (known d x k) d ≡ false
  unfolding lacks look
  lacks_now = rw (eqv_refl (defined d), ne_eqb x 0 some_x)

  left_less : (ds : List Def) → left ds (known d x k) ≤ left ds k
  unfolding left
  left_less ds = fewer (lacks (known d x k)) (lacks k) lacks_less ds

  left_at : look k (defined d) ≡ 0 → (xs ys : List Def) → left (xs ++ d ∷ ys) (known d x k) < left (xs ++ d ∷ ys) k
  unfolding left lacks
  left_at e xs ys =
      let z : bit (lacks k d) ≡ 1 = rw (eq-eqb (look k (defined d)) 0 e) in
      let w : bit (lacks (known d x k) d) ≡ 0 = ap bit lacks_now in
      let a : count (lacks (known d x k)) xs ≤ count (lacks k) xs = left_less xs in
      let b : count (lacks (known d x k)) ys ≤ count (lacks k) ys = left_less ys in
      omega (arith, count_at (lacks k) xs d ys, count_at (lacks (known d x k)) xs d ys)

-- ---- a round
round_lower : (es ds : List Def) (k : List Known) → left es (round ds k) ≤ left es k
unfolding round
round_lower es [] k = omega arith
round_lower es (d ∷ ds) k =
    let r = round_lower es ds (learn k d) in
    let l = by_learn k d (λ j. left es j ≤ left es k) (omega arith) (λ e n. left_less k d (rule k d) n es) in
    omega arith

-- it learns nothing, or fewer are not known
round_told : (es xs ds : List Def) → es ≡ xs ++ ds → (k : List Known) → (round ds k ≡ k) ⊎ (left es (round ds k) < left es k)
unfolding round
round_told es xs [] e k = inl refl
round_told es xs (d ∷ ds) e k =
    let old = round_told es (xs ++ (d ∷ [])) ds (e ∙ sym (append_assoc xs (d ∷ []) ds)) k in
    by_learn k d (λ j. (round ds j ≡ k) ⊎ (left es (round ds j) < left es k)) old
    (λ z n.
    let j = known d (rule k d) k in
    let l : left es j < left es k = rw e (left_at k d (rule k d) n z xs ds) in
    inr (omega (arith, round_lower es ds j)))

-- rounds one behind the other
pub round_append : (xs ys : List Def) (k : List Known) → round (xs ++ ys) k ≡ round ys (round xs k)
unfolding round
round_append xs ys k = run_append (λ (j : List Known) (ds : List Def). round ds j) learn (λ j. refl) (λ j d ds. refl) k xs ys

module _ (ds : List Def) where
  rounds_sum : (n m : ℕ) (k : List Known) → rounds ds (n + m) k ≡ rounds ds m (rounds ds n k)
  unfolding rounds
  rounds_sum zero m k = let s : 0 + m ≡ m = omega arith in rw s
  rounds_sum (suc n) m k = let s : suc n + m ≡ suc (n + m) = omega arith in ap (λ (j : ℕ). rounds ds j k) s ∙ rounds_sum n m (round ds k)

  pub rounds_last : (n : ℕ) (k : List Known) → rounds ds (n + 1) k ≡ round ds (rounds ds n k)
  unfolding rounds
  rounds_last n k = rounds_sum n 1 k

  -- a list that a round does not change is changed by no rounds
  rounds_still : (k : List Known) → round ds k ≡ k → (n : ℕ) → rounds ds n k ≡ k
  unfolding rounds
  rounds_still k e zero = refl
  rounds_still k e (suc n) = ap (rounds ds n) e ∙ rounds_still k e n

  -- as many rounds as are not known
  rounds_end : (n : ℕ) (k : List Known) → left ds k ≤ n → round ds (rounds ds n k) ≡ rounds ds n k
  unfolding rounds
  rounds_end zero k h = ⊎_elim (λ e. e) (λ q. absurd (omega arith)) (round_told ds [] ds refl k)
  rounds_end (suc n) k h =
      let next = rounds_end n (round ds k) in
      ⊎_elim
      (λ e. let s : rounds ds n (round ds k) ≡ k = ap (rounds ds n) e ∙ rounds_still k e n in ap (round ds) s ∙ e ∙ sym s)
      (λ q. next (omega arith)) (round_told ds [] ds refl k)

  -- the closure is closed
  pub closed : (k : List Known) → round ds (closure ds k) ≡ closure ds k
  unfolding closure
  closed k = rounds_end (suc (length ds)) k (omega (arith, left_most ds k))

  -- rounds beyond those of the closure change nothing
  pub no_more : (n : ℕ) (k : List Known) → rounds ds (suc (length ds) + n) k ≡ closure ds k
  unfolding closure
  no_more n k = rounds_sum (suc (length ds)) n k ∙ rounds_still (rounds ds (suc (length ds)) k) (closed k) n

  -- rounds that stop where one changed nothing give the closure
  pub stopped : (n : ℕ) (k : List Known) → round ds (rounds ds n k) ≡ rounds ds n k → rounds ds n k ≡ closure ds k
  stopped n k e =
      let s : suc (length ds) + n ≡ n + suc (length ds) = omega arith in
      sym (rounds_still (rounds ds n k) e (suc (length ds))) ∙ sym (rounds_sum n (suc (length ds)) k)
      ∙ ap (λ (j : ℕ). rounds ds j k) (sym s) ∙ no_more n k
