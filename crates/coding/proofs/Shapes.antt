-- The rows around a region, before and behind its forming, as parts of the table one behind the other.
use mathlib.Core.Path.{◌≡◌, refl, sym, ap, ap₂, ◌∙◌}
use mathlib.Core.List.{List, [], ◌∷◌, ◌++◌, map, append_assoc}
use Prim.Native.Nat.{ℕ, suc, ◌+◌, ◌-◌, ◌≤◌, ◌<◌}
use native.Mathlib.Omega.{arith}
use native.Mathlib.Numerals.{add-one}
use lib.ListN.{length, take, drop, set, length-append, length-drop, take-append-drop}
use lib.Seq.{take_at, drop_at, set_at, drop-drop, drop-cons, drop-set-lt, take-suc-set, take-add, append_snoc, length-take-le}
use Rattle.definition.specs.Lists.{at}
use Rattle.outline.specs.Forming.{changed_in, raised, inserted}
use Rattle.passes.specs.Regions.{opened, headed, whiled, close_row, formed_if, formed_do}
use Rattle.coding.proofs.Scanning.{part}

pub map_length : {A B : Type 0} (f : A → B) (l : List A) → length (map f l) ≡ length l
map_length f [] = refl
map_length f (x ∷ l) = ap suc (map_length f l)

pub part_length : (R : List ℕ) (j f : ℕ) → j + f ≤ length R → length (part R j f) ≡ f
part_length R j f h = length-take-le f (drop j R) (omega (arith, length-drop j R))

-- the rows from i up to n, of which j is one
pub part_split : (R : List ℕ) (i j n : ℕ) → i ≤ j → j ≤ n → part R i (n - i) ≡ part R i (j - i) ++ part R j (n - j)
part_split R i j n a b =
    let e : n - i ≡ j - i + (n - j) = omega arith in
    let q : i + (j - i) ≡ j = omega arith in
    ap (λ (z : ℕ). take z (drop i R)) e ∙ take-add (j - i) (n - j) (drop i R)
    ∙ ap (λ (z : List ℕ). part R i (j - i) ++ take (n - j) z) (drop-drop (j - i) i R ∙ ap (λ (z : ℕ). drop z R) q)

-- the first n rows, of which k is one
pub rows_split : (R : List ℕ) (k n : ℕ) → k < n → n ≤ length R → take n R ≡ take k R ++ at R k ∷ part R (k + 1) (n - (k + 1))
unfolding at
rows_split R k n h l =
    let e : n ≡ k + suc (n - (k + 1)) = omega arith in
    ap (λ (z : ℕ). take z R) e ∙ take-add k (suc (n - (k + 1))) R
    ∙ ap (λ (z : List ℕ). take k R ++ take (suc (n - (k + 1))) z) (drop-cons R k 0 (omega arith) ∙ ap (λ (z : ℕ). at R k ∷ drop z R) (sym (add-one k)))

-- m rows F before what stood behind the first m rows of R
shape : (R Q F : List ℕ) (m : ℕ) → m ≤ length R → Q ≡ F ++ drop m R → length F ≡ m → (take m Q ≡ F) × (drop m Q ≡ drop m R) × (length Q ≡ length R)
shape R Q F m h e q =
    (ap (take m) e ∙ take_at F (drop m R) m q, ap (drop m) e ∙ drop_at F (drop m R) m q, omega (arith, ap length e, length-append F (drop m R), length-drop m R))

module _ (R : List ℕ) (k j : ℕ) (h : k < j) (l : j ≤ length R) where
  -- v at k, and the rows behind it up to j raised
  abbrev front : ℕ → List ℕ
  front v = take k R ++ v ∷ map raised (part R (k + 1) (j - (k + 1)))

  front_length : (v : ℕ) → length (front v) ≡ j
  front_length v =
      let m : List ℕ = part R (k + 1) (j - (k + 1)) in
      omega (arith, length-append (take k R) (v ∷ map raised m), map_length raised m, length-take-le k R (omega arith), part_length R (k + 1) (j - (k + 1)) (omega arith))

  front_is : (v : ℕ) → changed_in raised (set R k v) (k + 1) j ≡ front v ++ drop j R
  unfolding changed_in
  front_is v =
      let m : List ℕ = part R (k + 1) (j - (k + 1)) in
      let e₁ : take (k + 1) (set R k v) ≡ take k R ++ (v ∷ []) = ap (λ (z : ℕ). take z (set R k v)) (add-one k) ∙ take-suc-set R k v (omega arith) in
      ap₂ (λ (a b : List ℕ). a ++ b) e₁
      (ap₂ (λ (a b : List ℕ). map raised (take (j - (k + 1)) a) ++ b) (drop-set-lt (k + 1) R k v (omega arith)) (drop-set-lt j R k v h))
      ∙ append_snoc (take k R) v (map raised m ++ drop j R) ∙ sym (append_assoc (take k R) (v ∷ map raised m) (drop j R))

  -- a row put in at j
  module _ (n : ℕ) (g : j ≤ n) (room : n < length R) where
    inserted_is : (v c : ℕ) → inserted (front v ++ drop j R) n j c ≡ (front v ++ c ∷ part R j (n - j)) ++ drop (suc n) R
    unfolding inserted
    inserted_is v c =
        let Q : List ℕ = front v ++ drop j R in
        let e : j + (suc n - j) ≡ suc n = omega arith in
        let e₁ : drop j Q ≡ drop j R = drop_at (front v) (drop j R) j (front_length v) in
        let e₂ : drop (suc n) Q ≡ drop (suc n) R =
        ap (λ (z : ℕ). drop z Q) (sym e) ∙ sym (drop-drop (suc n - j) j Q) ∙ ap (drop (suc n - j)) e₁ ∙ drop-drop (suc n - j) j R ∙ ap (λ (z : ℕ). drop z R) e in
        ap₂ (λ (a b : List ℕ). a ++ c ∷ b) (take_at (front v) (drop j R) j (front_length v)) (ap₂ (λ (a b : List ℕ). take (n - j) a ++ b) e₁ e₂)
        ∙ sym (append_assoc (front v) (c ∷ part R j (n - j)) (drop (suc n) R))

    abbrev if_row : List ℕ
    if_row = front (opened (at R k)) ++ close_row (at R k) ∷ part R j (n - j)

    if_is : formed_if R n k j ≡ if_row ++ drop (n + 1) R
    unfolding formed_if
    if_is =
        ap (λ (z : List ℕ). inserted z n j (close_row (at R k))) (front_is (opened (at R k))) ∙ inserted_is (opened (at R k)) (close_row (at R k))
        ∙ ap (λ (z : ℕ). if_row ++ drop z R) (sym (add-one n))

    if_long : length if_row ≡ n + 1
    if_long =
        omega (arith, length-append (front (opened (at R k))) (close_row (at R k) ∷ part R j (n - j)), front_length (opened (at R k)), part_length R j (n - j) (omega arith))

    -- the rows of the if, what stands behind them, and the length
    pub if_shape : (take (n + 1) (formed_if R n k j) ≡ if_row) × (drop (n + 1) (formed_if R n k j) ≡ drop (n + 1) R) × (length (formed_if R n k j) ≡ length R)
    if_shape = shape R (formed_if R n k j) if_row (n + 1) (omega arith) if_is if_long

  -- the row at j changed
  module _ (n : ℕ) (g : j < n) (room : n ≤ length R) where
    abbrev head : List ℕ
    head = front (headed (at R k))

    abbrev rest : List ℕ
    rest = part R (j + 1) (n - (j + 1))

    do_is : formed_do R k j ≡ (head ++ whiled (at R j) ∷ rest) ++ drop n R
    unfolding formed_do at
    do_is =
        let e : j + 1 + (n - (j + 1)) ≡ n = omega arith in
        ap (λ (z : List ℕ). set z j (whiled (at R j))) (front_is (headed (at R k)) ∙ ap (λ (z : List ℕ). head ++ z) (drop-cons R j 0 (omega arith)))
        ∙ set_at head (at R j) (drop (suc j) R) (whiled (at R j)) j (front_length (headed (at R k)))
        ∙ ap (λ (z : List ℕ). head ++ whiled (at R j) ∷ z) (ap (λ (z : ℕ). drop z R) (sym (add-one j)) ∙ sym (take-append-drop (n - (j + 1)) (drop (j + 1) R))
        ∙ ap (λ (z : List ℕ). rest ++ z) (drop-drop (n - (j + 1)) (j + 1) R ∙ ap (λ (z : ℕ). drop z R) e))
        ∙ sym (append_assoc head (whiled (at R j) ∷ rest) (drop n R))

    do_long : length (head ++ whiled (at R j) ∷ rest) ≡ n
    do_long = omega (arith, length-append head (whiled (at R j) ∷ rest), front_length (headed (at R k)), part_length R (j + 1) (n - (j + 1)) (omega arith))

    pub do_shape : (take n (formed_do R k j) ≡ head ++ whiled (at R j) ∷ rest) × (drop n (formed_do R k j) ≡ drop n R) × (length (formed_do R k j) ≡ length R)
    do_shape = shape R (formed_do R k j) (head ++ whiled (at R j) ∷ rest) n room do_is do_long
