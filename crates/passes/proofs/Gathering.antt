-- Dropping, one turn at a time, and what the loop comes to: the rows kept, one behind the other, before what stood behind them.
use mathlib.Core.Path.{◌≡◌, refl, sym, ap, ap₂, ◌∙◌}
use mathlib.Core.Bool.{Bool, true, false, cond}
use mathlib.Core.List.{List, ◌∷◌, ◌++◌, map}
use Prim.Native.Nat.{ℕ, min, zero, suc, ◌+◌, ◌-◌, ◌≤◌, ◌<◌}
use native.Mathlib.Omega.{arith}
use native.Mathlib.Nat.{min-le_right}
use native.Mathlib.Numerals.{add-one}
use native.Mathlib.Decide.{dec_le}
use lib.ListN.{length, get_or, take, drop, set, replicate, length-set, length-take, length-drop, take-append-drop, drop_of_length-le}
use lib.Seq.{take_all, take-length, drop-length, take_at, drop_at, drop-drop, drop-cons, drop-set-lt, take-suc-set, append_snoc, length-take-le, drop-append-add}
use Rattle.definition.specs.Lists.{only, at}
use Rattle.definition.proofs.ListLaws.{only_length}
use Rattle.definition.proofs.Runs.{loop_start}
use Rattle.outline.specs.Spans.{spans_of}
use Rattle.outline.specs.Forming.{nought, changed_in}
use Rattle.outline.proofs.Along.{left_turn, left_end}
use Rattle.outline.proofs.Moves.{zeros}
use Rattle.passes.specs.Dropping.{kept_row, kept_rows, Gathered, gathered, placed, gather_from, drop_rows}

module _ (b : Bool) (R : List ℕ) (c w : ℕ) where
  pub place_yes : b ≡ true → gathered (c + 1) (set R c w) ≡ placed b R c w
  unfolding placed
  place_yes e = rw e

  pub place_no : b ≡ false → gathered c R ≡ placed b R c w
  unfolding placed
  place_no e = rw e

module _ (p : ℕ → Bool) (m i : ℕ) (R : List ℕ) (c : ℕ) where
  pub gather_turn : i < m → (w : ℕ) → w ≡ at R i → (b : Bool) → b ≡ p w → (c' : ℕ) (R' : List ℕ) → gathered c' R' ≡ placed b R c w
      → gather_from p R i (m - i) c ≡ gather_from p R' (i + 1) (m - (i + 1)) c'
  unfolding gather_from
  gather_turn h w e b eb c' R' q =
      let g : placed (p (at R i)) R c (at R i) ≡ gathered c' R' = ap (λ (x : ℕ). placed (p x) R c x) (sym e) ∙ ap (λ (x : Bool). placed x R c w) (sym eb) ∙ sym q in
      left_turn (λ (f : ℕ). gather_from p R i f c) i m h
      ∙ ap₂ (λ (x : ℕ) (g : Gathered). gather_from p g.rows x (m - (i + 1)) g.count) (sym (add-one i)) g

  pub gather_end : m ≤ i → gathered c R ≡ gather_from p R i (m - i) c
  unfolding gather_from
  gather_end h = sym (left_end (λ (f : ℕ). gather_from p R i f c) i m h)

pub gather_start : (p : ℕ → Bool) (R : List ℕ) (m : ℕ) → gather_from p R 0 m 0 ≡ gather_from p R 0 (m - 0) 0
gather_start p R m = loop_start (λ (f : ℕ). gather_from p R 0 f 0) m m refl

-- ---- what the loop comes to
module _ (p : ℕ → Bool) where
  abbrev Came : List ℕ → ℕ → List ℕ → Gathered
  Came R c ws = gathered (c + length ws) (take c R ++ (ws ++ drop (c + length ws) R))

  came_on : (R : List ℕ) (c w : ℕ) (ws : List ℕ) → c < length R → Came (set R c w) (c + 1) ws ≡ Came R c (w ∷ ws)
  came_on R c w ws lt =
      let k : c + 1 + length ws ≡ c + suc (length ws) = omega arith in
      ap₂ gathered k
      (ap₂ (λ (a b : List ℕ). a ++ (ws ++ b)) (ap (λ (q : ℕ). take q (set R c w)) (add-one c) ∙ take-suc-set R c w lt)
      (drop-set-lt (c + 1 + length ws) R c w (omega arith) ∙ ap (λ (q : ℕ). drop q R) k)
      ∙ append_snoc (take c R) w (ws ++ drop (c + suc (length ws)) R))

  gather_is : (f i : ℕ) (R : List ℕ) (c : ℕ) → c ≤ i → i + f ≤ length R → gather_from p R i f c ≡ Came R c (only p (take f (drop i R)))
  unfolding gather_from only placed at
  gather_is zero i R c h l = let e : c + 0 ≡ c = omega arith in ap₂ gathered (sym e) (sym (take-append-drop c R) ∙ ap (λ (k : ℕ). take c R ++ drop k R) (sym e))
  gather_is (suc f) i R c h l =
      let w : ℕ = get_or R i 0 in
      let ws : List ℕ = only p (take f (drop (suc i) R)) in
      let yes_on : gather_from p (set R c w) (suc i) f (c + 1) ≡ Came R c (w ∷ ws) =
      gather_is f (suc i) (set R c w) (c + 1) (omega arith) (omega (arith, length-set R c w))
      ∙ ap (λ (z : List ℕ). Came (set R c w) (c + 1) (only p (take f z))) (drop-set-lt (suc i) R c w (omega arith)) ∙ came_on R c w ws (omega arith) in
      let no_on : gather_from p R (suc i) f c ≡ Came R c ws = gather_is f (suc i) R c (omega arith) (omega arith) in
      go R c i f w ws (p w) yes_on no_on ∙ ap (λ (z : List ℕ). Came R c (only p (take (suc f) z))) (sym (drop-cons R i 0 (omega arith)))
    where
      go : (R : List ℕ) (c i f w : ℕ) (ws : List ℕ) (b : Bool) → gather_from p (set R c w) (suc i) f (c + 1) ≡ Came R c (w ∷ ws) → gather_from p R (suc i) f c ≡ Came R c ws
          → gather_from p (cond b (gathered (c + 1) (set R c w)) (gathered c R)).rows (suc i) f (cond b (gathered (c + 1) (set R c w)) (gathered c R)).count
          ≡ Came R c (cond b (w ∷ ws) ws)
      go R c i f w ws true y n = y
      go R c i f w ws false y n = n

-- zeros in place of the rows dropped
cleared : (R ws : List ℕ) (m : ℕ) → length ws ≤ m → m ≤ length R
    → changed_in nought (ws ++ drop (length ws) R) (length ws) m ≡ ws ++ (replicate (m - length ws) 0 ++ drop m R)
unfolding changed_in
cleared R ws m h l =
    let c : ℕ = length ws in
    let X : List ℕ = drop c R in
    let e : c + (m - c) ≡ m = omega arith in
    let e₁ : length (take (m - c) X) ≡ m - c = length-take-le (m - c) X (omega (arith, length-drop c R)) in
    let e₂ : map nought (take (m - c) (drop c (ws ++ X))) ≡ replicate (m - c) 0 =
    ap (λ (z : List ℕ). map nought (take (m - c) z)) (drop_at ws X c refl) ∙ zeros (take (m - c) X) ∙ ap (λ (k : ℕ). replicate k 0) e₁ in
    let e₃ : drop m (ws ++ X) ≡ drop m R =
    ap (λ (k : ℕ). drop k (ws ++ X)) (sym e) ∙ drop-append-add ws X (m - c) ∙ drop-drop (m - c) c R ∙ ap (λ (k : ℕ). drop k R) e in
    ap₂ (λ (a b : List ℕ). a ++ b) (take_at ws X c refl) (ap₂ (λ (a b : List ℕ). a ++ b) e₂ e₃)

-- the first n rows, where there may be fewer
module _ (R : List ℕ) (n : ℕ) where
  pub count_is : (m : ℕ) → m ≡ min n (length R) → m ≡ length (take n R)
  count_is m e = e ∙ sym (length-take n R)

  pub count_le : (m : ℕ) → m ≡ length (take n R) → m ≤ length R
  count_le m e = omega (arith, length-take n R, min-le_right n (length R))

  first_rows : (take (length (take n R)) R ≡ take n R) × (drop (length (take n R)) R ≡ drop n R)
  first_rows = go (dec_le n (length R))
    where
      go : Dec (n ≤ length R) → (take (length (take n R)) R ≡ take n R) × (drop (length (take n R)) R ≡ drop n R)
      go (yes h) = (ap (λ (k : ℕ). take k R) (length-take-le n R h), ap (λ (k : ℕ). drop k R) (length-take-le n R h))
      go (no h) =
          let e : length (take n R) ≡ length R = ap length (take_all n R (omega arith)) in
          let l : length R ≤ n = omega arith in
          (ap (λ (k : ℕ). take k R) e ∙ take-length R ∙ sym (take_all n R l), ap (λ (k : ℕ). drop k R) e ∙ drop-length R ∙ sym (drop_of_length-le R l))

pub drop_all : (R : List ℕ) (l n : ℕ) (S : List ℕ) (m c : ℕ) (M M' : List ℕ) → S ≡ spans_of l R n → m ≡ length (take n R)
    → gathered c M ≡ gather_from (kept_row S n) R 0 m 0 → M' ≡ changed_in nought M c m → gathered c M' ≡ drop_rows R l n
unfolding drop_rows kept_rows
drop_all R l n S m c M M' es em eg e =
    let p : ℕ → Bool = kept_row S n in
    let ws : List ℕ = only p (take m R) in
    let small : m ≤ length R = count_le R n m em in
    let whole : length (take m R) ≡ m = length-take-le m R small in
    let g : gathered c M ≡ Came p R 0 ws = eg ∙ gather_is p m 0 R 0 (omega arith) (omega arith) in
    let z : 0 + length ws ≡ length ws = omega arith in
    let ec : c ≡ length ws = ap (λ (x : Gathered). x.count) g ∙ z in
    let e_m : M ≡ ws ++ drop (length ws) R = ap (λ (x : Gathered). x.rows) g ∙ ap (λ (k : ℕ). ws ++ drop k R) z in
    let f = first_rows R n in
    let ew : ws ≡ only (kept_row (spans_of l R n) n) (take n R) =
    ap (λ (k : ℕ). only p (take k R)) em ∙ ap (only p) f.0 ∙ ap (λ (T : List ℕ). only (kept_row T n) (take n R)) es in
    ap₂ gathered ec
    (e ∙ ap₂ (λ (z : List ℕ) (k : ℕ). changed_in nought z k m) e_m ec ∙ cleared R ws m (omega (arith, only_length p (take m R))) small
    ∙ ap₂ (λ (k : ℕ) (z : List ℕ). ws ++ (replicate (k - length ws) 0 ++ z)) em (ap (λ (k : ℕ). drop k R) em ∙ f.1))
    ∙ ap (λ (z : List ℕ). gathered (length z) (z ++ (replicate (length (take n R) - length z) 0 ++ drop n R))) ew
