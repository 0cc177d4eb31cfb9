-- Parts of the file and what is taken off them: a part's rest is a part, and a leading word goes off as long as the rest begins with it.
use mathlib.Core.Path.{◌≡◌, refl, sym, ap, ◌∙◌}
use mathlib.Core.Bool.{Bool, true, false, cond, ◌&&◌}
use mathlib.Core.List.{List, [], ◌∷◌}
use Prim.Native.Nat.{ℕ, zero, suc, ◌+◌, ◌-◌, ◌/◌, ◌≤◌, ◌<◌}
use native.Mathlib.Omega.{arith}
use lib.Dec.{eqb}
use lib.ListN.{length, take, drop, get_or, length-drop}
use lib.Seq.{take-add, drop-cons, drop-drop, drop_at, length-take-le}
use Rattle.definition.specs.Words.{part}
use Rattle.definition.specs.Texts.{txt, begins, shed, trim_start}
use Rattle.definition.proofs.TextLaws.{begins_length}
use Rattle.words.proofs.Laws.{begins_short}
use Rattle.words.proofs.Parts.{size_most}
use Rattle.calls.specs.Spelled.{Trimmed}

module _ (f : List ℕ) (at n : ℕ) where
  -- the first byte of a part, and the rest
  pub part_first : at < length f → 0 < n → part f at n ≡ get_or f at 0 ∷ part f (at + 1) (n - 1)
  unfolding part
  part_first h g =
      let p : n ≡ suc (n - 1) = omega arith in
      let q : suc at ≡ at + 1 = omega arith in
      ap (λ (k : ℕ). take k (drop at f)) p ∙ ap (take (suc (n - 1))) (drop-cons f at 0 h ∙ ap (λ (k : ℕ). get_or f at 0 ∷ drop k f) q)

  -- behind k of its bytes
  pub part_behind : (k : ℕ) → k ≤ length (part f at n) → drop k (part f at n) ≡ part f (at + k) (n - k)
  unfolding part
  part_behind k h =
      let s = drop at f in
      let p : n ≡ k + (n - k) = omega (arith, (size_most f at n).0) in
      let l : length (take k s) ≡ k = length-take-le k s (omega (arith, (size_most f at n).1, length-drop at f)) in
      ap (λ (m : ℕ). drop k (take m s)) p ∙ ap (drop k) (take-add k (n - k) s) ∙ drop_at (take k s) (take (n - k) (drop k s)) k l
      ∙ ap (take (n - k)) (drop-drop k at f)

-- ---- what it begins with
begins_take : (w s : List ℕ) (n : ℕ) → length w ≤ n → begins w s ≡ begins w (take n s)
unfolding begins
begins_take [] s n h = refl
begins_take (a ∷ w) [] zero h = refl
begins_take (a ∷ w) [] (suc n) h = refl
begins_take (a ∷ w) (b ∷ s) zero h = absurd (omega arith)
begins_take (a ∷ w) (b ∷ s) (suc n) h = ap (λ (c : Bool). eqb a b && c) (begins_take w s n (omega arith))

pub begins_small : (f : List ℕ) (at n : ℕ) (w : List ℕ) → n < length w → false ≡ begins w (part f at n)
begins_small f at n w h = begins_short w (part f at n) (omega (arith, (size_most f at n).0))

pub begins_inside : (f : List ℕ) (at n : ℕ) (w : List ℕ) (b : Bool) → length w ≤ n → b ≡ begins w (drop at f) → b ≡ begins w (part f at n)
unfolding part
begins_inside f at n w b h e = e ∙ begins_take w (drop at f) n h

-- ---- the loop of `trim_sub`: k bytes are off, four at each turn
abbrev sub : List ℕ
sub = txt "sub_"

shed_next : (n : ℕ) (s : List ℕ) → begins sub s ≡ true → shed (suc n) sub s ≡ shed n sub (drop 4 s)
unfolding shed
shed_next n s e = ap (λ (b : Bool). cond b (shed n sub (drop 4 s)) s) e

shed_stop : (n : ℕ) (s : List ℕ) → begins sub s ≡ false → shed n sub s ≡ s
unfolding shed
shed_stop zero s e = refl
shed_stop (suc n) s e = ap (λ (b : Bool). cond b (shed n sub (drop 4 s)) s) e

module _ (f : List ℕ) (at n : ℕ) where
  -- how many more may go
  abbrev left : ℕ → ℕ
  left k = length (part f at n) - k / 4

  abbrev pub Going : ℕ → Type 0
  Going k = (trim_start sub (part f at n) ≡ shed (left k) sub (part f (at + k) (n - k))) × (k ≤ length (part f at n))

  pub trim_start_lem : Going 0
  unfolding trim_start
  trim_start_lem =
      let p : at + 0 ≡ at = omega arith in
      let q : n - 0 ≡ n = omega arith in
      let r : left 0 ≡ length (part f at n) = omega arith in
      (rw (p, q, r), omega arith)

  module _ (k : ℕ) (b : Bool) (so : Going k) (is : b ≡ begins sub (part f (at + k) (n - k))) where
    pub trim_more : b ≡ true → Going (k + 4)
    trim_more h =
        let s = part f (at + k) (n - k) in
        let size : length s ≡ length (part f at n) - k = ap length (sym (part_behind f at n k so.1)) ∙ length-drop k (part f at n) in
        let four : 4 ≤ length s = begins_length sub s (sym is ∙ h) in
        let fuel : left k ≡ suc (left (k + 4)) = omega arith in
        let p : at + k + 4 ≡ at + (k + 4) = omega arith in
        let q : n - k - 4 ≡ n - (k + 4) = omega arith in
        let rest : drop 4 s ≡ part f (at + (k + 4)) (n - (k + 4)) = part_behind f (at + k) (n - k) 4 four ∙ rw (p, q) in
        (so.0 ∙ ap (λ (m : ℕ). shed m sub s) fuel ∙ shed_next (left (k + 4)) s (sym is ∙ h) ∙ ap (shed (left (k + 4)) sub) rest, omega arith)

    pub trim_done : b ≡ false → Trimmed f at n k
    trim_done h = record { rest = sym (so.0 ∙ shed_stop (left k) (part f (at + k) (n - k)) (sym is ∙ h)); within = so.1 }
