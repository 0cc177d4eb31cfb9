-- Laws of the one contract: how a writer's return meets it, what an answer tells, and a text written behind another.
use mathlib.Core.Path.{◌≡◌, refl, sym, ap, ◌∙◌}
use mathlib.Core.Bool.{Bool, true, false, cond}
use mathlib.Core.List.{List, [], ◌++◌, append_assoc}
use Prim.Native.Nat.{ℕ, ◌+◌, ◌-◌, ◌≤◌, ◌<◌}
use native.Mathlib.Omega.{arith}
use borrow.Author.Tests.{le-leb, lt-leb, leb-true, leb-false}
use borrow.Rule.Slice.PartMut.{put_mid, mid_of, put_same}
use lib.Dec.{leb}
use lib.ListN.{length, take, drop, length-append, length-drop}
use lib.Seq.{length-take-le, drop_at, drop-drop}
use Rattle.std.specs.Prelude.{Ok, Err}
use Rattle.std.specs.Result.{IsErr}
use Rattle.std.proofs.Common.{rules}
use Rattle.leaf.specs.Leaf.{Wrote, no_room, answer, written, Leaf}
use Rattle.leaf.proofs.Rest.{rest_is, rest_back}

-- ---- how a return meets the contract
pub leaf_short : (t d : List ℕ) → length d < length t → Leaf t d no_room d
unfolding answer written
leaf_short t d h = record { says = rw (lt-leb _ _ h); left = rw (lt-leb _ _ h) }

pub leaf_fits : (t d : List ℕ) (n : ℕ) (e : List ℕ) → n ≡ length t → n ≤ length d → e ≡ t ++ drop n d → Leaf t d (Ok n) e
unfolding answer written
leaf_fits t d n e p h q =
    let k : length t ≤ length d = omega arith in
    record { says = rw (le-leb _ _ k, p); left = q ∙ rw (le-leb _ _ k, p) }

-- the empty text is always there
pub leaf_empty : (t d : List ℕ) → t ≡ [] → Leaf t d (Ok 0) d
leaf_empty t d e = rw e (leaf_fits [] d 0 d refl (omega arith) refl)

-- the same text, named otherwise
pub leaf_as : {t u d e : List ℕ} {r : Wrote} → Leaf t d r e → t ≡ u → Leaf u d r e
leaf_as l p = rw (← p) l

-- ---- what an answer tells
data Told (t d : List ℕ) : Wrote → List ℕ → Type 0 where
  short : length d < length t → Told t d no_room d
  fits : length t ≤ length d → Told t d (Ok (length t)) (t ++ drop (length t) d)

told_by : (t d : List ℕ) (b : Bool) → leb (length t) (length d) ≡ b
    → Told t d (cond b (Ok (length t)) no_room) (cond b (t ++ drop (length t) d) d)
told_by t d true h = fits (leb-true _ _ h)
told_by t d false h = short (leb-false _ _ h)

told : (t d : List ℕ) (r : Wrote) (e : List ℕ) → Leaf t d r e → Told t d r e
unfolding answer written
told t d r e l = rw (l.says, l.left) (told_by t d _ refl)

pub leaf_none : (t d e : List ℕ) (r : Wrote) → Leaf t d r e → r ≡ no_room → (length d < length t) × (e ≡ d)
leaf_none t d e r l p = go (told t d r e l) p
  where
    go : {r : Wrote} {e : List ℕ} → Told t d r e → r ≡ no_room → (length d < length t) × (e ≡ d)
    go (short h) p = (h, refl)
    go (fits h) p = let z : ◌≡◌ {A = ℕ} 0 1 = cc in absurd (omega arith)

pub leaf_bytes : (t d e : List ℕ) (r : Wrote) (n : ℕ) → Leaf t d r e → r ≡ Ok n → (n ≡ length t) × (n ≤ length d) × (e ≡ t ++ drop n d)
leaf_bytes t d e r n l p = go (told t d r e l) p
  where
    go : {r : Wrote} {e : List ℕ} → Told t d r e → r ≡ Ok n → (n ≡ length t) × (n ≤ length d) × (e ≡ t ++ drop n d)
    go (short h) p = let z : ◌≡◌ {A = ℕ} 0 1 = cc in absurd (omega arith)
    go (fits h) p = let e : length t ≡ n = cc in (sym e, omega arith, rw e)

-- where there is room
pub leaf_roomy : (t d e : List ℕ) (r : Wrote) → Leaf t d r e → length t ≤ length d → e ≡ t ++ drop (length t) d
leaf_roomy t d e r l h = go (told t d r e l) h
  where
    go : {r : Wrote} {e : List ℕ} → Told t d r e → length t ≤ length d → e ≡ t ++ drop (length t) d
    go (short k) h = absurd (omega arith)
    go (fits k) h = refl

-- what a `?` hands on
refused : (r : Wrote) → IsErr r → r ≡ no_room
refused (Ok n) h = absurd (search rules)
refused (Err x) h = refl

-- ---- a text u behind a text t of n bytes: u goes first, into the rest behind n bytes, then t
module _ (t u d : List ℕ) (n : ℕ) (size : n ≡ length t) where
  pub no_front : length d < n → Leaf (t ++ u) d no_room d
  no_front h = leaf_short (t ++ u) d (omega (arith, length-append t u))

  -- u did not fit
  pub no_end : (e : List ℕ) (r q : Wrote) → n ≤ length d → Leaf u (mid_of n (length d - n) d) r e → r ≡ no_room → IsErr q
      → Leaf (t ++ u) d q (put_mid n (length d - n) d e)
  no_end e r q room l none gives =
      let k = leaf_none u (mid_of n (length d - n) d) e r l none in
      let same : put_mid n (length d - n) d e ≡ d = ap (put_mid n (length d - n) d) k.1 ∙ put_same n (length d - n) d in
      rw (same, refused q gives) (leaf_short (t ++ u) d (omega (arith, k.0, ap length (rest_is d n), length-drop n d, length-append t u)))

  -- u fits, so m more bytes can be counted
  pub end_count : (e : List ℕ) (r : Wrote) (m : ℕ) → n ≤ length d → Leaf u (mid_of n (length d - n) d) r e → r ≡ Ok m → n + m ≤ length d
  end_count e r m room l some =
      omega (arith, (leaf_bytes u (mid_of n (length d - n) d) e r m l some).1, ap length (rest_is d n), length-drop n d)

  -- then t fits before it
  front_fits : (e : List ℕ) (r : Wrote) (m : ℕ) → n ≤ length d
      → Leaf u (mid_of n (length d - n) d) r e → r ≡ Ok m → length t ≤ length (put_mid n (length d - n) d e)
  front_fits e r m room l some =
      let back : put_mid n (length d - n) d e ≡ take n d ++ e = rest_back d n e in
      let first : length (take n d) ≡ n = length-take-le n d room in
      omega (arith, ap length back, length-append (take n d) e)

  pub front_told : (e : List ℕ) (r : Wrote) (m : ℕ) (s : Wrote) (e' : List ℕ) {A : Type 0} → n ≤ length d
      → Leaf u (mid_of n (length d - n) d) r e → r ≡ Ok m → Leaf t (put_mid n (length d - n) d e) s e' → s ≡ no_room → A
  front_told e r m s e' room l some l' none =
      absurd (omega (arith, front_fits e r m room l some, (leaf_none t _ e' s l' none).0))

  -- both fit
  pub both_fit : (e : List ℕ) (r : Wrote) (m : ℕ) (e' : List ℕ) → n ≤ length d
      → Leaf u (mid_of n (length d - n) d) r e → r ≡ Ok m → e' ≡ t ++ drop n (put_mid n (length d - n) d e) → Leaf (t ++ u) d (Ok (n + m)) e'
  both_fit e r m e' room l some now =
      let k = leaf_bytes u (mid_of n (length d - n) d) e r m l some in
      let back : put_mid n (length d - n) d e ≡ take n d ++ e = rest_back d n e in
      let first : length (take n d) ≡ n = length-take-le n d room in
      let end : e ≡ u ++ drop (n + m) d = k.2 ∙ ap (λ (l : List ℕ). u ++ drop m l) (rest_is d n) ∙ ap (λ (l : List ℕ). u ++ l) (drop-drop m n d) in
      let rest : drop n (put_mid n (length d - n) d e) ≡ e = ap (drop n) back ∙ drop_at (take n d) e n first in
      leaf_fits (t ++ u) d (n + m) e' (omega (arith, k.0, length-append t u)) (end_count e r m room l some)
      (now ∙ ap (λ (l : List ℕ). t ++ l) (rest ∙ end) ∙ sym (append_assoc t u (drop (n + m) d)))

  -- both fit, where t is written by a writer
  pub both_told : (e : List ℕ) (r : Wrote) (m : ℕ) (s : Wrote) (e' : List ℕ) → n ≤ length d
      → Leaf u (mid_of n (length d - n) d) r e → r ≡ Ok m → Leaf t (put_mid n (length d - n) d e) s e' → Leaf (t ++ u) d (Ok (n + m)) e'
  both_told e r m s e' room l some l' =
      both_fit e r m e' room l some (leaf_roomy t _ e' s l' (front_fits e r m room l some) ∙ rw size)
