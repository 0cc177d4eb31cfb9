-- Writing over a part of a list: its length, one part behind another, and into a list that is padded with zeros.
use mathlib.Core.Path.{◌≡◌, refl, sym, ap, ◌∙◌}
use mathlib.Core.List.{List, ◌++◌, append_assoc}
use Prim.Native.Nat.{ℕ, ◌+◌, ◌-◌, ◌≤◌}
use native.Mathlib.Omega.{arith}
use lib.ListN.{length, take, drop, replicate, length-append, length-drop}
use lib.Seq.{length-take-le, take_at, drop_at, drop-drop}
use Rattle.definition.specs.Listing.{padded}
use Rattle.records.proofs.Padded.{drop_zeros}
use Rattle.room.specs.Room.{paste}

module _ (t a : List ℕ) (i : ℕ) (room : i + length a ≤ length t) where
  front : length (take i t ++ a) ≡ i + length a
  front = length-append (take i t) a ∙ ap (λ (n : ℕ). n + length a) (length-take-le i t (omega arith))

  split : paste t i a ≡ (take i t ++ a) ++ drop (i + length a) t
  unfolding paste
  split = sym (append_assoc (take i t) a (drop (i + length a) t))

  pub length_paste : length (paste t i a) ≡ length t
  length_paste = ap length split ∙ length-append (take i t ++ a) (drop (i + length a) t) ∙ omega (arith, front, length-drop (i + length a) t)

  -- b behind a
  pub paste_twice : (b : List ℕ) → paste (paste t i a) (i + length a) b ≡ paste t i (a ++ b)
  unfolding paste
  paste_twice b =
      let n = i + length a in
      let rest : drop (n + length b) (paste t i a) ≡ drop (i + length (a ++ b)) t =
      sym (drop-drop (length b) n (paste t i a)) ∙ ap (λ (l : List ℕ). drop (length b) (drop n l)) split ∙ ap (drop (length b)) (drop_at (take i t ++ a) (drop n t) n front)
      ∙ drop-drop (length b) n t ∙ ap (λ (m : ℕ). drop m t) (let z : i + length a + length b ≡ i + length (a ++ b) = omega (arith, length-append a b) in z) in
      let first : take n (paste t i a) ≡ take i t ++ a = ap (take n) split ∙ take_at (take i t ++ a) (drop n t) n front in
      rw (first, rest) (append_assoc (take i t) a (b ++ drop (i + length (a ++ b)) t) ∙ ap (λ (l : List ℕ). take i t ++ l) (sym (append_assoc a b (drop (i + length (a ++ b)) t))))

module _ (n : ℕ) (w : List ℕ) where
  -- a text behind those written
  pub padded_paste : (s : List ℕ) → length w + length s ≤ n → paste (padded n w) (length w) s ≡ padded n (w ++ s)
  unfolding paste padded
  padded_paste s h =
      let z : List ℕ = replicate (n - length w) 0 in
      let m : n - length w - length s ≡ n - length (w ++ s) = omega (arith, length-append w s) in
      let rest : drop (length w + length s) (w ++ z) ≡ replicate (n - length (w ++ s)) 0 =
      sym (drop-drop (length s) (length w) (w ++ z)) ∙ ap (drop (length s)) (drop_at w z (length w) refl) ∙ drop_zeros (length s) (n - length w) ∙ rw m in
      rw (take_at w z (length w) refl, rest) (sym (append_assoc w s (replicate (n - length (w ++ s)) 0)))
