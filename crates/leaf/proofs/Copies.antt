-- Copying: a turn of the loop and its end. The part of a file that `copy_part` hands over: behind the end there is nothing, and with fewer than n bytes
-- left it is all of them.
use mathlib.Core.Path.{◌≡◌, sym, ap, ◌∙◌}
use mathlib.Core.List.{List, ◌++◌}
use native.Mathlib.Decide.{dec_le}
use native.Mathlib.Numerals.{add-one}
use Prim.Native.Nat.{ℕ, suc, min, ◌+◌, ◌-◌, ◌≤◌, ◌<◌}
use native.Mathlib.Omega.{arith}
use lib.ListN.{length, take, drop, set, get_or, length-drop, drop_of_length-le}
use lib.Seq.{take-suc, drop-cons, set_at, append_snoc, length-take-le, take-length, take_all}
use Rattle.std.proofs.lemmas.List.{take_rest, take_min}
use Rattle.std.specs.Prelude.{Ok}
use Rattle.definition.specs.Words.{part}
use Rattle.leaf.specs.Leaf.{Leaf}
use Rattle.leaf.proofs.Leaves.{leaf_fits}

-- one turn of the loop
pub copy_more : (s d : List ℕ) (i : ℕ) → i < length s → length s ≤ length d
    → set (take i s ++ drop i d) i (get_or s i 0) ≡ take (i + 1) s ++ drop (i + 1) d
copy_more s d i h room =
    let k : i < length d = omega arith in
    let j : i ≤ length s = omega arith in
    rw (add-one, drop-cons d i 0 k, take-suc s i 0 h, set_at (take i s) (get_or d i 0) (drop (suc i) d) (get_or s i 0) i (length-take-le i s j), append_snoc)

pub copy_done : (s d e : List ℕ) (i : ℕ) → e ≡ take i s ++ drop i d → i ≤ length s → length s ≤ i → length s ≤ length d → Leaf s d (Ok i) e
copy_done s d e i p h g room =
    let z : i ≡ length s = omega arith in
    leaf_fits s d i e z (omega arith) (p ∙ rw (z, take-length))

drop_min : (f : List ℕ) (at : ℕ) → drop (min at (length f)) f ≡ drop at f
drop_min f at = go (dec_le at (length f))
  where
    go : Dec (at ≤ length f) → drop (min at (length f)) f ≡ drop at f
    go (yes h) = let e : min at (length f) ≡ at = omega arith in rw e
    go (no h) =
        let e : min at (length f) ≡ length f = omega arith in
        let k : length f ≤ at = omega arith in
        let j : length f ≤ length f = omega arith in
        rw (e, drop_of_length-le f k) (drop_of_length-le f j)

pub part_is : (f : List ℕ) (at n from len : ℕ) → from ≡ min at (length f) → len ≡ min n (length (take (length f - from) (drop from f)))
    → take len (take (length f - from) (drop from f)) ≡ part f at n
unfolding part
part_is f at n from len p q = rw (q, take_rest f from, take_min n (drop from f), p, drop_min f at)

-- ---- the same by two places in the file: all that is left, which is less, and a part inside
pub part_rest : (f : List ℕ) (at n : ℕ) → length f - at < n → take (length f - at) (drop at f) ≡ part f at n
unfolding part
part_rest f at n h =
    let k : length (drop at f) ≤ length f - at = omega (arith, length-drop at f) in
    let j : length (drop at f) ≤ n = omega (arith, length-drop at f) in
    take_all (length f - at) (drop at f) k ∙ sym (take_all n (drop at f) j)

pub part_in : (f : List ℕ) (at n : ℕ) → take (at + n - at) (drop at f) ≡ part f at n
unfolding part
part_in f at n = let k : at + n - at ≡ n = omega arith in ap (λ (m : ℕ). take m (drop at f)) k
