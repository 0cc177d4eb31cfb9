-- What a callee that was lent `&mut d[a..]` says of the rest, said of the whole. Assumes nothing.
use mathlib.Core.Path.{◌≡◌, ap, ◌∙◌}
use mathlib.Core.List.{List, ◌++◌, append-nil}
use Prim.Native.Nat.{ℕ, ◌-◌, ◌≤◌}
use native.Mathlib.Omega.{arith}
use lib.ListN.{length, take, drop, length-drop, drop_of_length-le}
use lib.Seq.{take_all}
use borrow.Rule.Slice.PartMut.{put_mid, mid_of}

module _ (d : List ℕ) (a : ℕ) where
  -- the rest that was lent
  pub rest_is : mid_of a (length d - a) d ≡ drop a d
  rest_is = take_all (length d - a) (drop a d) (omega (arith, length-drop a d))

  -- the whole, with the rest as the callee left it
  pub rest_back : (e : List ℕ) → put_mid a (length d - a) d e ≡ take a d ++ e
  rest_back e =
      let n : length (drop a d) ≤ length d - a = omega (arith, length-drop a d) in
      ap (λ (l : List ℕ). take a d ++ (e ++ l)) (drop_of_length-le (drop a d) n) ∙ ap (λ (l : List ℕ). take a d ++ l) (append-nil e)

  pub rest_length : length (mid_of a (length d - a) d) ≡ length d - a
  rest_length = ap length rest_is ∙ length-drop a d
