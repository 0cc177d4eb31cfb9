-- A test that holds at a place is counted, and one that is counted at most once holds at no second place.
use mathlib.Core.Path.{◌≡◌, ap, ◌∙◌}
use mathlib.Core.Bool.{Bool, true}
use mathlib.Core.List.{List}
use Prim.Native.Nat.{ℕ, zero, suc, ◌≤◌, ◌<◌}
use native.Mathlib.Omega.{arith}
use lib.ListN.{length, get_or, take, drop}
use lib.Seq.{split_at, get_or-take, length-take-le}
use Rattle.definition.specs.Lists.{count}
use Rattle.definition.proofs.ListLaws.{Each, ◌▸◌, end, bit, count_at}

pub each_at : {A : Type 0} {P : A → Type 0} {xs : List A} → Each P xs → (i : ℕ) (d : A) → i < length xs → P (get_or xs i d)
each_at end i d h = absurd (omega arith)
each_at (p ▸ e) zero d h = p
each_at (p ▸ e) (suc i) d h = each_at e i d (omega arith)

module _ {A : Type 0} (p : A → Bool) (d : A) where
  pub counted : (xs : List A) (i : ℕ) → i < length xs → p (get_or xs i d) ≡ true → 0 < count p xs
  counted xs i h e =
      omega (arith, ap (count p) (split_at xs i d h), count_at p (take i xs) (get_or xs i d) (drop (suc i) xs), ap bit e)

  pub no_second : (xs : List A) (i j : ℕ) → count p xs ≤ 1 → i < j → j < length xs → p (get_or xs i d) ≡ true → p (get_or xs j d) ≡ true → ⊥
  no_second xs i j c h k e q =
      let n : i < length (take j xs) = omega (arith, length-take-le j xs (omega arith)) in
      let f = counted (take j xs) i n (ap p (get_or-take j xs i d h) ∙ e) in
      omega (arith, ap (count p) (split_at xs j d k), count_at p (take j xs) (get_or xs j d) (drop (suc j) xs), ap bit q)
