-- First places in chains: a place leads to a lower one, and all places of a chain have keys of one bucket. A place is written as one number more, so that 0 is none.
use Rattle.std.specs.Prelude.{◌≡◌, cond, List, ℕ, zero, suc, ◌+◌, ◌-◌, ◌%◌, ◌≤◌, eqb, ltb, length, replicate}
use Rattle.definition.specs.Lists.{at}
use Rattle.values.specs.Tables.{first_of, number_of, numbers_of}

-- from x on, at most n places: where k stands
unfoldable pub steps : List ℕ → List ℕ → ℕ → ℕ → ℕ → ℕ
steps ks next k zero x = 0
steps ks next k (suc n) x =
    cond (eqb x 0) 0
    (cond (eqb (at ks (x - 1)) k) x
    (cond (ltb (at next (x - 1)) x) (steps ks next k n (at next (x - 1))) 0))

unfoldable pub walked : List ℕ → List ℕ → ℕ → ℕ → ℕ
walked ks next k x = steps ks next k x x

-- the chains of the places below i: each key's first place is found if it is among them
pub record Chained (ks heads next : List ℕ) (i : ℕ) : Type 0 where
  pub finds : (k : ℕ) → (k ≡ 0 → ⊥) → walked ks next k (at heads (k % length heads)) ≡ cond (ltb (first_of ks k) i) (first_of ks k + 1) 0
  pub low : (b : ℕ) → at heads b ≤ i

-- the number of place i, and the chains with it
pub record Numbered (ks : List ℕ) (i r : ℕ) (heads next : List ℕ) : Type 0 where
  pub number : r ≡ number_of ks (at ks i)
  pub chained : Chained ks heads next (i + 1)

-- all numbers, and both tables of the chains left as zeros
pub record Emptied (ks ns heads next : List ℕ) (h n : ℕ) : Type 0 where
  pub numbers : ns ≡ numbers_of ks
  pub no_heads : heads ≡ replicate h 0
  pub no_next : next ≡ replicate n 0
