-- The position, then the node, falls: as one number, a position counts 2^33, twice as much as there may be nodes.
use mathlib.Core.Path.{◌≡◌}
use Prim.Native.Nat.{ℕ, ◌+◌, ◌*◌, ◌^◌, ◌<◌}
use native.Mathlib.Omega.{arith}
use lib.Arith.{digits_lt}

-- from a node below b to a value, and to what stands around its children
pub falls_value : (q b n t : ℕ) → q + 2 * b ≡ t → n < b → q < t
falls_value q b n t e h = omega arith

pub falls_node : (q b n t : ℕ) → q + 2 * b ≡ t → n < b → q + (2 * n + 1) < t
falls_node q b n t e h = omega arith

-- to its children
pub falls_child : (q n t : ℕ) → q + (2 * n + 1) ≡ t → q + 2 * n < t
falls_child q n t e = omega arith

-- to an earlier position
pub falls_back : (pos k b t : ℕ) → pos * 2 ^ 33 ≡ t → k < pos → b < 4294967296 → k * 2 ^ 33 + 2 * b < t
falls_back pos k b t e h l =
    let p = digits_lt {q = k} {m = pos} {r = 2 * b} {c = 2 ^ 33} h (twice b l) in
    under (pos * 2 ^ 33) _ t e p
  where
    twice : (b : ℕ) → b < 4294967296 → 2 * b < 8589934592
    twice b l = omega arith

    under : (q z t : ℕ) → q ≡ t → z < q → z < t
    under q z t e p = omega arith
