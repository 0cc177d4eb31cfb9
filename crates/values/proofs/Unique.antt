-- Each public contract of this crate says by equations what comes out, so no second outcome meets it.
use mathlib.Core.Path.{◌≡◌, sym, ◌∙◌}
use mathlib.Core.List.{List}
use Prim.Native.Nat.{ℕ}
use Rattle.places.specs.Keys.{keyed}
use Rattle.values.specs.Chains.{Emptied}

pub keys : (f : List ℕ) (n : ℕ) (t u : List ℕ) → t ≡ keyed f n → u ≡ keyed f n → t ≡ u
keys f n t u p q = p ∙ sym q

pub numbers : (ks ns ms hs gs xs ys : List ℕ) (h n : ℕ) → Emptied ks ns hs xs h n → Emptied ks ms gs ys h n → (ns ≡ ms) × (hs ≡ gs) × (xs ≡ ys)
numbers ks ns ms hs gs xs ys h n p q =
    (p.numbers ∙ sym q.numbers, p.no_heads ∙ sym q.no_heads, p.no_next ∙ sym q.no_next)
