-- Each contract of this crate is an equation for the table, or for the roots that it leads to, so no second one meets it: of `union` the classes are
-- determined, and not the links that lead to their roots.
use mathlib.Core.Path.{◌≡◌, sym, ◌∙◌}
use mathlib.Core.List.{List}
use Prim.Native.Nat.{ℕ}
use lib.ListN.{length}
use Rattle.definition.specs.Lists.{range}
use Rattle.unions.specs.Roots.{roots_of, join}

module _ (ks l t u : List ℕ) where
  pub union : (a b : ℕ) → roots_of ks t ≡ join ks (roots_of ks l) a b → roots_of ks u ≡ join ks (roots_of ks l) a b → roots_of ks t ≡ roots_of ks u
  union a b p q = p ∙ sym q

  pub flatten : t ≡ roots_of ks l → u ≡ roots_of ks l → t ≡ u
  flatten p q = p ∙ sym q

pub reset : (l t u : List ℕ) → t ≡ range 0 (length l) → u ≡ range 0 (length l) → t ≡ u
reset l t u p q = p ∙ sym q
