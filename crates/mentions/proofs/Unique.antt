-- Each contract of this crate is an equation for the answer, so no second one meets it.
use mathlib.Core.Path.{◌≡◌, sym, ◌∙◌}
use mathlib.Core.List.{List}
use Prim.Native.Nat.{ℕ}
use Rattle.mentions.specs.Named.{child_count, child_at, root_count, root_at}

pub child_count_lem : (f : List ℕ) (i r s : ℕ) → r ≡ child_count f i → s ≡ child_count f i → r ≡ s
child_count_lem f i r s p q = p ∙ sym q

pub child_at_lem : (f : List ℕ) (i k r s : ℕ) → r ≡ child_at f i k → s ≡ child_at f i k → r ≡ s
child_at_lem f i k r s p q = p ∙ sym q

pub root_count_lem : (f : List ℕ) (i r s : ℕ) → r ≡ root_count f i → s ≡ root_count f i → r ≡ s
root_count_lem f i r s p q = p ∙ sym q

pub root_at_lem : (f : List ℕ) (i first k r s : ℕ) → r ≡ root_at f i first k → s ≡ root_at f i first k → r ≡ s
root_at_lem f i first k r s p q = p ∙ sym q
