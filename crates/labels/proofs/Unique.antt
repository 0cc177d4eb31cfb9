-- Each public contract of this crate says by an equation what comes out, so no second outcome meets it. Where it holds for every edition, one is enough.
use mathlib.Core.Path.{◌≡◌, sym, ◌∙◌}
use mathlib.Core.Bool.{Bool}
use mathlib.Core.List.{List}
use Prim.Native.Nat.{ℕ}
use Rattle.std.specs.Prelude.{Option}
use Rattle.definition.specs.Edition.{edition1}
use Rattle.definition.specs.Lookup.{is_next}
use Rattle.labels.specs.Labels.{block_of, next_at, Labels}

pub block_of_lem : (f : List ℕ) (a : ℕ) (r s : Option ℕ) → r ≡ block_of f a → s ≡ block_of f a → r ≡ s
block_of_lem f a r s p q = p ∙ sym q

pub is_next_lem : (f : List ℕ) (b a : ℕ) (r s : Bool) → r ≡ is_next (next_at f b) a → s ≡ is_next (next_at f b) a → r ≡ s
is_next_lem f b a r s p q = p ∙ sym q

pub labels : (f : List ℕ) (n : ℕ) (t u : List ℕ) → Labels f n t → Labels f n u → t ≡ u
labels f n t u p q = p edition1 ∙ sym (q edition1)
