-- The tests of all expressions that a record names, as tests of their numbers.
use mathlib.Core.Path.{◌≡◌, sym}
use mathlib.Core.List.{List}
use Prim.Native.Nat.{ℕ}
use lib.Dec.{ltb}
use Rattle.definition.specs.Edition.{expressions}
use Rattle.definition.specs.Contents.{size}
use Rattle.definition.specs.Lists.{all_below}
use Rattle.definition.specs.Owners.{first_item}
use Rattle.definition.specs.References.{children_lower, roots_inside}
use Rattle.defined.proofs.Ranges.{all_map}
use Rattle.mentions.specs.Named.{child_count, child_at, root_count, root_at}
use Rattle.mentions.proofs.Naming.{children_are, roots_are}

pub lower_is : (f : List ℕ) (i n : ℕ) → n ≡ child_count f i → all_below n (λ k. ltb (child_at f i k) i) ≡ children_lower f i
unfolding children_lower
lower_is f i n e = rw (e, children_are f i) (sym (all_map (λ (c : ℕ). ltb c i) (child_at f i) (child_count f i)))

pub inside_is : (f : List ℕ) (i first b n : ℕ) → first ≡ first_item f i → b ≡ size f expressions → n ≡ root_count f i
    → all_below n (λ k. ltb (root_at f i first k) b) ≡ roots_inside f i
unfolding roots_inside
inside_is f i first b n p q e = rw (e, q, roots_are f i first p) (sym (all_map (λ (c : ℕ). ltb c (size f expressions)) (root_at f i first) (root_count f i)))
