-- Values that are really read at entry are ticked one behind the other: the nodes of a statement, and what the returns come to.
use mathlib.Core.Path.{◌≡◌, refl, sym, ◌∙◌}
use mathlib.Core.Bool.{Bool, true, false, ◌||◌}
use mathlib.Core.List.{List, [], ◌∷◌, map}
use Prim.Native.Nat.{ℕ, ◌+◌, ◌-◌}
use lib.Dec.{eqb}
use lib.ListN.{set}
use Rattle.definition.specs.Lists.{range, at}
use Rattle.definition.specs.Owners.{stmt_kind}
use Rattle.definition.specs.Read.{marked}
use Rattle.places.specs.Keys.{places_of}
use Rattle.reads.specs.Counts.{placed, visit, slots, between}
use Rattle.names.specs.Spots.{use_spot, use_spots, entry_spots, ticked}

module _ (ns : List ℕ) where
  -- ---- the nodes of a statement: what is placed at their numbers
  module _ (f order : List ℕ) where
    placed_are : (ks t : List ℕ) → visit (placed 1) t (slots ns (places_of f).exprs (map (at order) ks)) ≡ ticked ns t (map (λ j. use_spot f (at order j)) ks)
    unfolding visit placed slots ticked use_spot
    placed_are [] t = refl
    placed_are (k ∷ ks) t = placed_are ks (set t (at ns ((places_of f).exprs + at order k)) 1)

    pub tick_run : (t : List ℕ) (from a b : ℕ) → from ≡ (places_of f).exprs
        → visit (placed 1) t (slots ns from (between order a b)) ≡ ticked ns t (map (λ j. use_spot f (at order j)) (range a (b - a)))
    unfolding between
    tick_run t from a b e = rw e (placed_are (range a (b - a)) t)

  -- ---- one statement
  module _ (f t : List ℕ) (i : ℕ) (d : Bool) (is : d ≡ (marked f i 1 || (eqb (stmt_kind f i) 3 || eqb (stmt_kind f i) 4))) where
    pub tick_none : d ≡ true → t ≡ ticked ns t (entry_spots f i)
    unfolding entry_spots ticked
    tick_none h = rw (sym is ∙ h)

    pub tick_some : (r : List ℕ) → d ≡ false → r ≡ ticked ns t (use_spots f i) → r ≡ ticked ns t (entry_spots f i)
    unfolding entry_spots
    tick_some r h e = rw (sym is ∙ h) e
