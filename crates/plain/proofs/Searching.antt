-- The search for the variables that an Other sets, return by return: the tests of one value, and a loop that goes on where it stopped.
use mathlib.Core.Path.{◌≡◌, sym, ap, ◌∙◌}
use mathlib.Core.List.{List}
use Prim.Native.Nat.{ℕ, suc, ◌+◌, ◌-◌, ◌≤◌, ◌<◌}
use native.Mathlib.Omega.{arith}
use lib.ListN.{get_or}
use mir.Syntax.{w8}
use mir.Val.{Fits}
use Rattle.definition.specs.Contents.{item_word}
use Rattle.definition.specs.Owners.{expr_items, value_items, first_item}
use Rattle.records.proofs.Items.{size_small}
use Rattle.places.specs.declared.Places.{Places}
use Rattle.places.specs.Keys.{places_of}
use Rattle.plain.specs.declared.sets.Sets.{Sets}
use Rattle.plain.specs.declared.sets.Sets.TheVariants.{Nothing}
use Rattle.plain.specs.Asm.{Tables, with_name, code_at, sets_from}

-- ---- where places begin
module _ (f : List ℕ) (bytes : (k : ℕ) → Fits w8 (get_or f k 0)) (P : Places) (are : P ≡ places_of f) where
  pub stmts_low : P.stmts < 34359738368
  unfolding places_of
  stmts_low = rw are (omega (arith, size_small f bytes 0, size_small f bytes 2, size_small f bytes 3))

  pub items_low : P.items < 34359738368
  unfolding places_of
  items_low = rw are (omega (arith, size_small f bytes 0, size_small f bytes 2, size_small f bytes 3, size_small f bytes 4))

-- ---- the loop
module _ (f : List ℕ) (T : Tables) (base to k : ℕ) (s : Sets) where
  pub sets_turn : (u : Sets) (r c : ℕ) → k < to → c ≡ code_at f T base k → r ≡ item_word f k 0 → u ≡ with_name s r c
      → sets_from f T base k (to - k) s ≡ sets_from f T base (k + 1) (to - (k + 1)) u
  unfolding sets_from
  sets_turn u r c h p q e =
      let n : to - k ≡ suc (to - (k + 1)) = omega arith in
      rw n (ap (sets_from f T base (k + 1) (to - (k + 1))) (sym (e ∙ rw (p, q))))

  pub sets_done : (u : Sets) → to ≤ k → u ≡ sets_from f T base k (to - k) s → s ≡ u
  unfolding sets_from
  sets_done u h e = let n : to - k ≡ 0 = omega arith in sym (e ∙ rw n)

-- of a statement
pub sets_are : (f : List ℕ) (T : Tables) (P : Places) (i first x y : ℕ) (r : Sets) → P ≡ places_of f → first ≡ first_item f i → x ≡ expr_items f i → y ≡ value_items f i
    → r ≡ sets_from f T P.items (first + x) (first + x + y - (first + x)) Nothing
    → r ≡ sets_from f T (places_of f).items (first_item f i + expr_items f i) (value_items f i) Nothing
sets_are f T P i first x y r a b c d e =
    let n : first + x + y - (first + x) ≡ y = omega arith in
    rw (← a, ← b, ← c, ← d) (e ∙ ap (λ (m : ℕ). sets_from f T P.items (first + x) m Nothing) n)
