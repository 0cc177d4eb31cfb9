-- Expressions with `, ` between them, written one by one: what is left to write is the same before a turn and after it; at the end it is nothing.
use mathlib.Core.Path.{◌≡◌, refl, sym, ap, ap₂, ◌∙◌}
use mathlib.Core.Bool.{Bool, true, false}
use mathlib.Core.List.{List, [], ◌∷◌, ◌++◌, map}
use Prim.Native.Nat.{ℕ, suc, min, ◌+◌, ◌-◌, ◌≤◌, ◌<◌}
use native.Mathlib.Decide.{dec_lt}
use native.Mathlib.Omega.{arith}
use lib.Dec.{ltb}
use lib.ListN.{take}
use lib.Seq.{take_all}
use borrow.Author.Tests.{lt-ltb, le-ltb}
use Rattle.definition.specs.Edition.{Edition}
use Rattle.definition.specs.Texts.{txt}
use Rattle.definition.specs.Lists.{gather, range}
use Rattle.definition.specs.Contents.{item_word}
use Rattle.definition.specs.Read.{tree_at, all_trees}
use Rattle.definition.specs.Tokens.{Token, punct}
use Rattle.definition.specs.Render.{e}
use Rattle.definition.specs.Lower.{comma_list}
use Rattle.records.proofs.Editions.{length_range}
use Rattle.records.proofs.Ranges.{shift, take_less, take_map}
use Rattle.room.specs.Room.{Room, emit_all, seen}
use Rattle.room.proofs.Laws.{more, done, pieces_are}
use Rattle.pieces.specs.Spelled.{piece_if}
use Rattle.lowering.specs.Lowered.{lowering_of, expr_of}
use Rattle.lowering.specs.Commas.{arg_of, args_of, trees_of, listed}

-- no pieces
pub none_are : (r : Room) (qs : List Token) → qs ≡ [] → seen r ≡ seen (emit_all r qs)
none_are r qs p = pieces_are r r [] qs (done r) (sym p)

-- ---- list items
pub listed_is : (f : List ℕ) (a n : ℕ) → map (λ k. item_word f (a + k) 0) (range 0 n) ≡ listed f a n
unfolding listed
listed_is f a n =
    let p : a + 0 ≡ a = omega arith in
    shift (λ k. item_word f k 0) a 0 n ∙ ap (λ (m : ℕ). map (λ (k : ℕ). item_word f k 0) (range m n)) p

pub listed_cons : (f : List ℕ) (a n : ℕ) → listed f a (suc n) ≡ item_word f a 0 ∷ listed f (a + 1) n
unfolding listed range
listed_cons f a n = refl

pub listed_none : (f : List ℕ) (a : ℕ) → listed f a 0 ≡ []
unfolding listed range
listed_none f a = refl

-- ---- the first of them
take_range : (c a n : ℕ) → take c (range a n) ≡ range a (min c n)
take_range c a n = go (dec_lt c n)
  where
    go : Dec (c < n) → take c (range a n) ≡ range a (min c n)
    go (yes h) = let p : min c n ≡ c = omega arith in rw p (take_less c a n (omega arith))
    go (no h) = let p : min c n ≡ n = omega arith in rw p (take_all c (range a n) (omega (arith, length_range a n)))

pub take_listed : (E : Edition) (f : List ℕ) (c a n : ℕ) → take c (trees_of E f (listed f a n)) ≡ trees_of E f (listed f a (min c n))
unfolding trees_of listed
take_listed E f c a n =
    let word : ℕ → ℕ = (λ (k : ℕ). item_word f k 0) in
    take_map (tree_at (all_trees E f)) c (map word (range a n))
    ∙ ap (λ (l : List ℕ). map (tree_at (all_trees E f)) l) (take_map word c (range a n) ∙ ap (λ (l : List ℕ). map word l) (take_range c a n))

module _ (E : Edition) (f : List ℕ) where
  -- ---- as the definition has them
  rest_are : (ns : List ℕ) → args_of E f true ns ≡ gather (λ y. punct (txt ", ") ∷ e (lowering_of E f).gen y) (trees_of E f ns)
  unfolding args_of arg_of expr_of piece_if gather trees_of
  rest_are [] = refl
  rest_are (n ∷ ns) =
      ap (λ (l : List Token). punct (txt ", ") ∷ (e (lowering_of E f).gen (tree_at (all_trees E f) n) ++ l)) (rest_are ns)

  pub args_are : (ns : List ℕ) → args_of E f false ns ≡ comma_list (lowering_of E f) (trees_of E f ns)
  unfolding args_of arg_of expr_of piece_if comma_list trees_of
  args_are [] = refl
  args_are (n ∷ ns) = ap (λ (l : List Token). e (lowering_of E f).gen (tree_at (all_trees E f) n) ++ l) (rest_are ns)

  -- ---- one expression
  pub args_turn : (b : Bool) (n : ℕ) (ns : List ℕ) (r₁ r : Room) → seen r₁ ≡ seen (emit_all r (arg_of E f b n))
      → seen (emit_all r (args_of E f b (n ∷ ns))) ≡ seen (emit_all r₁ (args_of E f true ns))
  unfolding args_of
  args_turn b n ns r₁ r h = sym (more (emit_all r₁ (args_of E f true ns)) r₁ r (arg_of E f b n) (args_of E f true ns) h refl)

  pub args_none : (b : Bool) (r : Room) → seen (emit_all r (args_of E f b [])) ≡ seen r
  unfolding args_of
  args_none b r = sym (done r)

  -- ---- list items: k of n are written
  module _ (first n : ℕ) where
    pub items_start : (r : Room) → seen (emit_all r (args_of E f false (listed f first n))) ≡ seen (emit_all r (args_of E f (ltb 0 0) (listed f (first + 0) (n - 0))))
    items_start r =
        let p : first ≡ first + 0 = omega arith in
        let q : n ≡ n - 0 = omega arith in
        ap₂ (λ (a m : ℕ). seen (emit_all r (args_of E f false (listed f a m)))) p q
        ∙ ap (λ (b : Bool). seen (emit_all r (args_of E f b (listed f (first + 0) (n - 0))))) (sym (le-ltb 0 0 (omega arith)))

    pub items_turn : (k x : ℕ) (r₁ r : Room) → k < n → x ≡ item_word f (first + k) 0 → seen r₁ ≡ seen (emit_all r (arg_of E f (ltb 0 k) x))
        → seen (emit_all r (args_of E f (ltb 0 k) (listed f (first + k) (n - k)))) ≡ seen (emit_all r₁ (args_of E f (ltb 0 (k + 1)) (listed f (first + (k + 1)) (n - (k + 1)))))
    items_turn k x r₁ r h w s =
        let p : n - k ≡ suc (n - (k + 1)) = omega arith in
        let q : first + k + 1 ≡ first + (k + 1) = omega arith in
        let z : 0 < k + 1 = omega arith in
        ap (λ (l : List ℕ). seen (emit_all r (args_of E f (ltb 0 k) l)))
        (ap (listed f (first + k)) p ∙ listed_cons f (first + k) (n - (k + 1)) ∙ ap (λ (y : ℕ). y ∷ listed f (first + k + 1) (n - (k + 1))) (sym w))
        ∙ args_turn (ltb 0 k) x (listed f (first + k + 1) (n - (k + 1))) r₁ r s
        ∙ ap₂ (λ (b : Bool) (a : ℕ). seen (emit_all r₁ (args_of E f b (listed f a (n - (k + 1)))))) (sym (lt-ltb 0 (k + 1) z)) q

    pub items_end : (k : ℕ) (r r₀ : Room) → n ≤ k
        → seen (emit_all r₀ (args_of E f false (listed f first n))) ≡ seen (emit_all r (args_of E f (ltb 0 k) (listed f (first + k) (n - k))))
        → seen r ≡ seen (emit_all r₀ (comma_list (lowering_of E f) (map (tree_at (all_trees E f)) (map (λ j. item_word f (first + j) 0) (range 0 n)))))
    unfolding trees_of
    items_end k r r₀ h s =
        let z : n - k ≡ 0 = omega arith in
        sym (s ∙ ap (λ (l : List ℕ). seen (emit_all r (args_of E f (ltb 0 k) l))) (ap (listed f (first + k)) z ∙ listed_none f (first + k)) ∙ args_none (ltb 0 k) r)
        ∙ ap (λ (ps : List Token). seen (emit_all r₀ ps)) (args_are (listed f first n))
        ∙ ap (λ (ns : List ℕ). seen (emit_all r₀ (comma_list (lowering_of E f) (map (tree_at (all_trees E f)) ns)))) (sym (listed_is f first n))
