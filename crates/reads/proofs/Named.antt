-- A place that is visited at a value's number changes the table at that value alone. So a table of zeros, raised at the number of each value that is
-- read, says how often it is; and marked there, it says whether it is, or where it is last.
use mathlib.Core.Path.{◌≡◌, refl, sym, ap, ◌∙◌}
use mathlib.Core.Bool.{Bool, true, false, cond, ◌||◌}
use mathlib.Core.List.{List, [], ◌∷◌, map}
use Prim.Native.Nat.{ℕ, suc, ◌+◌, ◌≤◌, ◌<◌}
use native.Mathlib.Omega.{arith}
use lib.ListN.{length, get_or, set}
use mir.Syntax.{w8}
use mir.Val.{Fits}
use borrow.Author.Tests.{lt-ltb}
use Rattle.definition.specs.Lists.{count, any, at}
use Rattle.definition.specs.Contents.{place}
use Rattle.definition.specs.Shape.{owned}
use Rattle.definition.specs.Values.{Value, eqv, within}
use Rattle.definition.proofs.Bools.{by_test}
use Rattle.definition.proofs.ListLaws.{Each, end, ◌▸◌}
use Rattle.words.proofs.Laws.{word_small}
use Rattle.definition.proofs.Equal.{eqv_true}
use Rattle.places.specs.Keys.{expr_key, places_of}
use Rattle.values.specs.Tables.{numbered, table}
use Rattle.values.proofs.Tables.{table_read, table_write, table_same, eqv_swap, Names}
use Rattle.values.proofs.Placed.{at_expr, expr_here, keyed_length}
use Rattle.uses.specs.Uses.{use_value}
use Rattle.reads.specs.Counts.{raised, placed, visit, slots}
use Rattle.uses.proofs.Trees.{Both, none_left, and_then}
use Rattle.reads.proofs.Nodes.{IsUse}
use Rattle.reads.proofs.Visits.{place_is}

-- s is the number of a place that names v, among the first n
pub record StandsFor (f : List ℕ) (n s : ℕ) (v : Value) : Type 0 where
  pub spot : ℕ
  pub by : Names f n spot v
  pub number : s ≡ at (numbered f n) spot

module _ (f : List ℕ) (n : ℕ) where
  -- ---- one visit
  placed_table : (g : Value → ℕ) (s x : ℕ) (v : Value) → StandsFor f n s v → placed x (table f n g) s ≡ table f n (λ w. cond (eqv v w) x (g w))
  unfolding placed
  placed_table g s x v k = rw k.number (table_write f n g k.spot v k.by x)

  raised_table : (g : Value → ℕ) (s : ℕ) (v : Value) → StandsFor f n s v → g v < 4294967295 → raised (table f n g) s ≡ table f n (λ w. cond (eqv v w) (g v + 1) (g w))
  unfolding raised
  raised_table g s v k h =
      let e : at (table f n g) s ≡ g v = ap (at (table f n g)) k.number ∙ table_read f n g k.spot v k.by in
      let p = placed_table g s (g v + 1) v k in
      rw (e, lt-ltb (g v) 4294967295 h) (place_is (table f n g) (set (table f n g) s (g v + 1)) s (g v + 1) refl ∙ p)

  -- ---- all of them
  one_more : (g : Value → ℕ) (v w : Value) (vs : List Value) → cond (eqv v w) (g v + 1) (g w) + count (eqv w) vs ≡ g w + count (eqv w) (v ∷ vs)
  unfolding count
  one_more g v w vs =
      by_test (eqv v w)
      (λ e. rw (e, sym (eqv_swap v w) ∙ e) (omega (arith, ap g (eqv_true v w e))))
      (λ e. rw (e, sym (eqv_swap v w) ∙ e))

  still_fits : (g : Value → ℕ) (v w : Value) (m : ℕ) → g v + suc m ≤ 4294967295 → g w + suc m ≤ 4294967295 → cond (eqv v w) (g v + 1) (g w) + m ≤ 4294967295
  still_fits g v w m h k = by_test (eqv v w) (λ e. rw e (omega arith)) (λ e. rw e (omega arith))

  pub raise_all : {ss : List ℕ} {vs : List Value} → Both (StandsFor f n) ss vs → (g : Value → ℕ) → ((w : Value) → g w + length vs ≤ 4294967295)
      → visit raised (table f n g) ss ≡ table f n (λ w. g w + count (eqv w) vs)
  unfolding visit count
  raise_all none_left g h = table_same f n g (λ w. g w + 0) (λ w. omega arith)
  raise_all (and_then {x = s} {y = v} {xs = ss} {ys = vs} k r) g h =
      let g' : Value → ℕ = λ w. cond (eqv v w) (g v + 1) (g w) in
      ap (λ (l : List ℕ). visit raised l ss) (raised_table g s v k (omega (arith, h v)))
      ∙ raise_all r g' (λ w. still_fits g v w (length vs) (h v) (h w))
      ∙ table_same f n (λ w. g' w + count (eqv w) vs) (λ w. g w + count (eqv w) (v ∷ vs)) (λ w. one_more g v w vs)

  either : (x y : ℕ) (v w : Value) (vs : List Value) → cond (within w vs) x (cond (eqv v w) x y) ≡ cond (within w (v ∷ vs)) x y
  unfolding within any
  either x y v w vs = rw (eqv_swap v w) (go (any (eqv w) vs) (eqv w v))
    where
      go : (a b : Bool) → cond a x (cond b x y) ≡ cond (b || a) x y
      go true true = refl
      go true false = refl
      go false true = refl
      go false false = refl

  none_within : (x y : ℕ) (w : Value) → y ≡ cond (within w []) x y
  unfolding within any
  none_within x y w = refl

  pub mark_all : {ss : List ℕ} {vs : List Value} → Both (StandsFor f n) ss vs → (x : ℕ) (g : Value → ℕ)
      → visit (placed x) (table f n g) ss ≡ table f n (λ w. cond (within w vs) x (g w))
  unfolding visit
  mark_all none_left x g = table_same f n g (λ w. cond (within w []) x (g w)) (λ w. none_within x (g w) w)
  mark_all (and_then {x = s} {y = v} {xs = ss} {ys = vs} k r) x g =
      ap (λ (l : List ℕ). visit (placed x) l ss) (placed_table g s x v k)
      ∙ mark_all r x (λ w. cond (eqv v w) x (g w))
      ∙ table_same f n (λ w. cond (within w vs) x (cond (eqv v w) x (g w))) (λ w. cond (within w (v ∷ vs)) x (g w)) (λ w. either x (g w) v w vs)

-- ---- the Use nodes name their values
module _ (f : List ℕ) (n : ℕ) (own : owned f ≡ true) (room : (places_of f).total ≤ n) (bytes : (k : ℕ) → Fits w8 (get_or f k 0)) where
  pub use_named : (m : ℕ) → IsUse f m → StandsFor f n (at (numbered f n) ((places_of f).exprs + m)) (use_value f m)
  unfolding use_value expr_key
  use_named m u = record {
    spot = (places_of f).exprs + m;
    by = record {
      here = omega (arith, keyed_length f n own room, expr_here f m u.1);
      is = at_expr f n own m u.1 ∙ rw u.0;
      small = word_small f bytes (place f 6 5 m 2);
    };
    number = refl;
  }

  pub uses_named : {ns : List ℕ} → Each (IsUse f) ns → Both (StandsFor f n) (slots (numbered f n) (places_of f).exprs ns) (map (use_value f) ns)
  unfolding slots
  uses_named end = none_left
  uses_named (◌▸◌ {x = m} u h) = and_then (use_named m u) (uses_named h)
