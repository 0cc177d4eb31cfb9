-- Runs of places: what a run and then another places is what both place, one behind the other; so loops over statements and blocks place all.
use mathlib.Core.Path.{◌≡◌, refl, sym, ap, ap₂, ◌∙◌}
use mathlib.Core.Bool.{Bool, true, false, not, cond}
use mathlib.Core.List.{List, [], ◌∷◌, ◌++◌, append-nil}
use Prim.Native.Nat.{ℕ, suc, ◌+◌, ◌-◌, ◌≤◌, ◌<◌}
use native.Mathlib.Omega.{arith}
use lib.ListN.{length, get_or, set, replicate}
use mir.Syntax.{w8}
use mir.Val.{Fits}
use borrow.Author.Tests.{not-true, not-false}
use Rattle.definition.specs.Edition.{Edition, blocks, statements}
use Rattle.definition.specs.Lists.{gather, range, at}
use Rattle.definition.specs.Contents.{size}
use Rattle.definition.specs.Owners.{stmt_field, block_stmts, first_stmt}
use Rattle.definition.specs.Shape.{owned}
use Rattle.definition.specs.Values.{Value, eqv}
use Rattle.records.proofs.Items.{size_small}
use Rattle.records.proofs.Below.{sum_start, sum_turn, sum_le}
use Rattle.records.proofs.Ranges.{gather_append, range_parts}
use Rattle.records.proofs.Parts.{owned_parts}
use Rattle.places.specs.Keys.{places_of}
use Rattle.values.specs.Tables.{table}
use Rattle.values.proofs.Tables.{table_same, table_zero}
use Rattle.values.proofs.Placed.{keyed_length}
use Rattle.later.specs.Search.{later_read, single}
use Rattle.inline.specs.Placing.{Placed, placed_at, placed_in, all_placed, place_in, place_of, Adds, Told}
use Rattle.std.specs.Prelude.{Option, Some, None}
use Rattle.inline.proofs.AtStatement.{target}
use Rattle.inline.proofs.Telling.{singly, writes, passed_over, read_nowhere, read_later_lem}

place_append : (ps qs : List Placed) (v : Value) (n : ℕ) → place_in (ps ++ qs) v n ≡ place_in qs v (place_in ps v n)
unfolding place_in
place_append [] qs v n = refl
place_append (p ∷ ps) qs v n = place_append ps qs v (cond (eqv p.is.of v) (suc p.stmt) n)

-- ---- runs
module _ (f : List ℕ) (n : ℕ) where
  adds_none : (ps : Edition → List Placed) (t : List ℕ) → ((E : Edition) → ps E ≡ []) → Adds f n ps t t
  unfolding Adds place_in
  adds_none ps t none E g e = e ∙ table_same f n g (λ v. place_in (ps E) v (g v)) (λ v. sym (ap (λ (l : List Placed). place_in l v (g v)) (none E)))

  adds_both : (ps qs rs : Edition → List Placed) (t u w : List ℕ) → ((E : Edition) → rs E ≡ ps E ++ qs E) → Adds f n ps t u → Adds f n qs u w → Adds f n rs t w
  unfolding Adds
  adds_both ps qs rs t u w same a b E g e =
      b E (λ v. place_in (ps E) v (g v)) (a E g e)
      ∙ table_same f n (λ v. place_in (qs E) v (place_in (ps E) v (g v))) (λ v. place_in (rs E) v (g v))
      (λ v. sym (ap (λ (l : List Placed). place_in l v (g v)) (same E) ∙ place_append (ps E) (qs E) v (g v)))

  adds_same : (ps qs : Edition → List Placed) (t u : List ℕ) → ((E : Edition) → qs E ≡ ps E) → Adds f n ps t u → Adds f n qs t u
  unfolding Adds
  adds_same ps qs t u same a E g e =
      a E g e ∙ table_same f n (λ v. place_in (ps E) v (g v)) (λ v. place_in (qs E) v (g v)) (λ v. sym (ap (λ (l : List Placed). place_in l v (g v)) (same E)))

-- ---- one statement
module _ (f numbers live phi readers loads places : List ℕ) (told : Told f numbers live phi readers loads) (bytes : (k : ℕ) → Fits w8 (get_or f k 0))
    (i end n : ℕ) (within : (i < end) × (end ≤ size f statements)) (is : n ≡ at numbers ((places_of f).stmts + i))
    (b : Bool) (once : b ≡ single f i (at phi n) (at live n)) where
  inside : i < size f statements
  inside = omega arith

  once_is : single f i (at phi (at numbers ((places_of f).stmts + i))) (at live (at numbers ((places_of f).stmts + i))) ≡ b
  once_is = ap (λ (m : ℕ). single f i (at phi m) (at live m)) (sym is) ∙ sym once

  pub step_over : not b ≡ true → Adds f (length numbers) (λ (E : Edition). placed_at E f end i) places places
  step_over h =
      adds_none f (length numbers) (λ (E : Edition). placed_at E f end i) places
      (λ (E : Edition). passed_over f numbers live phi readers loads told bytes i inside E end (once_is ∙ not-true b h))

  module _ (r : Option ℕ) (later : r ≡ later_read f i end (at readers n) (at loads (stmt_field f i 2))) (so : not b ≡ false) where
    single_is : single f i (at phi (at numbers ((places_of f).stmts + i))) (at live (at numbers ((places_of f).stmts + i))) ≡ true
    single_is = once_is ∙ not-false b so

    later_is : r ≡ later_read f i end (at readers (at numbers ((places_of f).stmts + i))) (at loads (stmt_field f i 2))
    later_is = later ∙ ap (λ (m : ℕ). later_read f i end (at readers m) (at loads (stmt_field f i 2))) is

    pub step_nowhere : r ≡ None → Adds f (length numbers) (λ (E : Edition). placed_at E f end i) places places
    step_nowhere h =
        adds_none f (length numbers) (λ (E : Edition). placed_at E f end i) places
        (λ (E : Edition). read_nowhere f numbers live phi readers loads told bytes i inside E end single_is within.0 within.1 r later_is h)

    pub step_placed : (x : ℕ) (u : List ℕ) → r ≡ Some x → u ≡ set places n (i + 1) → Adds f (length numbers) (λ (E : Edition). placed_at E f end i) places u
    unfolding Adds place_in
    step_placed x u h e E g t =
        let s = singly f numbers live phi readers loads told bytes i inside single_is in
        let p = read_later_lem f numbers live phi readers loads told bytes i inside E end single_is within.0 within.1 r later_is x h in
        let k : i + 1 ≡ suc i = omega arith in
        e ∙ ap₂ (λ (m y : ℕ). set places m y) is k
        ∙ writes f numbers live phi readers loads told bytes i inside s.assigns g places (suc i) t
        ∙ table_same f (length numbers) (λ w. cond (eqv (target f i) w) (suc i) (g w)) (λ v. place_in (placed_at E f end i) v (g v))
        (λ v. sym (ap (λ (l : List Placed). place_in l v (g v)) p))

-- ---- loops
pub gather_last : {A : Type 0} (g : ℕ → List A) (a m : ℕ) → gather g (range a (m + 1)) ≡ gather g (range a m) ++ g (a + m)
unfolding gather range
gather_last {A} g a m =
    ap (gather g) (range_parts a m 1) ∙ gather_append g (range a m) (range (a + m) 1) ∙ ap (λ (l : List A). gather g (range a m) ++ l) (append-nil (g (a + m)))

module _ (f : List ℕ) (n : ℕ) (g : Edition → ℕ → List Placed) (a : ℕ) where
  pub run_start : (t : List ℕ) → Adds f n (λ (E : Edition). gather (g E) (range a (a - a))) t t
  unfolding gather range
  run_start t = adds_none f n (λ (E : Edition). gather (g E) (range a (a - a))) t (λ (E : Edition). let z : a - a ≡ 0 = omega arith in rw z)

  pub run_turn : (i : ℕ) (t u w : List ℕ) → a ≤ i → Adds f n (λ (E : Edition). gather (g E) (range a (i - a))) t u → Adds f n (λ (E : Edition). g E i) u w
      → Adds f n (λ (E : Edition). gather (g E) (range a (i + 1 - a))) t w
  run_turn i t u w h =
      let s : i + 1 - a ≡ i - a + 1 = omega arith in
      let k : a + (i - a) ≡ i = omega arith in
      adds_both f n (λ (E : Edition). gather (g E) (range a (i - a))) (λ (E : Edition). g E i) (λ (E : Edition). gather (g E) (range a (i + 1 - a))) t u w
      (λ (E : Edition). ap (λ (m : ℕ). gather (g E) (range a m)) s ∙ gather_last (g E) a (i - a) ∙ ap (λ (m : ℕ). gather (g E) (range a (i - a)) ++ g E m) k)

  pub run_end : (i m : ℕ) (t u : List ℕ) → i ≤ m → m ≤ i → Adds f n (λ (E : Edition). gather (g E) (range a (i - a))) t u
      → Adds f n (λ (E : Edition). gather (g E) (range a (m - a))) t u
  run_end i m t u le ge =
      let e : m ≡ i = omega arith in
      adds_same f n (λ (E : Edition). gather (g E) (range a (i - a))) (λ (E : Edition). gather (g E) (range a (m - a))) t u
      (λ (E : Edition). ap (λ (k : ℕ). gather (g E) (range a (k - a))) e)

-- ---- blocks, first being where the statements of block b begin, and s how many it has
pub stmts_start : (f : List ℕ) → 0 ≡ first_stmt f 0
unfolding first_stmt
stmts_start f = sum_start (block_stmts f)

module _ (f : List ℕ) (b first s : ℕ) (begins : first ≡ first_stmt f b) (many : s ≡ block_stmts f b) where
  pub stmts_turn : first + s ≡ first_stmt f (b + 1)
  unfolding first_stmt
  stmts_turn = sum_turn (block_stmts f) begins many

  pub block_inside : (n : ℕ) → owned f ≡ true → b < n → n ≡ size f blocks → first + s ≤ size f statements
  unfolding first_stmt
  block_inside n own h e = omega (arith, stmts_turn, (owned_parts f own).all_stmts, sum_le (block_stmts f) (b + 1) (size f blocks) (omega arith))

  pub block_small : (n : ℕ) → ((k : ℕ) → Fits w8 (get_or f k 0)) → owned f ≡ true → b < n → n ≡ size f blocks → first + s < 4294967296
  block_small n bytes own h e = omega (arith, block_inside n own h e, size_small f bytes statements)

  pub block_placed : (n : ℕ) (t u : List ℕ) → Adds f n (λ (E : Edition). gather (placed_at E f (first + s)) (range first (first + s - first))) t u
      → Adds f n (λ (E : Edition). placed_in E f b) t u
  unfolding placed_in
  block_placed n t u =
      let k : first + s - first ≡ s = omega arith in
      adds_same f n (λ (E : Edition). gather (placed_at E f (first + s)) (range first (first + s - first))) (λ (E : Edition). placed_in E f b) t u
      (λ (E : Edition). sym (ap (λ (m : ℕ). gather (placed_at E f (first + s)) (range first m)) k
      ∙ ap₂ (λ (x y : ℕ). gather (placed_at E f (x + y)) (range x y)) begins many))

-- ---- all
pub all_placed_lem : (f numbers live phi readers loads t u : List ℕ) (b n : ℕ) → Told f numbers live phi readers loads → t ≡ replicate (length numbers) 0
    → n ≡ size f blocks → b ≤ n → n ≤ b → Adds f (length numbers) (λ (E : Edition). gather (placed_in E f) (range 0 (b - 0))) t u
    → (E : Edition) → u ≡ table f (length numbers) (place_of E f)
unfolding Adds all_placed place_of
all_placed_lem f numbers live phi readers loads t u b n told zeros m le ge adds E =
    let k : b - 0 ≡ size f blocks = omega arith in
    adds E (λ v. 0) (zeros ∙ sym (table_zero f (length numbers) ∙ ap (λ (l : ℕ). replicate l 0) (keyed_length f (length numbers) told.own told.room)))
    ∙ ap (λ (l : ℕ). table f (length numbers) (λ v. place_in (gather (placed_in E f) (range 0 l)) v 0)) k
