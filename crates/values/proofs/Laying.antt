-- Keys laid one behind the other: a loop lays what is left of its list, a run of lists is their sum, and all the lists laid into zeros are the table of keys.
use mathlib.Core.Path.{◌≡◌, refl, sym, ap, ◌∙◌}
use mathlib.Core.Bool.{true}
use mathlib.Core.List.{List, [], ◌∷◌, ◌++◌, map}
use Prim.Native.Nat.{ℕ, suc, ◌+◌, ◌-◌, ◌≤◌, ◌<◌}
use native.Mathlib.Decide.{dec_lt}
use native.Mathlib.Omega.{arith}
use lib.ListN.{length, get_or, drop, set, replicate, length-replicate, get_or-replicate}
use lib.Seq.{sets, sets-eq}
use mir.Syntax.{w8}
use mir.Val.{Fits}
use borrow.Author.Tests.{lt-ltb, le-ltb}
use Rattle.definition.specs.Edition.{args, phis, inputs, statements, lists, expressions}
use Rattle.definition.specs.Lists.{gather, range, at}
use Rattle.definition.specs.Contents.{size}
use Rattle.definition.specs.Owners.{expr_items, value_items, items, phi_inputs, first_input, first_item}
use Rattle.definition.specs.Shape.{owned}
use Rattle.definition.specs.Listing.{padded}
use Rattle.records.proofs.Items.{size_small}
use Rattle.records.proofs.Below.{sum_part}
use Rattle.records.proofs.Padded.{drop_zeros}
use Rattle.records.proofs.Parts.{owned_parts}
use Rattle.places.specs.declared.Places.{Places}
use Rattle.places.specs.Keys.{input_key, item_key, input_keys, item_keys, keys_of, places_of, keyed}
use Rattle.places.specs.Laid.{laid, key_at, item_at}
use Rattle.values.proofs.Ranges.{at_left, at_right, map_length, at_map, at_below}
use Rattle.values.proofs.Tables.{same_at}
use Rattle.values.proofs.Placed.{arg_list, phi_list, input_list, stmt_list, item_list, expr_list, before_inputs, before_stmts, before_items, before_exprs, args_long, inputs_at, stmts_at, items_at, exprs_at, keys_parts, places_length, items_length}

-- ---- one list behind another
laid_append : (xs ys t : List ℕ) (p : ℕ) → laid t p (xs ++ ys) ≡ laid (laid t p xs) (p + length xs) ys
unfolding laid
laid_append [] ys t p = let q : p + 0 ≡ p = omega arith in rw q
laid_append (x ∷ xs) ys t p =
    let q : p + suc (length xs) ≡ suc p + length xs = omega arith in
    laid_append xs ys (set t p x) (suc p) ∙ ap (λ (n : ℕ). sets (sets (set t p x) (suc p) xs) n ys) (sym q)

-- ---- the loop over one list: what is left of it
module _ (g : ℕ → ℕ) (n a p : ℕ) where
  pub lay_start : (m : ℕ) (t : List ℕ) → n ≡ m → laid t p (map g (range a m)) ≡ laid t (p + 0) (map g (range (a + 0) (n - 0)))
  lay_start m t e =
      let s : n - 0 ≡ m = omega arith in
      let q : p + 0 ≡ p = omega arith in
      let r : a + 0 ≡ a = omega arith in
      rw (s, q, r)

  pub lay_turn : (i k x : ℕ) (t u : List ℕ) → i < n → k ≡ a + i → x ≡ g k → u ≡ set t (p + i) x
      → laid t (p + i) (map g (range (a + i) (n - i))) ≡ laid u (p + (i + 1)) (map g (range (a + (i + 1)) (n - (i + 1))))
  unfolding laid range
  lay_turn i k x t u h e is put =
      let s : n - i ≡ suc (n - (i + 1)) = omega arith in
      let q : a + (i + 1) ≡ a + i + 1 = omega arith in
      let r : p + (i + 1) ≡ suc (p + i) = omega arith in
      rw (s, q, r, put, is, e)

  pub lay_end : (i : ℕ) (t u : List ℕ) → n ≤ i → u ≡ laid t (p + i) (map g (range (a + i) (n - i))) → t ≡ u
  unfolding laid range
  lay_end i t u h e = let s : n - i ≡ 0 = omega arith in sym (e ∙ rw s)

-- ---- the loop over the owners
module _ (g : ℕ → List ℕ) (n p : ℕ) where
  pub runs_start : (m : ℕ) (t : List ℕ) → n ≡ m → laid t p (gather g (range 0 m)) ≡ laid t (p + 0) (gather g (range 0 (n - 0)))
  runs_start m t e =
      let s : n - 0 ≡ m = omega arith in
      let q : p + 0 ≡ p = omega arith in
      rw (s, q)

  pub runs_turn : (i a b k : ℕ) (t u : List ℕ) → i < n → u ≡ laid t (p + a) (g i) → k ≡ length (g i) → b ≡ a + k
      → laid t (p + a) (gather g (range i (n - i))) ≡ laid u (p + b) (gather g (range (i + 1) (n - (i + 1))))
  unfolding gather range
  runs_turn i a b k t u h e len sum =
      let s : n - i ≡ suc (n - (i + 1)) = omega arith in
      let q : p + b ≡ p + a + length (g i) = omega arith in
      rw (s, q, e) (laid_append (g i) (gather g (range (i + 1) (n - (i + 1)))) t (p + a))

  pub runs_end : (i a : ℕ) (t u : List ℕ) → n ≤ i → u ≡ laid t (p + a) (gather g (range i (n - i))) → t ≡ u
  unfolding laid gather range
  runs_end i a t u h e = let s : n - i ≡ 0 = omega arith in sym (e ∙ rw s)

-- ---- the items of a statement, one test for each
item : (f : List ℕ) (i j : ℕ) → j < items f i → Dec (j < expr_items f i) → at (item_keys f i) j ≡ item_at f i j
unfolding item_keys item_at items at
item f i j h (yes k) =
    let values = map (item_key f) (range (first_item f i + expr_items f i) (value_items f i)) in
    rw (lt-ltb j (expr_items f i) k)
    (at_left (replicate (expr_items f i) 0) values j (omega (arith, length-replicate {A = ℕ} (expr_items f i) 0)) ∙ get_or-replicate (expr_items f i) j 0 0 k)
item f i j h (no k) =
    let values = map (item_key f) (range (first_item f i + expr_items f i) (value_items f i)) in
    let p : j ≡ expr_items f i + (j - expr_items f i) = omega arith in
    let q : first_item f i + expr_items f i + (j - expr_items f i) ≡ first_item f i + j = omega arith in
    rw (le-ltb j (expr_items f i) (omega arith))
    (ap (at (item_keys f i)) p
    ∙ at_right (replicate (expr_items f i) 0) values (expr_items f i) (j - expr_items f i) (length-replicate (expr_items f i) 0)
    ∙ at_map (item_key f) (first_item f i + expr_items f i) (value_items f i) (j - expr_items f i) (omega arith) ∙ ap (item_key f) q)

items_are : (f : List ℕ) (i : ℕ) → item_keys f i ≡ map (item_at f i) (range 0 (items f i))
items_are f i =
    same_at (item_keys f i) (map (item_at f i) (range 0 (items f i))) (items_length f i ∙ sym (map_length (item_at f i) 0 (items f i)))
    (λ j b.
    let h : j < items f i = omega (arith, items_length f i) in
    item f i j h (dec_lt j (expr_items f i)) ∙ sym (at_below (item_at f i) (items f i) j h))

pub stmt_start : (f : List ℕ) (i n p : ℕ) (t : List ℕ) → n ≡ items f i → laid t p (item_keys f i) ≡ laid t (p + 0) (map (item_at f i) (range (0 + 0) (n - 0)))
stmt_start f i n p t e = ap (laid t p) (items_are f i) ∙ lay_start (item_at f i) n 0 p (items f i) t e

pub phi_start : (f : List ℕ) (i n first p : ℕ) (t : List ℕ) → first ≡ first_input f i → n ≡ phi_inputs f i
    → laid t p (input_keys f i) ≡ laid t (p + 0) (map (input_key f i) (range (first + 0) (n - 0)))
unfolding input_keys
phi_start f i n first p t e h = rw (← e) (lay_start (input_key f i) n first p (phi_inputs f i) t h)

-- ---- all the lists, laid into zeros
laid_padded : (n : ℕ) (xs : List ℕ) → length xs ≤ n → laid (replicate n 0) 0 xs ≡ padded n xs
unfolding laid padded
laid_padded n xs h =
    let e : 0 + length xs ≡ length xs = omega arith in
    sets-eq xs (replicate n 0) 0 (omega (arith, length-replicate {A = ℕ} n 0))
    ∙ ap (λ (k : ℕ). xs ++ drop k (replicate n 0)) e ∙ ap (λ (l : List ℕ). xs ++ l) (drop_zeros (length xs) n)

also_laid : (t u v xs ys : List ℕ) (n : ℕ) → u ≡ laid t 0 xs → length xs ≡ n → v ≡ laid u n ys → v ≡ laid t 0 (xs ++ ys)
also_laid t u v xs ys n p e q =
    let z : 0 + length xs ≡ n = omega arith in
    q ∙ ap (λ (l : List ℕ). laid l n ys) p ∙ ap (λ (m : ℕ). laid (laid t 0 xs) m ys) (sym z) ∙ sym (laid_append xs ys t 0)

module _ (f : List ℕ) (own : owned f ≡ true) (p : Places) (is : p ≡ places_of f) where
  pub keys_all : (t a b c d e u : List ℕ) → t ≡ replicate (length t) 0 → (places_of f).total ≤ length t
      → a ≡ laid t 0 (map (key_at f args) (range 0 (size f args))) → b ≡ laid a p.phis (map (key_at f phis) (range 0 (size f phis)))
      → c ≡ laid b p.inputs (input_list f) → d ≡ laid c p.stmts (map (key_at f statements) (range 0 (size f statements)))
      → e ≡ laid d p.items (item_list f) → u ≡ laid e p.exprs (map (key_at f expressions) (range 0 (size f expressions)))
      → u ≡ keyed f (length t)
  unfolding key_at places_of keyed
  keys_all t a b c d e u zeros room ha hb hc hd he hu =
      let two = also_laid t a b (arg_list f) (phi_list f) p.phis ha (args_long f ∙ ap (λ (q : Places). q.phis) (sym is)) hb in
      let three = also_laid t b c (before_inputs f) (input_list f) p.inputs two (inputs_at f ∙ ap (λ (q : Places). q.inputs) (sym is)) hc in
      let four = also_laid t c d (before_stmts f) (stmt_list f) p.stmts three (stmts_at f own ∙ ap (λ (q : Places). q.stmts) (sym is)) hd in
      let five = also_laid t d e (before_items f) (item_list f) p.items four (items_at f own ∙ ap (λ (q : Places). q.items) (sym is)) he in
      also_laid t e u (before_exprs f) (expr_list f) p.exprs five (exprs_at f own ∙ ap (λ (q : Places). q.exprs) (sym is)) hu
      ∙ ap (laid t 0) (sym (keys_parts f)) ∙ ap (λ (l : List ℕ). laid l 0 (keys_of f)) zeros
      ∙ laid_padded (length t) (keys_of f) (omega (arith, places_length f own))

-- ---- bounds
-- where all phis have few inputs, so has each
pub inputs_fit : (f : List ℕ) (i : ℕ) {n first : ℕ} → first_input f (size f phis) < 4294967296 → n ≡ size f phis → i < n → first ≡ first_input f i
    → first + phi_inputs f i < 4294967296
unfolding first_input
inputs_fit f i few count here is = omega (arith, sum_part (phi_inputs f) (size f phis) (omega arith) is refl)

-- of bytes: no place is far, and there are few inputs
module _ (f : List ℕ) (bytes : (k : ℕ) → Fits w8 (get_or f k 0)) where
  pub places_near : (p : Places) → p ≡ places_of f
      → (p.phis < 34359738368) × (p.inputs < 17179869184) × (p.stmts < 34359738368) × (p.items < 17179869184) × (p.exprs < 34359738368)
  unfolding places_of
  places_near p is =
      let a = size_small f bytes args in
      let b = size_small f bytes phis in
      let c = size_small f bytes inputs in
      let d = size_small f bytes statements in
      let e = size_small f bytes lists in
      rw is (omega arith, omega arith, omega arith, omega arith, omega arith)

  pub inputs_few : owned f ≡ true → first_input f (size f phis) < 4294967296
  inputs_few own = omega (arith, (owned_parts f own).all_inputs, size_small f bytes inputs)
