-- The loops that visit places: a run of visits goes on where it stopped. The Use nodes of a statement stand in the list of all from its start on.
use mathlib.Core.Path.{◌≡◌, refl, sym, ap, ◌∙◌}
use mathlib.Core.Bool.{Bool, true, false}
use mathlib.Core.List.{List, [], ◌∷◌, map}
use Prim.Native.Nat.{ℕ, zero, suc, ◌+◌, ◌-◌, ◌≤◌, ◌<◌}
use native.Mathlib.Omega.{arith}
use lib.ListN.{length, get_or, set, replicate}
use mir.Syntax.{w8}
use mir.Val.{Fits}
use borrow.Author.Tests.{lt-ltb, le-ltb}
use Rattle.definition.specs.Edition.{statements}
use Rattle.definition.specs.Lists.{gather, range, sum_below, at}
use Rattle.definition.specs.Contents.{size}
use Rattle.definition.specs.Read.{marked}
use Rattle.definition.specs.Listing.{padded}
use Rattle.definition.proofs.Runs.{each_turn, each_end, lists_turn, lists_end, loop_start}
use Rattle.records.proofs.Below.{sum_turn, sum_part}
use Rattle.records.proofs.Items.{size_small}
use Rattle.places.specs.Keys.{places_of}
use Rattle.values.proofs.Ranges.{at_left, at_below, map_length, gather_length, at_gather}
use Rattle.uses.specs.Uses.{stmt_uses, use_order, use_start, use_starts}
use Rattle.uses.specs.Orders.{Ordered}
use Rattle.reads.specs.Counts.{raised, placed, visit, slots, between, live_uses, Runs}

-- the Use nodes of m live statements from i on
unfoldable pub live_from : List ℕ → ℕ → ℕ → List ℕ
live_from f i m = gather (live_uses f) (range i m)

-- ---- one step
pub raise_in : (l m : List ℕ) (i x : ℕ) → x ≡ at l i → x < 4294967295 → m ≡ set l i (x + 1) → m ≡ raised l i
unfolding raised
raise_in l m i x e h p = p ∙ rw (← e, lt-ltb x 4294967295 h)

pub raise_full : (l : List ℕ) (i x : ℕ) → x ≡ at l i → 4294967295 ≤ x → l ≡ raised l i
unfolding raised
raise_full l i x e h = rw (← e, le-ltb x 4294967295 h)

pub place_is : (l m : List ℕ) (i x : ℕ) → m ≡ set l i x → m ≡ placed x l i
unfolding placed
place_is l m i x e = e

-- ---- where places begin
module _ (f : List ℕ) (bytes : (k : ℕ) → Fits w8 (get_or f k 0)) (base : ℕ) where
  pub exprs_low : base ≡ (places_of f).exprs → base < 34359738368
  unfolding places_of
  exprs_low e = omega (arith, size_small f bytes 0, size_small f bytes 2, size_small f bytes 3, size_small f bytes 4, size_small f bytes 5)

  pub inputs_low : base ≡ (places_of f).inputs → base < 34359738368
  unfolding places_of
  inputs_low e = omega (arith, size_small f bytes 0, size_small f bytes 2)

-- ---- the nodes of a statement in the list of all
entries_are : (l order : List ℕ) (a n : ℕ) → length l ≡ n → ((j : ℕ) → j < n → at order (a + j) ≡ at l j) → map (at order) (range a n) ≡ l
unfolding range at
entries_are [] order a zero e h = refl
entries_are [] order a (suc n) e h = absurd (omega arith)
entries_are (x ∷ l) order a zero e h = absurd (omega arith)
entries_are (x ∷ l) order a (suc n) e h =
    let p : a + 0 ≡ a = omega arith in
    let q : at order a ≡ x = rw p at (h 0 (omega arith)) in
    rw (
      q,
      entries_are l order (a + 1) n (omega arith) (λ j k.
          let s : a + suc j ≡ a + 1 + j = omega arith in
          rw s at (h (suc j) (omega arith))),
    )

pub start_at_lem : (f starts : List ℕ) (m i : ℕ) → starts ≡ padded m (use_starts f) → i ≤ size f statements → at starts i ≡ use_start f i
unfolding padded use_starts
start_at_lem f starts m i e h =
    let k : i < suc (size f statements) = omega arith in
    let b : i < length (map (use_start f) (range 0 (suc (size f statements)))) = omega (arith, map_length (use_start f) 0 (suc (size f statements))) in
    ap (λ (l : List ℕ). at l i) e
    ∙ at_left (map (use_start f) (range 0 (suc (size f statements)))) (replicate (m - length (map (use_start f) (range 0 (suc (size f statements))))) 0) i b
    ∙ at_below (use_start f) (suc (size f statements)) i k

-- node j of statement i
pub node_at : (f order : List ℕ) (m i j : ℕ) → order ≡ padded m (use_order f) → i < size f statements → j < length (stmt_uses f i) → at order (use_start f i + j) ≡ at (stmt_uses f i) j
unfolding padded use_order use_start
node_at f order m i j e h k =
    let g = stmt_uses f in
    let n = size f statements in
    let b : sum_below i (λ (x : ℕ). length (g x)) + j < length (gather g (range 0 n)) =
    omega (arith, gather_length g n, sum_part (λ (x : ℕ). length (g x)) {i = i} n h refl refl) in
    ap (λ (l : List ℕ). at l (sum_below i (λ (x : ℕ). length (g x)) + j)) e
    ∙ at_left (gather g (range 0 n)) (replicate (m - length (gather g (range 0 n))) 0) (sum_below i (λ (x : ℕ). length (g x)) + j) b
    ∙ at_gather g n i j h k

start_next : (f : List ℕ) (i : ℕ) → use_start f (i + 1) ≡ use_start f i + length (stmt_uses f i)
unfolding use_start
start_next f i = sym (sum_turn (λ (x : ℕ). length (stmt_uses f x)) {i = i} refl refl)

-- all of its nodes
pub stmt_run : (f order starts : List ℕ) (i a b : ℕ) → Runs f order starts → i < size f statements → a ≡ at starts i → b ≡ at starts (i + 1) → between order a b ≡ stmt_uses f i
unfolding between
stmt_run f order starts i a b r h p q =
    let s : a ≡ use_start f i = p ∙ start_at_lem f starts (length starts) i r.begins (omega arith) in
    let e : b ≡ use_start f (i + 1) = q ∙ start_at_lem f starts (length starts) (i + 1) r.begins (omega arith) in
    let n : b - a ≡ length (stmt_uses f i) = omega (arith, start_next f i) in
    rw (n, s) (entries_are (stmt_uses f i) order (use_start f i) (length (stmt_uses f i)) refl (λ j k. node_at f order (length order) i j r.nodes h k))

-- what `order` leaves is what the others ask for
pub ordered_runs : (f order₀ starts₀ order starts : List ℕ) → Ordered f (length order₀) (length starts₀) order starts → length order ≡ length order₀ → length starts ≡ length starts₀
    → suc (size f statements) ≤ length starts₀ → Runs f order starts
ordered_runs f order₀ starts₀ order starts o p q h = record {
  nodes = o.nodes ∙ ap (λ (n : ℕ). padded n (use_order f)) (sym p);
  begins = o.begins ∙ ap (λ (n : ℕ). padded n (use_starts f)) (sym q);
  long = omega arith;
}

-- ---- runs of steps, at places and at the numbers of nodes
module _ (step : List ℕ → ℕ → List ℕ) where
  visit_none : (l : List ℕ) → visit step l [] ≡ l
  unfolding visit
  visit_none l = refl

  visit_next : (l : List ℕ) (i : ℕ) (is : List ℕ) → visit step l (i ∷ is) ≡ visit step (step l i) is
  unfolding visit
  visit_next l i is = refl

  module _ (numbers : List ℕ) (base : ℕ) where
    abbrev nodes : List ℕ → List ℕ → List ℕ
    nodes l ns = visit step l (slots numbers base ns)

    abbrev node : List ℕ → ℕ → List ℕ
    node l n = step l (at numbers (base + n))

    nodes_none : (l : List ℕ) → nodes l [] ≡ l
    unfolding visit slots
    nodes_none l = refl

    nodes_next : (l : List ℕ) (n : ℕ) (ns : List ℕ) → nodes l (n ∷ ns) ≡ nodes (node l n) ns
    unfolding visit slots
    nodes_next l n ns = refl

  -- the nodes from j to b
  pub run_turn : (numbers order : List ℕ) (base j b n x : ℕ) (t u : List ℕ) → j < b → n ≡ at order j → x ≡ at numbers (base + n) → u ≡ step t x
      → visit step t (slots numbers base (between order j b)) ≡ visit step u (slots numbers base (between order (j + 1) b))
  unfolding between
  run_turn numbers order base j b n x t u h e p q =
      each_turn (nodes numbers base) (node numbers base) (nodes_none numbers base) (nodes_next numbers base) (at order) t u j b h (rw (q, p, e))

  pub run_end : (numbers order : List ℕ) (base j b : ℕ) (t r : List ℕ) → b ≤ j → r ≡ visit step t (slots numbers base (between order j b)) → t ≡ r
  unfolding between
  run_end numbers order base j b t r = each_end (nodes numbers base) (node numbers base) (nodes_none numbers base) (nodes_next numbers base) (at order) t r j b

  -- statement i, by whether it is dead
  module _ (f numbers : List ℕ) (base i : ℕ) (dead : Bool) (says : dead ≡ marked f i 1) (t : List ℕ) where
    pub visit_dead : dead ≡ true → t ≡ visit step t (slots numbers base (live_uses f i))
    unfolding visit slots live_uses
    visit_dead e = rw (sym says ∙ e)

    pub visit_live : (u order starts : List ℕ) (a b : ℕ) → Runs f order starts → i < size f statements → dead ≡ false → a ≡ at starts i → b ≡ at starts (i + 1)
        → u ≡ visit step t (slots numbers base (between order a b)) → u ≡ visit step t (slots numbers base (live_uses f i))
    unfolding live_uses
    visit_live u order starts a b r h e p q g =
        g ∙ ap (λ (ns : List ℕ). visit step t (slots numbers base ns)) (rw (sym says ∙ e) (stmt_run f order starts i a b r h p q))

  -- the live statements from i on
  module _ (f numbers : List ℕ) (base n : ℕ) where
    pub live_turn : (i : ℕ) (t u : List ℕ) → i < n → u ≡ visit step t (slots numbers base (live_uses f i))
        → visit step t (slots numbers base (live_from f i (n - i))) ≡ visit step u (slots numbers base (live_from f (i + 1) (n - (i + 1))))
    unfolding live_from
    live_turn i t u = lists_turn (nodes numbers base) (node numbers base) (nodes_none numbers base) (nodes_next numbers base) (live_uses f) t u i n

    pub live_end : (i : ℕ) (t r : List ℕ) → n ≤ i → r ≡ visit step t (slots numbers base (live_from f i (n - i))) → t ≡ r
    unfolding live_from
    live_end i t r = lists_end (nodes numbers base) (node numbers base) (nodes_none numbers base) (nodes_next numbers base) (live_uses f) t r i n

    pub live_start : (t : List ℕ) → n ≡ size f statements
        → visit step t (slots numbers base (live_from f 0 (size f statements))) ≡ visit step t (slots numbers base (live_from f 0 (n - 0)))
    live_start t = loop_start (λ (m : ℕ). nodes numbers base t (live_from f 0 m)) n (size f statements)

  -- places one behind the other
  module _ (numbers : List ℕ) (base n k : ℕ) where
    pub row_turn : (x : ℕ) (t u : List ℕ) → k < n → x ≡ at numbers (base + k) → u ≡ step t x
        → visit step t (slots numbers base (range k (n - k))) ≡ visit step u (slots numbers base (range (k + 1) (n - (k + 1))))
    unfolding slots
    row_turn x t u h e p = each_turn (visit step) step visit_none visit_next (λ (i : ℕ). at numbers (base + i)) t u k n h (rw (p, e))

    pub row_end : (t r : List ℕ) → n ≤ k → r ≡ visit step t (slots numbers base (range k (n - k))) → t ≡ r
    unfolding slots
    row_end t r = each_end (visit step) step visit_none visit_next (λ (i : ℕ). at numbers (base + i)) t r k n
