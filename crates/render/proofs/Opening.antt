-- The values written in place are opened one after the other, in the order of their statements, each rendered where those before it are open. As the
-- numbers of the statements rise, those open at a value's own statement are those opened before it, and later ones change nothing of what is open.
use mathlib.Core.Path.{◌≡◌, refl, sym, ap, ◌∙◌}
use mathlib.Core.Bool.{Bool, true, false, cond, false≢true}
use mathlib.Core.Option.{Option, none, some}
use mathlib.Core.List.{List, [], ◌∷◌, ◌++◌, map}
use Prim.Native.Nat.{ℕ, suc, ◌-◌, ◌≤◌, ◌<◌}
use native.Mathlib.Omega.{arith}
use native.Mathlib.Decide.{dec_lt}
use lib.Dec.{eqb, ltb, eqb-suc-zero}
use borrow.Author.Tests.{lt-ltb, le-ltb, le-leb, leb-true, eqb-false, not-true}
use Rattle.definition.specs.Edition.{Edition, statements}
use Rattle.definition.specs.Lists.{only}
use Rattle.definition.specs.Contents.{size}
use Rattle.definition.specs.Owners.{stmt_field}
use Rattle.definition.specs.Shape.{owned}
use Rattle.definition.specs.Values.{Value, eqv}
use Rattle.definition.specs.Meaning.{bits, defined_once}
use Rattle.definition.specs.Ssa.{Expr}
use Rattle.definition.specs.Read.{tree_at, all_trees, read}
use Rattle.definition.specs.Offsets.{offsets}
use Rattle.definition.specs.Classes.{classes}
use Rattle.definition.specs.Inline.{InPlace, reads_of, inline, in_place}
use Rattle.definition.specs.Names.{naming}
use Rattle.definition.specs.Tokens.{Token}
use Rattle.definition.specs.Render.{Opened, Gen, opened_at, expr, open_next, open_all}
use Rattle.definition.specs.Blocks.{lowering}
use Rattle.definition.proofs.Bools.{by_test, or_cases, both_true, both_false, none_some}
use Rattle.definition.proofs.ListLaws.{Each, end, ◌▸◌, each_to, only_each}
use Rattle.definition.proofs.Equal.{eqv_true}
use Rattle.inline.specs.Placing.{Placed, all_placed, place_of}
use Rattle.inline.proofs.Forgetting.{stand, forgotten, in_place_lem}
use Rattle.inline.proofs.Rising.{Rising, rises, places_inside}
use Rattle.inline.proofs.Apart.{each_own}
use Rattle.render.specs.Gens.{bare, gen_at, rendered}
use Rattle.render.specs.Forms.{opens}

-- ---- places, which are 0 or 1 and a statement's number
pub record Before (k pos : ℕ) : Type 0 where
  pub some : 0 < k
  pub within : k ≤ pos

pub open_before : (k pos : ℕ) → opens k pos ≡ true → Before k pos
unfolding opens
open_before k pos e =
    let q = both_true _ _ e in
    let n = eqb-false k 0 (not-true (eqb k 0) q.0) in
    record { some = omega (arith, n); within = leb-true k pos q.1 }

-- those of the statements before pos
abbrev early : ℕ → List Placed → List Placed
early pos ps = only (λ p. ltb p.stmt pos) ps

abbrev shown : ℕ → List Placed → List InPlace
shown pos ps = map (λ p. p.is) (early pos ps)

-- ---- what opening one value keeps, opening all keeps
pub kept : {A : Type 0} (g : Gen → A) → ((G : Gen) (p : InPlace) → g (open_next G p) ≡ g G) → (G : Gen) (ps : List InPlace) → g (open_all G ps) ≡ g G
unfolding open_all
kept g h G [] = refl
kept g h G (p ∷ ps) = kept g h (open_next G p) ps ∙ h G p

module _ (E : Edition) (f : List ℕ) (pos : ℕ) where
  pub gen_bits : (gen_at E f pos).bits ≡ bits f
  unfolding gen_at bare read open_next
  gen_bits = kept (λ G. G.bits) (λ G p. refl) (bare E f) (shown pos (all_placed E f))

  pub gen_supplied : (gen_at E f pos).supplied ≡ (read E f).names
  unfolding gen_at bare open_next
  gen_supplied = kept (λ G. G.supplied) (λ G p. refl) (bare E f) (shown pos (all_placed E f))

  pub gen_offsets : (gen_at E f pos).offsets ≡ offsets (read E f)
  unfolding gen_at bare open_next
  gen_offsets = kept (λ G. G.offsets) (λ G p. refl) (bare E f) (shown pos (all_placed E f))

  pub gen_names : (gen_at E f pos).names ≡ naming (read E f) (classes (read E f)) (inline (read E f) (reads_of (read E f)))
  unfolding gen_at bare open_next
  gen_names = kept (λ G. G.names) (λ G p. refl) (bare E f) (shown pos (all_placed E f))

-- ---- all statements are before the end
pub gen_all : (E : Edition) (f : List ℕ) → owned f ≡ true → gen_at E f (size f statements) ≡ (lowering (read E f) (offsets (read E f))).gen
unfolding gen_at bare lowering
gen_all E f own =
    ap (λ (l : List InPlace). open_all (bare E f) l)
    (ap (λ (l : List Placed). map (λ p. p.is) l) (only_each (λ p. ltb p.stmt (size f statements)) (each_to (λ p h. lt-ltb p.stmt (size f statements) h) (places_inside E f own))) ∙ forgotten E f)

-- ---- what is open of a value
module _ (top : Bool) (v : Value) where
  abbrev open_in : Gen → Option (List Token)
  open_in G = opened_at G.opened top v

  last_open : (os : List Opened) (o : Opened) → opened_at os top v ≡ none → opened_at (os ++ (o ∷ [])) top v ≡ opened_at (o ∷ []) top v
  unfolding opened_at
  last_open [] o e = refl
  last_open (p ∷ os) o e =
      by_test (eqv p.of v)
      (λ h. none_some (sym (rw h at e)))
      (λ h. rw h (last_open os o (rw h at e)))

  still_open : (os qs : List Opened) (ts : List Token) → opened_at os top v ≡ some ts → opened_at (os ++ qs) top v ≡ some ts
  unfolding opened_at
  still_open [] qs ts e = none_some e
  still_open (p ∷ os) qs ts e =
      by_test (eqv p.of v) (λ h. rw h (rw h at e)) (λ h. rw h (still_open os qs ts (rw h at e)))

  -- one value more
  next_other : (G : Gen) (p : InPlace) → open_in G ≡ none → eqv p.of v ≡ false → open_in (open_next G p) ≡ none
  unfolding open_next opened_at
  next_other G p e h = last_open G.opened _ e ∙ rw h

  next_own : (G : Gen) (p : InPlace) → open_in G ≡ none → eqv p.of v ≡ true → open_in (open_next G p) ≡ some (expr G top p.expr)
  unfolding open_next opened_at
  next_own G p e h = last_open G.opened _ e ∙ rw h (sides top)
    where
      sides : (b : Bool) → some (cond b (expr G true p.expr) (expr G false p.expr)) ≡ some (expr G b p.expr)
      sides true = refl
      sides false = refl

  -- and all
  all_other : (G : Gen) (ps : List InPlace) → open_in G ≡ none → in_place ps v ≡ false → open_in (open_all G ps) ≡ none
  unfolding open_all in_place
  all_other G [] e h = e
  all_other G (p ∷ ps) e h =
      let b = both_false (eqv p.of v) (in_place ps v) h in
      all_other (open_next G p) ps (next_other G p e b.0) b.1

  all_still : (G : Gen) (ps : List InPlace) (ts : List Token) → open_in G ≡ some ts → open_in (open_all G ps) ≡ some ts
  unfolding open_all open_next
  all_still G [] ts e = e
  all_still G (p ∷ ps) ts e = all_still (open_next G p) ps ts (still_open G.opened _ ts e)

  -- ---- the places of v are at statement k, and write x
  record Only (k : ℕ) (x : Expr) (p : Placed) : Type 0 where
    stmt : eqv p.is.of v ≡ true → p.stmt ≡ k
    expr : eqv p.is.of v ≡ true → p.is.expr ≡ x

  -- no place of v is early
  none_early : (pos : ℕ) (ps : List Placed) → Each (λ p. eqv p.is.of v ≡ true → pos ≤ p.stmt) ps → in_place (shown pos ps) v ≡ false
  unfolding only in_place
  none_early pos [] end = refl
  none_early pos (p ∷ ps) (h ▸ hs) =
      let r = none_early pos ps hs in
      by_test (eqv p.is.of v)
      (λ e. rw (le-ltb p.stmt pos (h e)) r)
      (λ e. by_test (ltb p.stmt pos) (λ t. rw (t, e) r) (λ t. rw t r))

  -- none is before the first
  none_before : (a b k : ℕ) (ps : List Placed) → Rising a b ps → k ≤ a → early k ps ≡ []
  unfolding Rising only
  none_before a b k [] r h = refl
  none_before a b k (p ∷ ps) r h =
      rw (le-ltb p.stmt k (omega (arith, r.0))) (none_before (suc p.stmt) b k ps r.1 (omega (arith, r.0)))

  -- v's is at or behind the first
  at_least : (a b k : ℕ) (x : Expr) (ps : List Placed) → Rising a b ps → Each (Only k x) ps → in_place (map (λ p. p.is) ps) v ≡ true → a ≤ k
  unfolding Rising in_place
  at_least a b k x [] r end e = absurd (false≢true e)
  at_least a b k x (p ∷ ps) r (h ▸ hs) e =
      let later = at_least (suc p.stmt) b k x ps r.1 hs in
      or_cases (eqv p.is.of v) (in_place (map (λ p. p.is) ps) v) (λ t. omega (arith, r.0, h.stmt t)) (λ t. omega (arith, r.0, later t)) e

  opened_in : (a b k pos : ℕ) (x : Expr) (ps : List Placed) → k < pos → Rising a b ps → Each (Only k x) ps → in_place (map (λ p. p.is) ps) v ≡ true
      → (G : Gen) → open_in G ≡ none → open_in (open_all G (shown pos ps)) ≡ some (expr (open_all G (shown k ps)) top x)
  unfolding Rising in_place only open_all
  opened_in a b k pos x [] l r end e G n = absurd (false≢true e)
  opened_in a b k pos x (p ∷ ps) l r (h ▸ hs) e G n =
      let later = opened_in (suc p.stmt) b k pos x ps l r.1 hs in
      by_test (eqv p.is.of v)
      (λ t.
      let q = h.stmt t in
      rw (lt-ltb p.stmt pos (omega arith), le-ltb p.stmt k (omega arith), none_before (suc p.stmt) b k ps r.1 (omega arith))
      (all_still (open_next G p.is) (shown pos ps) _ (next_own G p.is n t ∙ ap (λ (y : Expr). some (expr G top y)) (h.expr t))))
      (λ t.
      let rest : in_place (map (λ p. p.is) ps) v ≡ true = rw t at e in
      let low = at_least (suc p.stmt) b k x ps r.1 hs rest in
      rw (lt-ltb p.stmt pos (omega arith), lt-ltb p.stmt k (omega arith)) (later rest (open_next G p.is) (next_other G p.is n t)))

-- ---- before statement pos, by the value's place
both_each : {A : Type 0} {P Q : A → Type 0} {xs : List A} → Each P xs → Each Q xs → Each (λ x. P x × Q x) xs
both_each end end = end
both_each (p ▸ ps) (q ▸ qs) = (p, q) ▸ both_each ps qs

module _ (E : Edition) (f : List ℕ) (own : owned f ≡ true) (once : defined_once f ≡ true) (top : Bool) (v : Value) where
  -- each place of v is v's
  own_places : Each (λ p. eqv p.is.of v ≡ true → place_of E f v ≡ suc p.stmt) (all_placed E f)
  own_places = each_to (λ p e h. ap (place_of E f) (sym (eqv_true p.is.of v h)) ∙ e) (each_own E f own once)

  only_own : (k : ℕ) → place_of E f v ≡ suc k → Each (Only top v k (tree_at (all_trees E f) (stmt_field f k 2))) (all_placed E f)
  only_own k e =
      each_to (λ p h. record {
        stmt = λ t. omega (arith, h.0 t);
        expr = λ t. let q : p.stmt ≡ k = omega (arith, h.0 t) in ap (λ (z : Placed). z.is.expr) h.1.is ∙ ap (λ (i : ℕ). tree_at (all_trees E f) (stmt_field f i 2)) q;
      }) (both_each own_places (stand E f))

  opened_no : (pos : ℕ) → opens (place_of E f v) pos ≡ false → opened_at (gen_at E f pos).opened top v ≡ none
  unfolding gen_at bare opens opened_at
  opened_no pos e =
      all_other top v (bare E f) (shown pos (all_placed E f)) refl
      (none_early top v pos (all_placed E f) (each_to (λ p h t. late p.stmt (h t)) own_places))
    where
      late : (k : ℕ) → place_of E f v ≡ suc k → pos ≤ k
      late k q = go (dec_lt k pos)
        where
          go : Dec (k < pos) → pos ≤ k
          go (yes l) = absurd (false≢true (sym e ∙ rw (q, eqb-suc-zero k, le-leb (suc k) pos l)))
          go (no l) = omega arith

  opened_yes : (pos k : ℕ) → place_of E f v ≡ suc k → k < pos → opened_at (gen_at E f pos).opened top v ≡ some (rendered E f k top (stmt_field f k 2))
  unfolding gen_at rendered bare opened_at
  opened_yes pos k q l =
      let there : in_place (map (λ p. p.is) (all_placed E f)) v ≡ true =
      ap (λ (ps : List InPlace). in_place ps v) (forgotten E f) ∙ in_place_lem E f v ∙ rw (q, eqb-suc-zero k) in
      opened_in top v 0 (size f statements) k pos (tree_at (all_trees E f) (stmt_field f k 2)) (all_placed E f) l (rises E f own) (only_own k q) there (bare E f) refl

  pub opened_at_lem : (pos : ℕ)
      → opened_at (gen_at E f pos).opened top v
      ≡ cond (opens (place_of E f v) pos) (some (rendered E f (place_of E f v - 1) top (stmt_field f (place_of E f v - 1) 2))) none
  opened_at_lem pos =
      by_test (opens (place_of E f v) pos)
      (λ e.
      let q = open_before (place_of E f v) pos e in
      let l : place_of E f v ≡ suc (place_of E f v - 1) = omega (arith, q.some) in
      rw e (opened_yes pos (place_of E f v - 1) l (omega (arith, q.some, q.within))))
      (λ e. rw e (opened_no pos e))
