-- Where a walk stands in the file: a block's statements end where those of the next begin, and their numbers have 32 bits.
use mathlib.Core.Path.{◌≡◌, refl, sym, ap, ◌∙◌}
use mathlib.Core.Bool.{true}
use mathlib.Core.List.{List}
use Prim.Native.Nat.{ℕ, ◌+◌, ◌≤◌, ◌<◌}
use native.Mathlib.Omega.{arith}
use lib.ListN.{get_or}
use mir.Syntax.{w8}
use mir.Val.{Fits}
use Rattle.definition.specs.Edition.{blocks, statements}
use Rattle.definition.specs.Lists.{sum_below}
use Rattle.definition.specs.Contents.{size}
use Rattle.definition.specs.Owners.{block_stmts, first_stmt, first_item}
use Rattle.definition.specs.Shape.{owned}
use Rattle.records.proofs.Items.{size_small}
use Rattle.naming.proofs.Small.{parts_next, parts_below}
use Rattle.room.specs.declared.out.Out.{Out}
use Rattle.std.specs.Prelude.{Option as Answer}
use Rattle.conditions.specs.declared.operands.Pair.{Pair}
use Rattle.conditions.specs.Pairs.{Set}
use Rattle.lower.specs.declared.block.Walk.{Walk}
use Rattle.lower.specs.Given.{Stands}

-- ---- where a walk stands
pub stands_first : (f : List ℕ) (o : Out) → Stands f (first_stmt f 0) (record { out = o; stmt = 0; item = 0 })
unfolding first_stmt first_item sum_below
stands_first f o = record { here = refl; first = refl }

stands_as : (f : List ℕ) (s r : ℕ) (w : Walk) → s ≡ r → Stands f s w → Stands f r w
stands_as f s r w e h = rw (← e) h

pub stands_item : (f : List ℕ) (s : ℕ) (w : Walk) → Stands f s w → w.item ≡ first_item f w.stmt
stands_item f s w h = h.first ∙ ap (first_item f) (sym h.here)

pub stands_end : (f : List ℕ) (i end item : ℕ) (o : Out) → i ≤ end → end ≤ i → item ≡ first_item f i → Stands f end (record { out = o; stmt = end; item = item })
stands_end f i end item o h g e = let k : i ≡ end = omega arith in record { here = refl; first = e ∙ ap (first_item f) k }

pub in_block : (f : List ℕ) → owned f ≡ true → (b end i : ℕ) → b < size f blocks → end ≡ first_stmt f b + block_stmts f b → i < end → i < size f statements
in_block f own b end i h e g = omega (arith, (parts_below f own b h).1)

-- a statement's number, and one more, have 32 bits
pub index_small : (f : List ℕ) → ((k : ℕ) → Fits w8 (get_or f k 0)) → (i : ℕ) → i < size f statements → i < 4294967295
index_small f bytes i h = omega (arith, size_small f bytes statements)

module _ (f : List ℕ) (own : owned f ≡ true) (b : ℕ) (here : b < size f blocks) (w : Walk) (is : Stands f (first_stmt f b) w) (n : ℕ) (many : n ≡ block_stmts f b) where
  pub end_is : w.stmt + n ≡ first_stmt f b + block_stmts f b
  end_is = omega (arith, is.here, many)

  pub end_inside : w.stmt + n ≤ size f statements
  end_inside = omega (arith, end_is, (parts_below f own b here).1)

  module _ (bytes : (k : ℕ) → Fits w8 (get_or f k 0)) where
    pub end_small : w.stmt + n < 4294967296
    end_small = omega (arith, end_inside, size_small f bytes statements)

    pub end_most : w.stmt + n ≤ 4294967296
    end_most = omega (arith, end_small)

  -- what was found of the walk's statements was found of the block's
  pub set_here : (t : ℕ) (x : Answer Pair) → Set f t w.stmt n x → Set f t (first_stmt f b) (block_stmts f b) x
  set_here t x s = rw (← is.here, ← many) s

  pub next_stands : (r : Walk) → Stands f (w.stmt + n) r → Stands f (first_stmt f (b + 1)) r
  next_stands r h = stands_as f (w.stmt + n) (first_stmt f (b + 1)) r (end_is ∙ sym (parts_next f own b).1) h
