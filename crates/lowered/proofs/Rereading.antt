-- Which classes are really read goes by the table of stack offsets alone: whatever is known and gives that table says the same of every address. So a
-- table marked by one list of what is known is marked by every such list.
use mathlib.Core.Path.{◌≡◌, refl, sym, ap, subst, ◌∙◌}
use mathlib.Core.Bool.{Bool, false, not, cond, ◌&&◌, ◌||◌}
use mathlib.Core.List.{List, []}
use Prim.Native.Nat.{ℕ}
use native.Mathlib.Decide.{ℕ_discrete}
use lib.Dec.{eqb, ltb}
use lib.ListN.{length, get_or, replicate}
use mir.Syntax.{w8}
use mir.Val.{Fits}
use borrow.Author.Tests.{ltb-true, ltb-false, eq-eqb, ne_eqb}
use Rattle.definition.specs.Edition.{Edition, statements, expressions}
use Rattle.definition.specs.Lists.{gather, range}
use Rattle.definition.specs.Contents.{size, text}
use Rattle.definition.specs.Owners.{stmt_kind, stmt_field}
use Rattle.definition.specs.Values.{within}
use Rattle.definition.specs.Read.{tree_at, all_trees, kind_at, marked, read}
use Rattle.definition.specs.Offsets.{Known, look, stack_off}
use Rattle.definition.specs.Classes.{find, classes}
use Rattle.definition.specs.Blocks.{is_save, read_roots}
use Rattle.definition.proofs.Bools.{by_test}
use Rattle.records.proofs.Ranges.{gather_same}
use Rattle.places.specs.Keys.{key_of, places_of, keyed}
use Rattle.values.specs.Tables.{number_of, table}
use Rattle.uses.specs.Uses.{stmt_uses}
use Rattle.reads.specs.Counts.{visit, slots}
use Rattle.sums.specs.Ground.{Ground}
use Rattle.sums.specs.Address.{value_at, address_at}
use Rattle.sums.proofs.Trees.{off_past}
use Rattle.sums.proofs.Naming.{off_in}
use Rattle.marks.specs.Reading.{saved_at, classed, reading, ReadRoots}
use Rattle.marks.proofs.Saving.{save_other, save_none, save_there}
use Rattle.marks.proofs.Rooting.{read_done}

module _ (f : List ℕ) (bytes : (j : ℕ) → Fits w8 (get_or f j 0)) (t : ℕ) (numbers offs : List ℕ) (g : Ground f numbers (places_of f)) where
  -- by the table: the offset of expression n, whether statement i is a save, and what it reads
  abbrev off_at : ℕ → ℕ
  off_at n = cond (ltb n (size f expressions)) (address_at (value_at offs numbers (places_of f).exprs) f t n) 0

  abbrev save_at : ℕ → Bool
  save_at i = cond (eqb (stmt_kind f i) 2) (saved_at f (stmt_field f i 2) && not (eqb (off_at (stmt_field f i 1)) 0)) false

  abbrev read_at : ℕ → List ℕ
  read_at i = cond (marked f i 1 || save_at i) [] (stmt_uses f i)

  module _ (E : Edition) (k : List Known) (s : text E ≡ t) (e : offs ≡ table f (length numbers) (look k)) where
    off_is : (n : ℕ) → off_at n ≡ stack_off k (tree_at (all_trees E f) n)
    off_is n =
        by_test (ltb n (size f expressions))
        (λ b. rw b (off_in f numbers (places_of f) g bytes offs n t _ (ltb-true n (size f expressions) b) refl E k s e))
        (λ b. rw b (off_past E f k n (ltb-false n (size f expressions) b)))

    save_is : (i : ℕ) → save_at i ≡ is_save k (kind_at E f (all_trees E f) i)
    save_is i = go (ℕ_discrete (stmt_kind f i) 2)
      where
        go : Dec (stmt_kind f i ≡ 2) → save_at i ≡ is_save k (kind_at E f (all_trees E f) i)
        go (yes a) =
            by_test (saved_at f (stmt_field f i 2))
            (λ b. rw (eq-eqb (stmt_kind f i) 2 a, b) (save_there E f k i (stmt_kind f i) refl a (stmt_field f i 2) (saved_at f (stmt_field f i 2)) refl refl (stmt_field f i 1) (off_at (stmt_field f i 1)) b refl (off_is (stmt_field f i 1))))
            (λ b. rw (eq-eqb (stmt_kind f i) 2 a, b) (save_none E f k i (stmt_kind f i) refl a (stmt_field f i 2) (saved_at f (stmt_field f i 2)) refl refl b))
        go (no a) = rw (ne_eqb (stmt_kind f i) 2 a) (save_other E f k i (stmt_kind f i) refl a)

    read_is : (i : ℕ) → read_at i ≡ reading E f k i
    unfolding reading
    read_is i = ap (λ (b : Bool). cond (marked f i 1 || b) [] (stmt_uses f i)) (save_is i)

  module _ (roots : List ℕ) where
    abbrev marks_of : List ℕ
    marks_of = visit (classed roots) (replicate (length numbers) 0) (gather (λ (i : ℕ). slots numbers (places_of f).exprs (read_at i)) (range 0 (size f statements)))

    by_table : ReadRoots f t (length numbers) offs roots marks_of
    by_table =
        read_done f bytes t numbers offs roots (replicate (length numbers) 0) marks_of g refl
        (λ E k s e.
        ap (visit (classed roots) (replicate (length numbers) 0))
        (gather_same (λ (i : ℕ). slots numbers (places_of f).exprs (read_at i)) (λ (i : ℕ). slots numbers (places_of f).exprs (reading E f k i))
        (λ i. ap (slots numbers (places_of f).exprs) (read_is E k s e i)) (range 0 (size f statements))))

    pub read_again : (E : Edition) (k : List Known) (marks : List ℕ) → text E ≡ t → offs ≡ table f (length numbers) (look k)
        → roots ≡ table f (length numbers) (λ v. number_of (keyed f (length numbers)) (key_of (find (classes (read E f)) v)))
        → marks ≡ table f (length numbers) (λ v. cond (within v (read_roots (read E f) k (classes (read E f)))) 1 0)
        → ReadRoots f t (length numbers) offs roots marks
    read_again E k marks s e r m = subst (ReadRoots f t (length numbers) offs roots) (by_table E k s e r ∙ sym m) by_table
