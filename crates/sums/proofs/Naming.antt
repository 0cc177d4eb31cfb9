-- Which value stands at the place of an expression, so that the table says there what is known of it.
use mathlib.Core.Path.{◌≡◌, sym, ap, ◌∙◌}
use mathlib.Core.Bool.{Bool, true, false}
use mathlib.Core.List.{List}
use Prim.Native.Nat.{ℕ, suc, ◌+◌, ◌≤◌, ◌<◌}
use native.Mathlib.Omega.{arith}
use lib.ListN.{length, get_or, replicate, length-replicate}
use mir.Syntax.{w8}
use mir.Val.{Fits}
use Rattle.words.proofs.Laws.{word_small}
use Rattle.definition.specs.Edition.{Edition, Section, edition1, statements, expressions}
use Rattle.definition.specs.Lists.{any, at}
use Rattle.definition.specs.Contents.{size, text, expr_word}
use Rattle.definition.specs.Values.{Value, value}
use Rattle.definition.specs.Read.{tree_at, trees, all_trees}
use Rattle.definition.specs.Offsets.{Known, look, stack_off, outside, refused7}
use Rattle.places.specs.declared.Places.{Places}
use Rattle.places.specs.Keys.{key_of, expr_key, places_of, keyed}
use Rattle.values.specs.Tables.{numbered, table}
use Rattle.values.proofs.Tables.{table_read, numbered_below, Names}
use Rattle.values.proofs.Placed.{at_expr, keyed_length, stmt_here, expr_here}
use Rattle.sums.specs.Ground.{Ground}
use Rattle.sums.specs.Address.{value_at, address_at, outside_at}
use Rattle.sums.proofs.Trees.{off_here, out_turn, out_hit}

-- every section is the text of some edition
pub some_edition : (t : ℕ) → (E : Edition) × (text E ≡ t)
unfolding text edition1
some_edition t =
    let s : Section = record { words = 0; most = 0 } in
    let l = length-replicate {A = Section} (suc t) s in
    (record { number = 1; sections = replicate (suc t) s; most = 0; lowered = edition1.lowered; lent = edition1.lent }, omega arith)

-- a number below what was read
pub under : {i m n : ℕ} → i < m → m ≡ n → i < n
under h e = rw (← e) h

pub over : {i m n : ℕ} → m ≤ i → m ≡ n → n ≤ i
over h e = rw (← e) h

pub grounded : (f numbers : List ℕ) (places : Places) → places ≡ places_of f → Ground f numbers (places_of f) → Ground f numbers places
grounded f numbers places e g = rw e g

module _ (f numbers : List ℕ) (places : Places) (g : Ground f numbers places) where
  place_here : (p : ℕ) → p < (places_of f).total → p < length (keyed f (length numbers))
  place_here p h = omega (arith, keyed_length f (length numbers) g.counts g.room, g.room)

  -- what the table says at the number of a place
  pub known_at : (tab : List ℕ) (k : List Known) (p : ℕ) (v : Value) → Names f (length numbers) p v → tab ≡ table f (length numbers) (look k) → at tab (at numbers p) ≡ look k v
  known_at tab k p v m e =
      ap (λ (l : List ℕ). at tab (at l p)) g.values ∙ ap (λ (l : List ℕ). at l (at (numbered f (length numbers)) p)) e
      ∙ table_read f (length numbers) (look k) p v m

  pub number_low : (p : ℕ) (v : Value) → Names f (length numbers) p v → at numbers p < length numbers
  number_low p v m =
      omega (arith, ap (λ (l : List ℕ). at l p) g.values, numbered_below f (length numbers) p m.here, keyed_length f (length numbers) g.counts g.room)

  -- a place that is read is inside, and names the value whose key stands there
  pub inside : (read : Places → ℕ) (i : ℕ) → read (places_of f) + i < (places_of f).total → read places + i < length numbers
  inside read i h = rw g.where_all (omega (arith, h, g.room))

  pub names_at : (read : Places → ℕ) (i : ℕ) (v : Value) → read (places_of f) + i < (places_of f).total → at (keyed f (length numbers)) (read (places_of f) + i) ≡ key_of v
      → v.ver < 4294967296 → Names f (length numbers) (read places + i) v
  names_at read i v h e s = rw g.where_all (record { here = place_here (read (places_of f) + i) h; is = e; small = s })

  pub stmt_inside : (i : ℕ) → i < size f statements → places.stmts + i < length numbers
  stmt_inside i h = inside (λ (q : Places). q.stmts) i (stmt_here f i h)

  pub expr_inside : (i : ℕ) → i < size f expressions → places.exprs + i < length numbers
  expr_inside i h = inside (λ (q : Places). q.exprs) i (expr_here f i h)

  module _ (bytes : (k : ℕ) → Fits w8 (get_or f k 0)) where
    expr_names : (i : ℕ) → i < size f expressions → expr_word f i 0 ≡ 2 → Names f (length numbers) (places.exprs + i) (value (expr_word f i 1) (expr_word f i 2))
    unfolding expr_key
    expr_names i h e =
        names_at (λ (q : Places). q.exprs) i (value (expr_word f i 1) (expr_word f i 2)) (expr_here f i h)
        (rw e at (at_expr f (length numbers) g.counts i h)) (word_small f bytes _)

    module _ (tab : List ℕ) (k : List Known) (follows : tab ≡ table f (length numbers) (look k)) where
      used_known : (n : ℕ) → n < size f expressions → expr_word f n 0 ≡ 2 → value_at tab numbers places.exprs n ≡ look k (value (expr_word f n 1) (expr_word f n 2))
      unfolding value_at
      used_known n h e = known_at tab k (places.exprs + n) (value (expr_word f n 1) (expr_word f n 2)) (expr_names n h e) follows

    -- the answer of `stack_off`
    pub off_in : (tab : List ℕ) (n t r : ℕ) → n < size f expressions → r ≡ address_at (value_at tab numbers places.exprs) f t n
        → (E : Edition) (k : List Known) → text E ≡ t → tab ≡ table f (length numbers) (look k) → r ≡ stack_off k (tree_at (all_trees E f) n)
    off_in tab n t r h e E k s follows =
        e ∙ ap (λ (u : ℕ). address_at (value_at tab numbers places.exprs) f u n) (sym s)
        ∙ off_here E f k (value_at tab numbers places.exprs) (used_known tab k follows) n h

    -- the expressions below n are not outside
    module _ (tab : List ℕ) (t : ℕ) where
      abbrev pub Clear : ℕ → Type 0
      Clear n = (E : Edition) (k : List Known) → text E ≡ t → tab ≡ table f (length numbers) (look k) → any (outside k) (trees E f n) ≡ false

      module _ (n : ℕ) (r : Bool) (here : n < size f expressions) (is : r ≡ outside_at (value_at tab numbers places.exprs) f t n) where
        out_at : (E : Edition) → text E ≡ t → outside_at (value_at tab numbers places.exprs) f (text E) n ≡ r
        out_at E s = ap (λ (u : ℕ). outside_at (value_at tab numbers places.exprs) f u n) s ∙ sym is

        pub clear_turn : r ≡ false → Clear n → Clear (n + 1)
        clear_turn e so_far E k s follows =
            out_turn E f k (value_at tab numbers places.exprs) (used_known tab k follows) n here (so_far E k s follows) (out_at E s ∙ e)

        pub clear_hit : r ≡ true → (E : Edition) (k : List Known) → text E ≡ t → tab ≡ table f (length numbers) (look k) → true ≡ refused7 k (all_trees E f)
        clear_hit e E k s follows = out_hit E f k (value_at tab numbers places.exprs) (used_known tab k follows) n here (out_at E s ∙ e)
