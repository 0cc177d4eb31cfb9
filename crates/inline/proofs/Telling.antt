-- The code's tests are the definition's: the tables say of an Assign's value what the definition counts, so a statement places what the tests say.
use mathlib.Core.Path.{◌≡◌, refl, sym, ap, ap₂, ◌∙◌}
use mathlib.Core.Bool.{Bool, true, false, not, cond, ◌&&◌}
use mathlib.Core.List.{List, [], ◌∷◌, ◌++◌, map}
use Prim.Native.Nat.{ℕ, zero, suc, ◌+◌, ◌-◌, ◌≤◌, ◌<◌}
use native.Mathlib.Decide.{ℕ_discrete}
use native.Mathlib.Omega.{arith}
use lib.Dec.{eqb}
use lib.ListN.{length, get_or, set, replicate}
use mir.Syntax.{w8}
use mir.Val.{Fits}
use borrow.Author.Tests.{eqb-true, not-true}
use Rattle.definition.specs.Edition.{Edition, statements}
use Rattle.definition.specs.Lists.{count, at}
use Rattle.definition.specs.Contents.{size}
use Rattle.definition.specs.Owners.{stmt_kind, stmt_field}
use Rattle.definition.specs.Values.{Value, eqv, within, RSP}
use Rattle.definition.specs.Ssa.{Expr}
use Rattle.definition.specs.Read.{tree_at, all_trees, marked, read}
use Rattle.definition.specs.Inline.{reads, phi_reads, reads_of, has_load, read_once, read_later}
use Rattle.definition.specs.Listing.{padded}
use Rattle.definition.proofs.Bools.{by_test, both_true}
use Rattle.words.proofs.Laws.{word_small}
use Rattle.places.specs.Keys.{key_of, stmt_key, places_of, keyed}
use Rattle.values.specs.Tables.{table}
use Rattle.values.proofs.Tables.{table_read, table_write, Names}
use Rattle.values.proofs.Placed.{at_stmt, keyed_length, stmt_here}
use Rattle.reads.specs.Counts.{last_reader}
use Rattle.reads.proofs.ReadAtAll.{bit_not}
use Rattle.later.specs.Search.{reached, later_read, single}
use Rattle.inline.specs.Placing.{behind, placed_at, Told}
use Rattle.std.specs.Prelude.{Option, Some, None}
use Rattle.later.proofs.Searching.{search_is}
use Rattle.inline.proofs.AtStatement.{target, source, placing, placed_dead, placed_other, placed_assign}
use Rattle.inline.proofs.OneReader.{one_reader}

-- ---- what a bit says
bit_one : (b : Bool) → eqb (cond b 1 0) 1 ≡ b
bit_one true = refl
bit_one false = refl

-- ---- the table of loads
zeros : (n x : ℕ) → ◌≡◌ {A = ℕ} (get_or (replicate n 0) x 0) 0
zeros zero x = refl
zeros (suc n) zero = refl
zeros (suc n) (suc x) = zeros n x

abbrev load_bit : Expr → ℕ
load_bit x = cond (has_load x) 1 0

load_at : (ts : List Expr) (n x : ℕ) → get_or (map load_bit ts ++ replicate n 0) x 0 ≡ load_bit (tree_at ts x)
unfolding has_load
load_at [] n x = zeros n x
load_at (t ∷ ts) n zero = refl
load_at (t ∷ ts) n (suc x) = load_at ts n x

loads_is : (E : Edition) (f loads : List ℕ) (n x : ℕ) → loads ≡ padded n (map load_bit (all_trees E f)) → eqb (at loads x) 1 ≡ has_load (tree_at (all_trees E f) x)
unfolding at padded
loads_is E f loads n x e =
    ap (λ (l : List ℕ). eqb (get_or l x 0) 1) e ∙ ap (λ (y : ℕ). eqb y 1) (load_at (all_trees E f) (n - length (map load_bit (all_trees E f))) x)
    ∙ bit_one (has_load (tree_at (all_trees E f) x))

-- ---- what the search found
is_at : Option ℕ → Bool
is_at (Some x) = true
is_at None = false

searched : (b : Bool) (r : Option ℕ) (y : ℕ) → r ≡ cond b (Some y) None → b ≡ is_at r
unfolding is_at
searched true r y e = sym (ap is_at e)
searched false r y e = sym (ap is_at e)

module _ (f numbers live phi readers loads : List ℕ) (told : Told f numbers live phi readers loads) (bytes : (k : ℕ) → Fits w8 (get_or f k 0))
    (i : ℕ) (inside : i < size f statements) where
  -- the number of the value that statement i defines
  abbrev pub number : ℕ
  number = at numbers ((places_of f).stmts + i)

  module _ (assigns : stmt_kind f i ≡ 1) where
    key : at (keyed f (length numbers)) ((places_of f).stmts + i) ≡ key_of (target f i)
    unfolding stmt_key
    key = at_stmt f (length numbers) told.own i inside ∙ rw assigns refl

    named : Names f (length numbers) ((places_of f).stmts + i) (target f i)
    named = record {
      here = omega (arith, stmt_here f i inside, keyed_length f (length numbers) told.own told.room, told.room);
      is = key;
      small = word_small f bytes _;
    }

    tells : (g : Value → ℕ) (t : List ℕ) → t ≡ table f (length numbers) g → at t number ≡ g (target f i)
    tells g t e =
        ap₂ (λ (a b : List ℕ). at a (at b ((places_of f).stmts + i))) e told.number
        ∙ table_read f (length numbers) g ((places_of f).stmts + i) (target f i) named

    pub writes : (g : Value → ℕ) (t : List ℕ) (x : ℕ) → t ≡ table f (length numbers) g
        → set t number x ≡ table f (length numbers) (λ w. cond (eqv (target f i) w) x (g w))
    writes g t x e =
        ap₂ (λ (a b : List ℕ). set a (at b ((places_of f).stmts + i)) x) e told.number
        ∙ table_write f (length numbers) g ((places_of f).stmts + i) (target f i) named x

    once_so : (E : Edition) → marked f i 1 ≡ false → single f i (at phi number) (at live number) ≡ read_once (reads_of (read E f)) (target f i)
    unfolding single read_once reads_of
    once_so E h =
        rw (
          h,
          assigns,
          tells (λ v. cond (within v (phi_reads (read E f))) 1 0) phi (told.flows E),
          tells (λ v. count (eqv v) (reads (read E f))) live (told.times E),
          bit_not (within (target f i) (phi_reads (read E f))),
        )

  -- what the tests of the code tell
  pub record Single : Type 0 where
    pub lives : marked f i 1 ≡ false
    pub assigns : stmt_kind f i ≡ 1
    pub once : at live number ≡ 1

  pub singly : single f i (at phi number) (at live number) ≡ true → Single
  unfolding single
  singly h =
      let a = not (marked f i 1) in
      let b = eqb (stmt_kind f i) 1 in
      let c = not (eqb (stmt_field f i 0) RSP) in
      let d = eqb (at phi number) 0 in
      let e = both_true (a && b && c && d) (eqb (at live number) 1) h in
      let p = both_true a b (both_true (a && b) c (both_true (a && b && c) d e.0).0).0 in
      record {
        lives = not-true (marked f i 1) p.0;
        assigns = eqb-true (stmt_kind f i) 1 p.1;
        once = eqb-true (at live number) 1 e.1;
      }

  module _ (E : Edition) (end : ℕ) where
    pub passed_over : single f i (at phi number) (at live number) ≡ false → placed_at E f end i ≡ []
    passed_over h = by_test (marked f i 1) (placed_dead E f end i) (λ m. go m (ℕ_discrete (stmt_kind f i) 1))
      where
        go : marked f i 1 ≡ false → Dec (stmt_kind f i ≡ 1) → placed_at E f end i ≡ []
        go m (yes k) =
            placed_assign E f end i m k
            ∙ ap (λ (b : Bool). cond (b && read_later (target f i) (has_load (source E f i)) (behind E f end i)) (placing E f i ∷ []) []) (sym (once_so k E m) ∙ h)
        go m (no k) = placed_other E f end i k

    module _ (h : single f i (at phi number) (at live number) ≡ true) (before : i < end) (past : end ≤ size f statements) where
      later_so : read_later (target f i) (has_load (source E f i)) (behind E f end i) ≡ reached f (at readers number) (eqb (at loads (stmt_field f i 2)) 1) (i + 1) end
      unfolding behind
      later_so =
          let s = singly h in
          let r : at readers number ≡ last_reader f (target f i) = tells s.assigns (last_reader f) readers told.reader in
          let n : i + 1 + (end - (i + 1)) ≡ end = omega arith in
          let c : count (eqv (target f i)) (reads (read E f)) ≡ 1 = sym (tells s.assigns (λ v. count (eqv v) (reads (read E f))) live (told.times E)) ∙ s.once in
          rw (loads_is E f loads (length loads) (stmt_field f i 2) (told.loaded E), r)
          (search_is E f (all_trees E f) (target f i) (last_reader f (target f i)) (one_reader E f told.own (target f i) c)
          (has_load (source E f i)) (end - (i + 1)) (i + 1) (omega arith)
          ∙ ap (reached f (last_reader f (target f i)) (has_load (source E f i)) (i + 1)) n)

      placed_so : placed_at E f end i ≡ cond (reached f (at readers number) (eqb (at loads (stmt_field f i 2)) 1) (i + 1) end) (placing E f i ∷ []) []
      placed_so =
          let s = singly h in
          placed_assign E f end i s.lives s.assigns
          ∙ ap₂ (λ (a b : Bool). cond (a && b) (placing E f i ∷ []) []) (sym (once_so s.assigns E s.lives) ∙ h) later_so

      module _ (r : Option ℕ) (e : r ≡ later_read f i end (at readers number) (at loads (stmt_field f i 2))) where
        found : placed_at E f end i ≡ cond (is_at r) (placing E f i ∷ []) []
        unfolding later_read
        found =
            placed_so ∙ ap (λ (b : Bool). cond b (placing E f i ∷ []) [])
            (searched (reached f (at readers number) (eqb (at loads (stmt_field f i 2)) 1) (i + 1) end) r (at readers number - 1) e)

        pub read_nowhere : r ≡ None → placed_at E f end i ≡ []
        unfolding is_at
        read_nowhere q = found ∙ ap (λ (x : Option ℕ). cond (is_at x) (placing E f i ∷ []) []) q

        pub read_later_lem : (x : ℕ) → r ≡ Some x → placed_at E f end i ≡ placing E f i ∷ []
        unfolding is_at
        read_later_lem x q = found ∙ ap (λ (x : Option ℕ). cond (is_at x) (placing E f i ∷ []) []) q
