-- What is ticked is what live statements really read at entry, and the parameters are the argument registers up to the last of these.
use mathlib.Core.Path.{◌≡◌, refl, sym, ap, ap₂, ◌∙◌}
use mathlib.Core.Bool.{Bool, true, false, not, cond, ◌||◌, or-false, or_assoc, true≢false, false≢true}
use mathlib.Core.List.{List, [], ◌∷◌, ◌++◌, map, map-append}
use Prim.Native.Nat.{ℕ, zero, suc, ◌+◌, ◌<◌}
use native.Mathlib.Omega.{arith}
use lib.Dec.{eqb}
use lib.ListN.{length, get_or, replicate, length-append}
use mir.Syntax.{w8}
use mir.Val.{Fits}
use Rattle.definition.specs.Edition.{Edition, args, statements}
use Rattle.definition.specs.Lists.{any, only, gather, range, at}
use Rattle.definition.specs.Contents.{size, arg_at}
use Rattle.definition.specs.Owners.{stmt_kind}
use Rattle.definition.specs.Shape.{owned}
use Rattle.definition.specs.Values.{Value, value, eqv, within}
use Rattle.definition.specs.Meaning.{arg_regs}
use Rattle.definition.specs.Ssa.{Expr, Stmt, uses}
use Rattle.definition.specs.Read.{all_trees, kind_at, marked, stmt_at, read}
use Rattle.definition.specs.Inline.{live}
use Rattle.definition.specs.Names.{by_convention, entry_reads, up_to_last, params}
use Rattle.definition.proofs.Bools.{by_test, by_cond, or_right}
use Rattle.definition.proofs.ListLaws.{Each, end, ◌▸◌}
use Rattle.records.proofs.Ranges.{range_last, map_gather, gather_same}
use Rattle.records.proofs.Parts.{stmts_are}
use Rattle.values.specs.Tables.{numbered, table}
use Rattle.values.proofs.Tables.{table_same, eqv_swap, zeros_are, table_read}
use Rattle.values.proofs.Placed.{keyed_length}
use Rattle.values.proofs.Ranges.{map_length}
use Rattle.records.proofs.Codes.{by_code}
use Rattle.reads.proofs.ReadAtAll.{bit_so}
use Rattle.names.specs.Codes.{coded}
use Rattle.names.specs.Spots.{Spot, use_spots, entry_spots, ticked, up_to}
use Rattle.names.specs.Given.{Numbered, EntryRead, entry_table}
use Rattle.names.proofs.Mentioned.{Right, coded_write, each_runs, arg_named_lem, uses_right}
use Rattle.names.proofs.Reading.{values_of, use_values}
use Rattle.names.proofs.Params.{is_read}

-- ---- what is ticked
module _ (f : List ℕ) (n : ℕ) where
  ticked_are : (xs : List Spot) → Each (Right f n) xs → (g : Value → ℕ)
      → ticked (numbered f n) (table f n g) xs ≡ table f n (λ w. cond (within w (values_of xs)) 1 (g w))
  unfolding ticked within any coded
  ticked_are [] end g = table_same f n g (λ w. g w) (λ w. refl)
  ticked_are (x ∷ xs) (by ▸ h) g =
      ap (λ (t : List ℕ). ticked (numbered f n) t xs) (coded_write f n x.place x.of by g 1)
      ∙ ticked_are xs h (coded x.of 1 g)
      ∙ table_same f n (λ w. cond (any (eqv w) (values_of xs)) 1 (coded x.of 1 g w)) (λ w. cond (eqv w x.of || any (eqv w) (values_of xs)) 1 (g w))
      (λ w. one (eqv x.of w) (eqv w x.of) (any (eqv w) (values_of xs)) (g w) (eqv_swap x.of w))
    where
      one : (a b c : Bool) (y : ℕ) → a ≡ b → cond c 1 (cond a 1 y) ≡ cond (b || c) 1 y
      one true true true y e = refl
      one true true false y e = refl
      one true false c y e = absurd (true≢false e)
      one false true c y e = absurd (false≢true e)
      one false false c y e = refl

-- ---- what is read at entry
convention : (E : Edition) (f : List ℕ) (t : List Expr) (i : ℕ) → by_convention (kind_at E f t i) ≡ (eqb (stmt_kind f i) 3 || eqb (stmt_kind f i) 4)
unfolding by_convention kind_at
convention E f t i = by_code (stmt_kind f i) (λ e. rw e) (λ e. rw e) (λ e. rw e) (λ e. rw e) (λ e. rw e) (λ e. rw e) (λ a b c d g h. rw (a, b, c, d, g, h))

-- two tests, one behind the other
gather_twice : {A : Type 0} {B : Type 0} {C : Type 0} (g : B → List C) (p q : B → Bool) (h : A → B) (xs : List A)
    → gather g (only p (only q (map h xs))) ≡ gather (λ x. cond (not (q (h x)) || not (p (h x))) [] (g (h x))) xs
unfolding gather only
gather_twice g p q h [] = refl
gather_twice g p q h (x ∷ xs) =
    let r = gather_twice g p q h xs in
    by_test (q (h x)) (λ t. by_test (p (h x)) (λ u. rw (t, u) (ap (λ l. g (h x) ++ l) r)) (λ u. rw (t, u) r)) (λ t. rw t r)

tests : (a b : Bool) (vs : List Value) (xs : List Spot) → values_of xs ≡ vs → values_of (cond (a || b) [] xs) ≡ cond (not (not a) || not (not b)) [] vs
tests true b vs xs e = refl
tests false true vs xs e = refl
tests false false vs xs e = e

stmt_entry : (f : List ℕ) (E : Edition) (i : ℕ)
    → values_of (entry_spots f i) ≡ cond (not (not (marked f i 1)) || not (not (by_convention (kind_at E f (all_trees E f) i)))) [] (uses (kind_at E f (all_trees E f) i))
unfolding entry_spots
stmt_entry f E i = rw (convention E f (all_trees E f) i) (tests (marked f i 1) (eqb (stmt_kind f i) 3 || eqb (stmt_kind f i) 4) (uses (kind_at E f (all_trees E f) i)) (use_spots f i) (use_values f E i))

entry_values : (f : List ℕ) → owned f ≡ true → (E : Edition) → values_of (gather (entry_spots f) (range 0 (size f statements))) ≡ entry_reads (read E f)
unfolding entry_reads live stmt_at
entry_values f own E =
    map_gather (λ (x : Spot). x.of) (entry_spots f) (range 0 (size f statements))
    ∙ gather_same (λ i. values_of (entry_spots f i)) (λ i. cond (not (not (marked f i 1)) || not (not (by_convention (kind_at E f (all_trees E f) i)))) [] (uses (kind_at E f (all_trees E f) i))) (stmt_entry f E) (range 0 (size f statements))
    ∙ sym (ap (λ l. gather (λ (s : Stmt). uses s.kind) (only (λ (s : Stmt). not (by_convention s.kind)) (only (λ (s : Stmt). not s.dead) l))) (stmts_are f own E)
    ∙ gather_twice (λ (s : Stmt). uses s.kind) (λ (s : Stmt). not (by_convention s.kind)) (λ (s : Stmt). not s.dead) (stmt_at E f (all_trees E f)) (range 0 (size f statements)))

-- ---- parameters
module _ (p : ℕ → Bool) where
  any_last : (xs : List ℕ) (a : ℕ) → any p (xs ++ (a ∷ [])) ≡ (any p xs || p a)
  unfolding any
  any_last [] a = or-false (p a)
  any_last (x ∷ xs) a = ap (λ (b : Bool). p x || b) (any_last xs a) ∙ sym (or_assoc (p x) (any p xs) (p a))

  last_yes : (xs : List ℕ) (a : ℕ) → p a ≡ true → up_to_last p (xs ++ (a ∷ [])) ≡ xs ++ (a ∷ [])
  unfolding up_to_last any
  last_yes [] a h = rw h
  last_yes (x ∷ xs) a h =
      let t : (p x || any p (xs ++ (a ∷ []))) ≡ true = or_right (p x) (any p (xs ++ (a ∷ []))) (any_last xs a ∙ or_right (any p xs) (p a) h) in
      rw t (ap (λ l. x ∷ l) (last_yes xs a h))

  last_no : (xs : List ℕ) (a : ℕ) → p a ≡ false → up_to_last p (xs ++ (a ∷ [])) ≡ up_to_last p xs
  unfolding up_to_last any
  last_no [] a h = rw h
  last_no (x ∷ xs) a h =
      let t : any p (xs ++ (a ∷ [])) ≡ any p xs = any_last xs a ∙ ap (λ (b : Bool). any p xs || b) h ∙ or-false (any p xs) in
      rw (t, last_no xs a h)

  count_is : (g : ℕ → ℕ) (n : ℕ) → length (up_to_last p (map g (range 0 n))) ≡ up_to (λ j. p (g j)) n
  unfolding up_to_last up_to range
  count_is g zero = refl
  count_is g (suc n) =
      let e : map g (range 0 (suc n)) ≡ map g (range 0 n) ++ (g n ∷ []) = ap (map g) (range_last n) ∙ map-append g (range 0 n) (n ∷ []) in
      let long : length (map g (range 0 n) ++ (g n ∷ [])) ≡ suc n = omega (arith, length-append (map g (range 0 n)) (g n ∷ []), map_length g 0 n) in
      ap (λ l. length (up_to_last p l)) e
      ∙ by_test (p (g n)) (λ t. ap length (last_yes (map g (range 0 n)) (g n) t) ∙ long ∙ sym (ap (λ (b : Bool). cond b (suc n) (up_to (λ j. p (g j)) n)) t))
      (λ t. ap length (last_no (map g (range 0 n)) (g n) t) ∙ count_is g n ∙ sym (ap (λ (b : Bool). cond b (suc n) (up_to (λ j. p (g j)) n)) t))

  -- they are the first ones
  first_ones : (g : ℕ → ℕ) (a n : ℕ) → up_to_last p (map g (range a n)) ≡ map g (range a (length (up_to_last p (map g (range a n)))))
  unfolding up_to_last range
  first_ones g a zero = refl
  first_ones g a (suc n) =
      let r = first_ones g (a + 1) n in
      by_test (p (g a) || any p (map g (range (a + 1) n))) (λ t. rw t (ap (λ l. g a ∷ l) r)) (λ t. rw t)

up_same : (p q : ℕ → Bool) (n : ℕ) → ((j : ℕ) → j < n → p j ≡ q j) → up_to p n ≡ up_to q n
unfolding up_to
up_same p q zero h = refl
up_same p q (suc n) h = ap₂ (λ (b : Bool) (m : ℕ). cond b (suc n) m) (h n (omega arith)) (up_same p q n (λ j k. h j (omega arith)))

pub params_first : (E : Edition) (f : List ℕ) → params (read E f) ≡ map (arg_at f) (range 0 (length (params (read E f))))
unfolding params read arg_regs
params_first E f = first_ones (λ a. any (eqv (value a 0)) (entry_reads (read E f))) (arg_at f) 0 (size f args)

module _ (f : List ℕ) (bytes : (k : ℕ) → Fits w8 (get_or f k 0)) (ns : List ℕ) (given : Numbered f ns) where
  pub params_count : (E : Edition) (es : List ℕ) → es ≡ entry_table E f (length ns) → up_to (is_read ns es) (size f args) ≡ length (params (read E f))
  unfolding params read arg_regs entry_table within
  params_count E es e =
      let n = length ns in
      let q : ℕ → Bool = (λ a. any (eqv (value a 0)) (entry_reads (read E f))) in
      up_same (is_read ns es) (λ j. q (arg_at f j)) (size f args)
      (λ j h. ap₂ (λ (t u : List ℕ). not (eqb (at t (at u j)) 0)) e given.are
      ∙ ap (λ (x : ℕ). not (eqb x 0)) (table_read f n (λ v. cond (any (eqv v) (entry_reads (read E f))) 1 0) j (value (arg_at f j) 0) (arg_named_lem f bytes given.own n given.room j h))
      ∙ bit_so (q (arg_at f j)))
      ∙ sym (count_is q (arg_at f) (size f args))

  -- the table that entry_reads leaves
  pub entry_table_lem : (t r : List ℕ) → t ≡ replicate (length ns) 0 → r ≡ ticked ns t (gather (entry_spots f) (range 0 (size f statements))) → EntryRead f (length ns) r
  unfolding entry_table entry_spots
  entry_table_lem t r z e = record {
    says = λ E.
        e ∙ ap₂ (λ (u s : List ℕ). ticked u s (gather (entry_spots f) (range 0 (size f statements)))) given.are
        (z ∙ zeros_are f (length ns) (keyed_length f (length ns) given.own given.room))
        ∙ ticked_are f (length ns) (gather (entry_spots f) (range 0 (size f statements)))
        (each_runs (Right f (length ns)) (entry_spots f) 0 (size f statements)
        (λ i h. by_cond (Each (Right f (length ns))) (marked f i 1 || (eqb (stmt_kind f i) 3 || eqb (stmt_kind f i) 4)) (λ b. end)
        (λ b. uses_right f bytes given.own (length ns) given.room i)))
        (λ v. 0)
        ∙ ap (λ (vs : List Value). table f (length ns) (λ w. cond (within w vs) 1 0)) (entry_values f given.own E);
  }
