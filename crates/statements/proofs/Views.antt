-- The statement that the code reads is the definition's, read by the views, and its case is its kind's. A place behind a statement's expressions fits
-- 32 bits in every file whose parts come out exactly (check 4), which is all that is asked.
use mathlib.Core.Path.{◌≡◌, refl, sym, ap, ◌∙◌}
use mathlib.Core.Bool.{Bool, true, false, cond}
use mathlib.Core.Option.{Option}
use mathlib.Core.List.{List, map}
use Prim.Native.Nat.{ℕ, ◌+◌, ◌/◌, ◌%◌, ◌≤◌, ◌<◌}
use native.Mathlib.Omega.{arith}
use lib.Dec.{eqb}
use lib.ListN.{get_or}
use mir.Syntax.{w8}
use mir.Val.{Fits}
use borrow.Author.Tests.{eqb-true, eqb-false}
use Rattle.definition.specs.Codes.{k_assign, k_store, k_call, k_branch, k_flags, k_return}
use Rattle.definition.specs.Edition.{Edition, statements}
use Rattle.definition.specs.Lists.{range}
use Rattle.definition.specs.Contents.{size, stmt_word, stmt_long, item_word}
use Rattle.definition.specs.Owners.{stmt_field, stmt_kind, expr_items, value_items, first_item}
use Rattle.definition.specs.Shape.{owned}
use Rattle.definition.specs.References.{item_exprs}
use Rattle.definition.specs.Values.{Value as DValue, value}
use Rattle.definition.specs.Meaning.{item_values}
use Rattle.definition.specs.Ssa.{Expr, Kind as DKind}
use Rattle.definition.specs.Ssa.Kind.{Call as DCall, Branch as DBranch, Return as DReturn, Other as DOther}
use Rattle.definition.specs.Read.{tree_at, kind_at, marked, stmt_at}
use Rattle.records.proofs.Items.{items_few, exprs_fit}
use Rattle.ssa.proofs.Views.{option_by, through}
use Rattle.ssa.specs.View.{view_text}
use Rattle.defined.specs.Defined.{value_of}
use Rattle.statements.specs.Items.{behind_of, expr_run, value_run}
use Rattle.statements.specs.Statement.{kind_by, kind_record, kind_number, stmt_record, mark_of}
use Rattle.statements.specs.View.{view_exprs, view_values, view_kind, view_stmt}
use Rattle.statements.specs.declared.statement.Kind.{Kind}
use Rattle.statements.proofs.Laws.{behind_fits}

-- ---- statements
-- the place behind the expressions fits 32 bits
abbrev pub Placed : List ℕ → ℕ → Type 0
Placed f i = first_item f i + expr_items f i < 4294967296

-- a kind's lists, replaced by equal ones
same_call : (x : List ℕ) (r r' : Option DValue) (es us : List Expr) (vs ws : List DValue) → r ≡ r' → es ≡ us → vs ≡ ws → DCall x es r vs ≡ DCall x us r' ws
same_call x r r' es us vs ws h p q = rw (h, p, q)

same_branch : (c c' : Option (List ℕ)) (d d' : Option ℕ) (es us : List Expr) → c ≡ c' → d ≡ d' → es ≡ us → DBranch c d es ≡ DBranch c' d' us
same_branch c c' d d' es us g h p = rw (g, h, p)

same_other : (x : List ℕ) (es us : List Expr) (vs ws : List DValue) → es ≡ us → vs ≡ ws → DOther x es vs ≡ DOther x us ws
same_other x es us vs ws p q = rw (p, q)

module _ (E : Edition) (f : List ℕ) (t : List Expr) (i : ℕ) where
  exprs_view : view_exprs f t (expr_run f i (first_item f i)) ≡ map (tree_at t) (item_exprs f i)
  unfolding view_exprs expr_run item_exprs
  exprs_view = refl

  values_view : Placed f i → view_values f (value_run f i (first_item f i)) ≡ item_values f i
  unfolding view_values value_run item_values
  values_view h =
      let e : behind_of (first_item f i) (expr_items f i) ≡ first_item f i + expr_items f i = sym (behind_fits (first_item f i) (expr_items f i) (omega arith)) in
      ap (λ (a : ℕ). map (λ (k : ℕ). value (item_word f (a + k) 0) (item_word f (a + k) 1)) (range 0 (value_items f i))) e

  pub kind_view : Placed f i → view_kind E f t (kind_record f i (first_item f i)) ≡ kind_at E f t i
  unfolding view_kind kind_by kind_at
  kind_view h =
      let v : Kind → DKind = view_kind E f t in
      let same : DKind → DKind = λ x. x in
      let k = stmt_kind f i in
      through v same (eqb k k_assign) _ _ _ _ refl
      (through v same (eqb k k_store) _ _ _ _ refl
      (through v same (eqb k k_call) _ _ _ _ (same_call _ _ _ _ _ _ _ (option_by value_of (eqb (stmt_field f i 3) 1) _) exprs_view (values_view h))
      (through v same (eqb k k_branch) _ _ _ _ (same_branch _ _ _ _ _ _ (option_by (view_text E f) (eqb (stmt_field f i 0) 1) _) (option_by (λ x. x) (eqb (stmt_field f i 3) 1) _) exprs_view)
      (through v same (eqb k k_flags) _ _ _ _ refl
      (through v same (eqb k k_return) _ _ _ _ (ap DReturn (option_by (tree_at t) (eqb (stmt_field f i 0) 1) (stmt_field f i 1)))
      (same_other _ _ _ _ _ exprs_view (values_view h)))))))

  pub stmt_view : Placed f i → view_stmt E f t (stmt_record f i (first_item f i)) ≡ stmt_at E f t i
  unfolding view_stmt stmt_record stmt_at marked mark_of
  stmt_view h = ap (λ (k : DKind). record {
    address = stmt_long f i 0;
    dead = eqb (stmt_word f i 2 / 1 % 2) 1;
    flags = eqb (stmt_word f i 2 / 2 % 2) 1;
    push = eqb (stmt_word f i 2 / 4 % 2) 1;
    kind = k;
  }) (kind_view h)

  -- of a file of bytes whose parts come out exactly
  pub stmt_owned : ((k : ℕ) → Fits w8 (get_or f k 0)) → owned f ≡ true → i < size f statements → view_stmt E f t (stmt_record f i (first_item f i)) ≡ stmt_at E f t i
  stmt_owned b o h = stmt_view (exprs_fit f (items_few f b o) i refl h refl)

-- ---- the numbers of cases: where the file has a number that is a kind's or a tag, the case is that one's
numbered {ℓ} : {A : Type ℓ} (g : A → ℕ) (k n : ℕ) (x y : A) → g x ≡ n → ((k ≡ n → ⊥) → g y ≡ k) → g (cond (eqb k n) x y) ≡ k
numbered g k n x y p q = go (eqb k n) refl
  where
    go : (b : Bool) → eqb k n ≡ b → g (cond b x y) ≡ k
    go true e = p ∙ sym (eqb-true k n e)
    go false e = q (eqb-false k n e)

pub kind_number_lem : (f : List ℕ) (i first : ℕ) → 1 ≤ stmt_kind f i → stmt_kind f i ≤ 7 → kind_number (kind_record f i first) ≡ stmt_kind f i
unfolding kind_number kind_by
kind_number_lem f i first l h =
    let g : Kind → ℕ = kind_number in
    let k = stmt_kind f i in
    numbered g k 1 _ _ refl (λ a.
    numbered g k 2 _ _ refl (λ b.
    numbered g k 3 _ _ refl (λ c.
    numbered g k 4 _ _ refl (λ d.
    numbered g k 5 _ _ refl (λ e.
    numbered g k 6 _ _ refl (λ o. omega arith))))))
