-- A statement of a shaped file has one of seven kinds, so the case of its record is the kind's; and Flags have no line.
use mathlib.Core.Path.{◌≡◌, refl, sym, ap, ◌∙◌}
use mathlib.Core.Bool.{Bool, true, not, ◌&&◌, false≢true}
use mathlib.Core.List.{List, []}
use Prim.Native.Nat.{ℕ, ◌<◌, ◌≤◌}
use native.Mathlib.Omega.{arith}
use lib.Dec.{eqb, leb}
use lib.ListN.{get_or}
use mir.Syntax.{w8}
use mir.Val.{Fits}
use borrow.Author.Tests.{eqb-true}
use Rattle.definition.specs.Edition.{Edition, blocks, phis, statements, expressions}
use Rattle.definition.specs.Words.{word}
use Rattle.definition.specs.Lists.{all_below}
use Rattle.definition.specs.Contents.{size, stmt_word}
use Rattle.definition.specs.Owners.{stmt_kind, stmt_field, first_item}
use Rattle.definition.specs.Shape.{bit, owned, block_shaped, phi_shaped, fields_shaped, items_shaped, stmt_shaped, expr_shaped, shaped}
use Rattle.definition.specs.Ssa.{Stmt}
use Rattle.definition.specs.Read.{all_trees, stmt_at}
use Rattle.definition.specs.Tokens.{Line}
use Rattle.definition.specs.Lower.{Here, lower_kind}
use Rattle.definition.proofs.Bools.{by_test, by_cond, both_true}
use Rattle.records.proofs.Below.{all_fail}
use Rattle.statements.specs.Statement.{kind_number, stmt_record}
use Rattle.statements.specs.View.{view_kind, view_stmt}
use Rattle.statements.specs.declared.statement.Flags.{Flags as FlagsS}
use Rattle.statements.specs.declared.statement.Kind.{Kind as KindS}
use Rattle.statements.specs.declared.statement.Kind.TheVariants.{Flags}
use Rattle.statements.specs.declared.statement.Stmt.{Stmt as StmtS}
use Rattle.statements.proofs.Views.{stmt_owned, kind_number_lem}
use Rattle.inline.specs.Placing.{behind}
use Rattle.naming.proofs.Small.{parts_below}
use Rattle.room.specs.Room.{Sheet, write_all, seen_sheet}
use Rattle.room.proofs.Laws.{written_none}
use Rattle.lowering.specs.Lowered.{lowering_of, lowered}
use Rattle.calling.specs.Given.{CallAt}
use Rattle.jumps.specs.Given.{BranchAt}
use Rattle.lower.specs.Given.{StmtAt}

-- ---- kinds
of_seven : (k n : ℕ) → 1 ≤ n → n ≤ 7 → eqb k n ≡ true → (1 ≤ k) × (k ≤ 7)
of_seven k n l h e = let p : k ≡ n = eqb-true k n e in (omega arith, omega arith)

fields_kind : (k : ℕ) (w : ℕ → ℕ) → fields_shaped k w ≡ true → (1 ≤ k) × (k ≤ 7)
unfolding fields_shaped
fields_kind k w =
    let P : Bool → Type 0 = λ b. b ≡ true → (1 ≤ k) × (k ≤ 7) in
    by_cond P (eqb k 1) (λ e _. of_seven k 1 (omega arith) (omega arith) e) (λ _.
    by_cond P (eqb k 2) (λ e _. of_seven k 2 (omega arith) (omega arith) e) (λ _.
    by_cond P (eqb k 3) (λ e _. of_seven k 3 (omega arith) (omega arith) e) (λ _.
    by_cond P (eqb k 4) (λ e _. of_seven k 4 (omega arith) (omega arith) e) (λ _.
    by_cond P (eqb k 5) (λ e _. of_seven k 5 (omega arith) (omega arith) e) (λ _.
    by_cond P (eqb k 6) (λ e _. of_seven k 6 (omega arith) (omega arith) e) (λ _.
    by_cond P (eqb k 7) (λ e _. of_seven k 7 (omega arith) (omega arith) e) (λ _ h. absurd (false≢true h))))))))

module _ (f : List ℕ) (shape : shaped f ≡ true) (i : ℕ) (here : i < size f statements) where
  all_stmts : all_below (size f statements) (stmt_shaped f) ≡ true
  unfolding shaped
  all_stmts =
      let before = bit (word f 8) && all_below (size f blocks) (block_shaped f) && all_below (size f phis) (phi_shaped f) in
      let these = all_below (size f statements) (stmt_shaped f) in
      (both_true before these (both_true (before && these) (all_below (size f expressions) (expr_shaped f)) shape).0).1

  this_shaped : stmt_shaped f i ≡ true
  this_shaped =
      by_test (stmt_shaped f i) (λ h. h)
      (λ h. absurd (false≢true (all_fail (stmt_shaped f) {i = i} {n = size f statements} {m = size f statements} {t = stmt_shaped f i} refl refl here (ap not h) ∙ all_stmts)))

  fields_shaped_lem : fields_shaped (stmt_kind f i) (stmt_field f i) ≡ true
  unfolding stmt_shaped
  fields_shaped_lem =
      let marks = leb (stmt_word f i 2) 7 in
      let these = fields_shaped (stmt_kind f i) (stmt_field f i) in
      (both_true marks these (both_true (marks && these) (items_shaped f i) this_shaped).0).1

  module _ (first : ℕ) (x : StmtS) (is : x ≡ stmt_record f i first) where
    -- the case that was read is the kind's
    pub kind_is : (k : KindS) → x.kind ≡ k → stmt_kind f i ≡ kind_number k
    unfolding stmt_record
    kind_is k h =
        let r = fields_kind (stmt_kind f i) (stmt_field f i) fields_shaped_lem in
        sym (kind_number_lem f i first r.0 r.1) ∙ ap kind_number (sym (ap (λ (z : StmtS). z.kind) is) ∙ h)

-- ---- Flags, of a file of bytes whose parts come out exactly
module _ (f : List ℕ) (bytes : (k : ℕ) → Fits w8 (get_or f k 0)) (own : owned f ≡ true) (i : ℕ) (here : i < size f statements)
    (item : ℕ) (first : item ≡ first_item f i) (x : StmtS) (is : x ≡ stmt_record f i item) (p : FlagsS) (sets : x.kind ≡ Flags p) (E : Edition) where
  stmt_is : stmt_at E f (all_trees E f) i ≡ view_stmt E f (all_trees E f) x
  stmt_is = sym (stmt_owned E f (all_trees E f) i bytes own here) ∙ ap (view_stmt E f (all_trees E f)) (ap (stmt_record f i) (sym first) ∙ sym is)

  flags_kind : (stmt_at E f (all_trees E f) i).kind ≡ view_kind E f (all_trees E f) (Flags p)
  unfolding view_stmt
  flags_kind = ap (λ (z : Stmt). z.kind) stmt_is ∙ ap (view_kind E f (all_trees E f)) sets

  module _ (H : Here) (pend : List Stmt) (set : List ℕ) (end : ℕ) where
    lowered_flags : lowered E f H pend set end i ≡ []
    unfolding lowered lower_kind view_kind
    lowered_flags = ap (lower_kind (lowering_of E f) H pend set (stmt_at E f (all_trees E f) i) (behind E f end i)) flags_kind

    pub flags_none : (s : Sheet) → seen_sheet s ≡ seen_sheet (write_all s (lowered E f H pend set end i))
    flags_none s = written_none s ∙ ap (λ (ls : List Line). seen_sheet (write_all s ls)) (sym lowered_flags)

-- ---- where a statement stands
pub ends_there : (E : Edition) (f : List ℕ) (H : Here) (pend : List Stmt) (set : List ℕ) (e end i : ℕ) (s s₀ : Sheet) → end ≡ e
    → seen_sheet s ≡ seen_sheet (write_all s₀ (lowered E f H pend set e i)) → seen_sheet s ≡ seen_sheet (write_all s₀ (lowered E f H pend set end i))
ends_there E f H pend set e end i s s₀ p h = h ∙ ap (λ (n : ℕ). seen_sheet (write_all s₀ (lowered E f H pend set n i))) (sym p)

module _ (f : List ℕ) (own : owned f ≡ true) (block i end item : ℕ) (at : StmtAt f block i end item) where
  pub inside : (i < end) × (end ≤ size f statements)
  inside = (at.before_end, omega (arith, at.ends, (parts_below f own block at.inside).1))

  pub here_at_lem : i < size f statements
  here_at_lem = omega (arith, inside.0, inside.1)

  pub call_at : stmt_kind f i ≡ 3 → CallAt f i item
  call_at e = record { kind = e; inside = here_at_lem; first = at.first; own = own }

  pub branch_at : stmt_kind f i ≡ 4 → BranchAt f block i item
  branch_at e =
      record {
        kind = e;
        inside = at.inside;
        here = here_at_lem;
        first = at.first;
        own = own;
      }
