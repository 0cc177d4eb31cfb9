-- What a marked statement sets the flags by, by its kind; and that the last marked statement is the definition's last setter.
use mathlib.Core.Path.{◌≡◌, refl, sym, ap, ◌∙◌}
use mathlib.Core.Bool.{Bool, true, false, cond, not}
use mathlib.Core.Option.{Option, none, some}
use mathlib.Core.List.{List, [], ◌∷◌, map}
use Prim.Native.Nat.{ℕ}
use Rattle.std.specs.Prelude.{Option as Answer, Some, None}
use Rattle.std.specs.Bool.{then_some}
use lib.Dec.{eqb}
use denote.Enum.Declared.{tag_of}
use types.Run.{OneOf, miss}
use Rattle.definition.specs.Codes.{k_assign, k_store, k_call, k_branch, k_flags, k_return}
use Rattle.definition.specs.Edition.{Edition}
use Rattle.definition.specs.Contents.{text}
use Rattle.definition.specs.Owners.{stmt_kind}
use Rattle.definition.specs.Ssa.{Kind as DKind, eqe}
use Rattle.definition.specs.Read.{tree_at, all_trees, kind_at, marked, stmt_at}
use Rattle.definition.specs.Condition as D
use Rattle.definition.specs.Condition.{setting_of, last_setter, setter_of}
use Rattle.definition.proofs.Bools.{by_test, by_cond}
use Rattle.ssa.specs.View.{option_of}
use Rattle.ssa.proofs.Views.{through}
use Rattle.statements.specs.Statement.{assign_record, kind_by, kind_record, stmt_record}
use Rattle.statements.specs.View.{view_kind}
use Rattle.statements.specs.declared.statement.Assign.{Assign as AssignS}
use Rattle.statements.specs.declared.statement.Flags.{Flags as FlagsS}
use Rattle.statements.specs.declared.statement.Stmt.{Stmt}
use Rattle.statements.specs.declared.statement.Kind.{Kind}
use Rattle.statements.specs.contracts.statement.Kind.{the_type}
use Rattle.statements.specs.declared.statement.Kind.TheVariants.{Assign, Store, Call, Branch, Flags, Return, Other}
use Rattle.flags.specs.Views.{view_setter, setting, view_setting}
use Rattle.flags.specs.Marked.{last_marked}
use Rattle.flags.specs.declared.comparison.Setter.{Setter}
use Rattle.flags.specs.declared.comparison.Setter.TheVariants.{Cmp, Test, Same}
use Rattle.flags.specs.declared.comparison.Setting.{Setting}
use Rattle.flags.specs.declared.comparison.Setting.TheVariants.{Operands, Result}

-- ---- a Flags
module _ (f : List ℕ) (t : ℕ) (c : FlagsS) where
  -- the answer with this setter is right
  abbrev By : Setter → Type 0
  By b = (E : Edition) → text E ≡ t
      → view_setting E f (Some (Operands (record { by = b; left = c.left; right = c.right }))) ≡ setting_of (view_kind E f (all_trees E f) (Flags c))

  pub is_cmp : c.test ≡ false → By Cmp
  unfolding view_setting view_setter setting view_kind setting_of
  is_cmp h E e = rw h

  module _ (tests : c.test ≡ true) (b : Bool) (says : (E : Edition) → text E ≡ t → b ≡ eqe (tree_at (all_trees E f) c.left) (tree_at (all_trees E f) c.right)) where
    pub is_same : b ≡ true → By Same
    unfolding view_setting view_setter setting view_kind setting_of
    is_same y E e = rw (tests, ← says E e, y)

    pub is_test_lem : b ≡ false → By Test
    unfolding view_setting view_setter setting view_kind setting_of
    is_test_lem y E e = rw (tests, ← says E e, y)

-- ---- the kinds that set none, which the code takes together
none_by : (E : Edition) (f : List ℕ) (k : Kind) → OneOf (1 ∷ 2 ∷ 3 ∷ 5 ∷ 6 ∷ []) (tag_of the_type k) → view_setting E f None ≡ setting_of (view_kind E f (all_trees E f) k)
unfolding view_setting view_kind setting_of
none_by E f (Assign s) h = absurd (miss (1 ∷ 2 ∷ 3 ∷ 5 ∷ 6 ∷ []) 0 tt h)
none_by E f (Store s) h = refl
none_by E f (Call s) h = refl
none_by E f (Branch s) h = refl
none_by E f (Flags s) h = absurd (miss (1 ∷ 2 ∷ 3 ∷ 5 ∷ 6 ∷ []) 4 tt h)
none_by E f (Return s) h = refl
none_by E f (Other s) h = refl

-- ---- a statement, by its record
module _ (f : List ℕ) (i first : ℕ) where
  -- what it sets the flags by does not depend on its list items
  setting_view : (E : Edition) → setting_of (view_kind E f (all_trees E f) (kind_record f i first)) ≡ setting_of (kind_at E f (all_trees E f) i)
  unfolding view_kind kind_by kind_at setting_of
  setting_view E =
      let s : Kind → Option D.Setting = λ k. setting_of (view_kind E f (all_trees E f) k) in
      let g = stmt_kind f i in
      through s setting_of (eqb g k_assign) _ _ _ _ refl
      (through s setting_of (eqb g k_store) _ _ _ _ refl
      (through s setting_of (eqb g k_call) _ _ _ _ refl
      (through s setting_of (eqb g k_branch) _ _ _ _ refl
      (through s setting_of (eqb g k_flags) _ _ _ _ refl
      (through s setting_of (eqb g k_return) _ _ _ _ refl refl)))))

  -- the Assign's record, where it is one
  unfoldable assign_of : AssignS → Kind → AssignS
  assign_of d (Assign a) = a
  assign_of d (Store s) = d
  assign_of d (Call s) = d
  assign_of d (Branch s) = d
  assign_of d (Flags s) = d
  assign_of d (Return s) = d
  assign_of d (Other s) = d

  assign_read : assign_of (assign_record f i) (kind_record f i first) ≡ assign_record f i
  unfolding assign_of kind_by
  assign_read =
      let g = stmt_kind f i in
      let P : Kind → Type 0 = λ k. assign_of (assign_record f i) k ≡ assign_record f i in
      by_cond P (eqb g k_assign) (λ _. refl) (λ _.
      by_cond P (eqb g k_store) (λ _. refl) (λ _.
      by_cond P (eqb g k_call) (λ _. refl) (λ _.
      by_cond P (eqb g k_branch) (λ _. refl) (λ _.
      by_cond P (eqb g k_flags) (λ _. refl) (λ _.
      by_cond P (eqb g k_return) (λ _. refl) (λ _. refl))))))

  module _ (t : ℕ) (s : Stmt) (is : s ≡ stmt_record f i first) where
    abbrev Is : Answer Setting → Type 0
    Is x = (E : Edition) → text E ≡ t → view_setting E f x ≡ setting_of (kind_at E f (all_trees E f) i)

    kind_read : s.kind ≡ kind_record f i first
    unfolding stmt_record
    kind_read = ap (λ (x : Stmt). x.kind) is

    -- by the kind that the record has
    pub at_kind : (x : Answer Setting) (k : Kind) → s.kind ≡ k → ((E : Edition) → text E ≡ t → view_setting E f x ≡ setting_of (view_kind E f (all_trees E f) k)) → Is x
    at_kind x k h says E e = says E e ∙ ap (λ (z : Kind). setting_of (view_kind E f (all_trees E f) z)) (sym h ∙ kind_read) ∙ setting_view E

    -- neither Flags nor an Assign
    pub at_none : OneOf (1 ∷ 2 ∷ 3 ∷ 5 ∷ 6 ∷ []) (tag_of the_type s.kind) → Is None
    at_none h = at_kind None s.kind refl (λ E e. none_by E f s.kind h)

    module _ (a : AssignS) (assigns : s.kind ≡ Assign a) where
      assign_is : a ≡ assign_record f i
      unfolding assign_of
      assign_is = ap (assign_of (assign_record f i)) (sym assigns ∙ kind_read) ∙ assign_read

      pub at_assign : (x : Answer Setting) → x ≡ then_some (not (eqb a.value.reg 4)) (Result i) → Is x
      unfolding view_setting setting setting_of view_kind
      at_assign x e =
          rw e (by_test (eqb a.value.reg 4)
          (λ h. rw h (at_kind None (Assign a) assigns (λ E e. rw h)))
          (λ h. rw h (at_kind (Some (Result i)) (Assign a) assigns (λ E e. rw (h, assign_is)))))

-- ---- the last marked statement is the last setter
module _ (E : Edition) (f : List ℕ) where
  unfoldable kind_for : Option ℕ → Option DKind
  kind_for none = none
  kind_for (some i) = some (kind_at E f (all_trees E f) i)

  kind_choice : (b : Bool) (i : ℕ) (o : Option ℕ) → cond b (some (kind_at E f (all_trees E f) i)) (kind_for o) ≡ kind_for (cond b (some i) o)
  unfolding kind_for
  kind_choice true i o = refl
  kind_choice false i o = refl

  last_kind : (o : Option ℕ) (is : List ℕ) → last_setter (kind_for o) (map (stmt_at E f (all_trees E f)) is) ≡ kind_for (last_marked f o is)
  unfolding last_setter last_marked stmt_at
  last_kind o [] = refl
  last_kind o (i ∷ is) =
      ap (λ (k : Option DKind). last_setter k (map (stmt_at E f (all_trees E f)) is)) (kind_choice (marked f i 2) i o)
      ∙ last_kind (cond (marked f i 2) (some i) o) is

  module _ (is : List ℕ) (last : Answer ℕ) (says : option_of last ≡ last_marked f none is) where
    setter_is : (o : Option ℕ) → option_of last ≡ o → setter_of (kind_for o) ≡ setter_of (last_setter none (map (stmt_at E f (all_trees E f)) is))
    unfolding kind_for
    setter_is o e = sym (ap setter_of (last_kind none is ∙ ap kind_for (sym says ∙ e)))

    pub set_last : (s : Answer Setting) (i : ℕ) → last ≡ Some i → view_setting E f s ≡ setting_of (kind_at E f (all_trees E f) i)
        → view_setting E f s ≡ setter_of (last_setter none (map (stmt_at E f (all_trees E f)) is))
    unfolding kind_for setter_of
    set_last s i h e = e ∙ setter_is (some i) (ap option_of h)

    pub none_set : (s : Answer Setting) → s ≡ None → last ≡ None → view_setting E f s ≡ setter_of (last_setter none (map (stmt_at E f (all_trees E f)) is))
    unfolding kind_for setter_of view_setting
    none_set s e h = rw e (setter_is none (ap option_of h))
