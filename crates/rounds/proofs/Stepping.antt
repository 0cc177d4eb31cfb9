-- What each return of the functions over definitions comes to: a definition that is not this closure's, or no Assign, adds nothing; any other adds what
-- the definition's rule derives of the table.
use mathlib.Core.Path.{◌≡◌, refl, sym, ap, ◌∙◌}
use mathlib.Core.Bool.{Bool, true, false}
use mathlib.Core.List.{List, [], ◌∷◌, ◌++◌, map}
use Prim.Native.Nat.{ℕ, ◌+◌, ◌<◌}
use lib.Dec.{eqb}
use lib.ListN.{length, get_or}
use mir.Syntax.{w8}
use mir.Val.{Fits}
use borrow.Author.Tests.{ne_eqb}
use Rattle.definition.specs.Edition.{Edition, phis, statements}
use Rattle.definition.specs.Lists.{gather, range, at}
use Rattle.definition.specs.Contents.{size, text, phi_word, input_at}
use Rattle.definition.specs.Owners.{stmt_kind, stmt_field, phi_inputs, first_input}
use Rattle.definition.specs.Values.{value}
use Rattle.definition.specs.Ssa.{Kind}
use Rattle.definition.specs.Read.{tree_at, all_trees, kind_at, stmt_at, phi_at}
use Rattle.definition.specs.Offsets.{Known, look, stack_off, by_phi, by_expr, phi_def, stmt_def, defined, rule}
use Rattle.definition.proofs.Bools.{by_cond}
use Rattle.places.specs.declared.Places.{Places}
use Rattle.values.specs.Tables.{table}
use Rattle.sums.specs.Ground.{Ground}
use Rattle.sums.specs.Address.{value_at}
use Rattle.rounds.specs.Agreed.{agreed_by}
use Rattle.rounds.specs.Defs.{turn_of, mine, phi_defs, stmt_defs}
use Rattle.rounds.specs.Ran.{pass_of, learnt, Ran}
use Rattle.rounds.proofs.Agreeing.{phi_names, assign_names, phi_agreed}
use Rattle.rounds.proofs.Running.{ran_same, learn_ran, mine_one, mine_other, mine_none, nothing_ran}

-- ---- definitions that add nothing
module _ (f : List ℕ) (n : ℕ) (own : Bool) (tab : List ℕ) where
  pub phi_other : (i r : ℕ) (b : Bool) → r ≡ phi_word f i 0 → b ≡ turn_of own r → b ≡ false → Ran f n (mine own (phi_defs f i 1)) tab tab false
  unfolding phi_defs range phi_def phi_at defined
  phi_other i r b p q e = nothing_ran f n own (phi_defs f i 1) tab (mine_other own (phi_def (phi_at f i)) (rw (q, p) at e))

  module _ (E : Edition) (i : ℕ) where
    no_assign : (stmt_kind f i ≡ 1 → ⊥) → stmt_defs E f i 1 ≡ []
    unfolding stmt_defs range gather stmt_at kind_at stmt_def
    no_assign h =
        let k = stmt_kind f i in
        let P : Kind → Type 0 = (λ x. stmt_def x ++ [] ≡ []) in
        rw (ne_eqb k 1 h)
        (by_cond P (eqb k 2) (λ e. refl) (λ e.
        by_cond P (eqb k 3) (λ e. refl) (λ e.
        by_cond P (eqb k 4) (λ e. refl) (λ e.
        by_cond P (eqb k 5) (λ e. refl) (λ e.
        by_cond P (eqb k 6) (λ e. refl) (λ e. refl))))))

    pub one_assign : stmt_kind f i ≡ 1 → stmt_defs E f i 1 ≡ by_expr (value (stmt_field f i 0) (stmt_field f i 1)) (tree_at (all_trees E f) (stmt_field f i 2)) ∷ []
    unfolding stmt_defs range gather stmt_at kind_at stmt_def
    one_assign e = rw e

    pub stmt_none : (k : ℕ) → k ≡ stmt_kind f i → (k ≡ 1 → ⊥) → Ran f n (mine own (stmt_defs E f i 1)) tab tab false
    stmt_none k p h = nothing_ran f n own (stmt_defs E f i 1) tab (ap (mine own) (no_assign (λ e. h (p ∙ e))) ∙ mine_none own)

    pub assign_other : (k r : ℕ) (b : Bool) → k ≡ stmt_kind f i → k ≡ 1 → r ≡ stmt_field f i 0 → b ≡ turn_of own r → b ≡ false → Ran f n (mine own (stmt_defs E f i 1)) tab tab false
    unfolding defined
    assign_other k r b p h q u e =
        let d = by_expr (value (stmt_field f i 0) (stmt_field f i 1)) (tree_at (all_trees E f) (stmt_field f i 2)) in
        nothing_ran f n own (stmt_defs E f i 1) tab (ap (mine own) (one_assign (sym p ∙ h)) ∙ mine_other own d (rw (u, q) at e))

-- ---- definitions whose turn it is
module _ (f numbers : List ℕ) (places : Places) (g : Ground f numbers places) (bytes : (k : ℕ) → Fits w8 (get_or f k 0))
    (tab : List ℕ) (long : length tab ≡ length numbers) (own : Bool) (after : List ℕ) (changed : Bool) where
  phi_ran_at : (i x u : ℕ) → i < size f phis → turn_of own (phi_word f i 0) ≡ true
      → x ≡ agreed_by (value_at tab numbers (places.inputs + first_input f i)) (phi_inputs f i) → u ≡ at numbers (places.phis + i)
      → pass_of after changed ≡ learnt tab u x → Ran f (length numbers) (mine own (phi_defs f i 1)) tab after changed
  unfolding phi_defs range phi_def phi_at defined rule
  phi_ran_at i x u h e p q s =
      let d = by_phi (value (phi_word f i 0) (phi_word f i 1)) (map (value (phi_word f i 0)) (map (input_at f) (range (first_input f i) (phi_inputs f i)))) in
      ran_same f (length numbers) (mine own (d ∷ [])) (d ∷ []) tab after changed (mine_one own d e)
      (learn_ran f numbers places g tab long d (places.phis + i) (phi_names f numbers places g bytes i h) x
      (λ k follows. p ∙ phi_agreed f numbers places g bytes tab k follows i h) after u changed q s)

  pub phi_ran : (i first r n x u : ℕ) (b : Bool) → i < size f phis → first ≡ first_input f i → r ≡ phi_word f i 0 → b ≡ turn_of own r → b ≡ true → n ≡ phi_inputs f i
      → x ≡ agreed_by (value_at tab numbers (places.inputs + first)) n → u ≡ at numbers (places.phis + i) → pass_of after changed ≡ learnt tab u x
      → Ran f (length numbers) (mine own (phi_defs f i 1)) tab after changed
  phi_ran i first r n x u b h a p q e m y z s = phi_ran_at i x u h (rw (q, p) at e) (rw (a, m) at y) z s

  pub assign_ran : (t i k r e x u : ℕ) (b : Bool) → i < size f statements → k ≡ stmt_kind f i → k ≡ 1 → r ≡ stmt_field f i 0 → b ≡ turn_of own r → b ≡ true
      → e ≡ stmt_field f i 2
      → ((E : Edition) (k : List Known) → text E ≡ t → tab ≡ table f (length numbers) (look k) → x ≡ stack_off k (tree_at (all_trees E f) e))
      → u ≡ at numbers (places.stmts + i) → pass_of after changed ≡ learnt tab u x
      → (E : Edition) → text E ≡ t → Ran f (length numbers) (mine own (stmt_defs E f i 1)) tab after changed
  unfolding defined rule
  assign_ran t i k r e x u b h p o q v w m off z s E sec =
      let d = by_expr (value (stmt_field f i 0) (stmt_field f i 1)) (tree_at (all_trees E f) (stmt_field f i 2)) in
      ran_same f (length numbers) (mine own (stmt_defs E f i 1)) (d ∷ []) tab after changed
      (ap (mine own) (one_assign f (length numbers) own tab E i (sym p ∙ o)) ∙ mine_one own d (rw (v, q) at w))
      (learn_ran f numbers places g tab long d (places.stmts + i) (assign_names f numbers places g bytes i h (sym p ∙ o)) x
      (λ j follows. rw m at (off E j sec follows)) after u changed z s)
