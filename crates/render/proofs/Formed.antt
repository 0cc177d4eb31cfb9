-- An expression's tree is what its record says, with a child that is not lower an Opaque of no text; so what it prints is what its form says.
use mathlib.Core.Path.{◌≡◌, refl, sym, ap, ap₂, ◌∙◌}
use mathlib.Core.Bool.{Bool, true, false, cond, ◌&&◌}
use mathlib.Core.Option.{none, some}
use mathlib.Core.List.{List, [], ◌∷◌}
use Prim.Native.Nat.{ℕ, suc, ◌≤◌, ◌<◌}
use native.Mathlib.Omega.{arith}
use lib.Dec.{eqb, ltb}
use borrow.Author.Tests.{lt-ltb, le-ltb, ltb-true, ltb-false, eqb-true}
use Rattle.definition.specs.Codes.{t_const}
use Rattle.definition.specs.Edition.{Edition, expressions}
use Rattle.definition.specs.Contents.{size, text, text_at, expr_word, expr_long}
use Rattle.definition.specs.Values.{value}
use Rattle.definition.specs.Ssa.{Expr, Name}
use Rattle.definition.specs.Ssa.Expr.{Use as DUse, Bin as DBin, Load as DLoad, Opaque as DOpaque}
use Rattle.definition.specs.Read.{tree_at, tree, trees, all_trees, read}
use Rattle.definition.specs.Offsets.{Known, look, offsets, stack_off}
use Rattle.definition.specs.Tokens.{Token, textual, punct}
use Rattle.definition.specs.Render.{Gen, expr, address_or, through, slot_or, global_of, global_or}
use Rattle.definition.proofs.Bools.{by_test, by_cond}
use Rattle.records.proofs.Trees.{tree_lower, tree_past}
use Rattle.values.specs.Tables.{table}
use Rattle.text.specs.Supplied.{is_global, global_text}
use Rattle.text.proofs.Lookups.{global_is}
use Rattle.ssa.specs.declared.node.Bin.{Bin as BinS}
use Rattle.ssa.specs.declared.node.Un.{Un as UnS}
use Rattle.ssa.specs.declared.node.Load.{Load as LoadS}
use Rattle.ssa.specs.declared.node.Node.{Node}
use Rattle.ssa.specs.declared.node.Node.TheVariants.{Const, Use as UseN, Bin as BinN, Un as UnN, Load, Opaque as OpaqueN}
use Rattle.ssa.specs.declared.parts.Text.{Text}
use Rattle.ssa.specs.Node.{use_record, node_by, node_record, node_tag}
use Rattle.ssa.specs.View.{view_node}
use Rattle.ssa.proofs.Views.{node_view}
use Rattle.defined.specs.declared.value.Value.{Value as ValueS}
use Rattle.render.specs.declared.form.Leaf.TheVariants.{Number, Global, Opaque}
use Rattle.render.specs.declared.form.Form.{Form}
use Rattle.render.specs.declared.form.Form.TheVariants.{Leaf, Use, Bin, Un, Through}
use Rattle.render.specs.Gens.{gen_at, rendered, used}
use Rattle.render.specs.Forms.{rendered_below, off_at, address_tokens, leaf_tokens, form_tokens, offset_form, bin_form, slot_form, load_form, node_form, form_of}
use Rattle.render.proofs.Opening.{gen_supplied, gen_offsets}

-- ---- only a Use's record is a Use
as_use : ValueS → Node → ValueS
as_use d (Const c) = d
as_use d (UseN v) = v
as_use d (BinN s) = d
as_use d (UnN s) = d
as_use d (Load s) = d
as_use d (OpaqueN x) = d

other_tag : {A : Type 0} {x y : Node} → x ≡ y → (node_tag x ≡ node_tag y → ⊥) → A
other_tag e h = absurd (h (ap node_tag e))

pub use_record_lem : (f : List ℕ) (n : ℕ) (v : ValueS) → node_record f n ≡ UseN v → (expr_word f n 0 ≡ 2) × (v ≡ use_record f n)
unfolding node_by node_tag as_use
use_record_lem f n v =
    let g = expr_word f n 0 in
    let P : Node → Type 0 = (λ (x : Node). x ≡ UseN v → (g ≡ 2) × (v ≡ use_record f n)) in
    by_cond P (eqb g 1) (λ e q. other_tag q (λ z. omega arith)) (λ a.
    by_cond P (eqb g 2) (λ e q. (eqb-true g 2 e, sym (ap (as_use v) q))) (λ b.
    by_cond P (eqb g 3) (λ e q. other_tag q (λ z. omega arith)) (λ c.
    by_cond P (eqb g 4) (λ e q. other_tag q (λ z. omega arith)) (λ d.
    by_cond P (eqb g 5) (λ e q. other_tag q (λ z. omega arith)) (λ h q. other_tag q (λ z. omega arith))))))

-- 1 and its register for the form of a value
use_form : Form → ℕ
use_form (Leaf l) = 0
use_form (Use r) = suc r
use_form (Bin s) = 0
use_form (Un s) = 0
use_form (Through s) = 0

module _ (E : Edition) (f : List ℕ) (n r : ℕ) where
  use_node : (x : Node) → node_record f n ≡ x → use_form (node_form E f n x) ≡ suc r → (expr_word f n 0 ≡ 2) × (r ≡ expr_word f n 1)
  unfolding node_form use_form offset_form load_form
  use_node (Const c) e q = absurd (omega arith)
  use_node (UseN v) e q = let u = use_record_lem f n v e in (u.0, omega (arith, ap (λ (w : ValueS). w.reg) u.1))
  use_node (BinN s) e q = by_cond (λ x. use_form x ≡ suc r → (expr_word f n 0 ≡ 2) × (r ≡ expr_word f n 1)) (eqb (off_at E f n) 0) (λ b z. absurd (omega arith)) (λ b z. absurd (omega arith)) q
  use_node (UnN s) e q = absurd (omega arith)
  use_node (Load s) e q =
      let P : Form → Type 0 = (λ (x : Form). use_form x ≡ suc r → (expr_word f n 0 ≡ 2) × (r ≡ expr_word f n 1)) in
      by_cond P (ltb s.child n)
      (λ a. by_cond P (eqb (expr_word f s.child 0) t_const && is_global (expr_long f s.child 1)) (λ b z. absurd (omega arith))
      (λ b. by_cond P (eqb (off_at E f s.child) 0) (λ d z. absurd (omega arith)) (λ d z. absurd (omega arith))))
      (λ a z. absurd (omega arith)) q
  use_node (OpaqueN x) e q = absurd (omega arith)

  pub use_form_lem : Use r ≡ form_of E f n → (expr_word f n 0 ≡ 2) × (r ≡ expr_word f n 1)
  unfolding form_of use_form
  use_form_lem e = use_node (node_record f n) refl (sym (ap use_form e))

-- ---- the trees of a file
module _ (E : Edition) (f : List ℕ) where
  -- each is its record's, with the trees below it
  trees_at : (n i : ℕ) → tree_at (trees E f n) i ≡ cond (ltb i n) (tree E f (trees E f i) i) (DOpaque [])
  trees_at n i = by_test (ltb i n) (λ e. rw e (tree_lower E f n i (ltb-true i n e))) (λ e. rw e (tree_past E f n i (ltb-false i n e)))

  -- an expression of the file, and a child of it
  tree_node : (n : ℕ) → n < size f expressions → tree_at (all_trees E f) n ≡ view_node E f (trees E f n) (node_record f n)
  unfolding all_trees
  tree_node n h = trees_at (size f expressions) n ∙ rw (lt-ltb n (size f expressions) h) (sym (node_view E f (trees E f n) n))

  tree_child : (n x : ℕ) → n ≤ size f expressions → tree_at (trees E f n) x ≡ cond (ltb x n) (tree_at (all_trees E f) x) (DOpaque [])
  unfolding all_trees
  tree_child n x h =
      trees_at n x
      ∙ by_test (ltb x n)
      (λ e. rw e (sym (trees_at (size f expressions) x ∙ rw (lt-ltb x (size f expressions) (omega (arith, ltb-true x n e))))))
      (λ e. rw e)

  module _ (pos : ℕ) where
    -- what is outside prints as an Opaque of no text
    pub below_past : (b n : ℕ) (top : Bool) → b ≤ n → rendered_below E f pos b top n ≡ textual [] ∷ []
    unfolding rendered_below
    below_past b n top h = rw (le-ltb n b h)

    pub below_in : (b n : ℕ) (top : Bool) → n < b → rendered_below E f pos b top n ≡ rendered E f pos top n
    unfolding rendered_below
    below_in b n top h = rw (lt-ltb n b h)

    child_below : (n x : ℕ) (top : Bool) → n ≤ size f expressions → expr (gen_at E f pos) top (tree_at (trees E f n) x) ≡ rendered_below E f pos n top x
    unfolding rendered_below rendered expr
    child_below n x top h =
        ap (expr (gen_at E f pos) top) (tree_child n x h)
        ∙ by_test (ltb x n) (λ e. rw e) (λ e. rw e)

    pub below_all : (n : ℕ) (top : Bool) → rendered_below E f pos (size f expressions) top n ≡ rendered E f pos top n
    unfolding rendered all_trees
    below_all n top = sym (child_below (size f expressions) n top (omega arith))

    -- ---- its form
    module _ (n : ℕ) (here : n < size f expressions) where
      abbrev G : Gen
      G = gen_at E f pos

      abbrev child : ℕ → Expr
      child x = tree_at (trees E f n) x

      off_child : (x : ℕ) → x < n → stack_off G.offsets (child x) ≡ off_at E f x
      unfolding off_at
      off_child x l = ap₂ stack_off (gen_offsets E f pos) (tree_child n x (omega arith) ∙ rw (lt-ltb x n l))

      form_bin : (top : Bool) (s : BinS) → node_record f n ≡ BinN s → expr G top (view_node E f (trees E f n) (BinN s)) ≡ form_tokens E f pos n top (bin_form (off_at E f n) s)
      unfolding expr view_node address_or offset_form form_tokens leaf_tokens address_tokens off_at
      form_bin top s e =
          let o : stack_off G.offsets (DBin (text_at E f s.op.start s.op.len) (child s.left) (child s.right)) ≡ stack_off (offsets (read E f)) (tree_at (all_trees E f) n) =
          ap₂ stack_off (gen_offsets E f pos) (sym (tree_node n here ∙ ap (view_node E f (trees E f n)) e)) in
          rw (o, child_below n s.left false (omega arith), child_below n s.right false (omega arith))
          (by_test (eqb (stack_off (offsets (read E f)) (tree_at (all_trees E f) n)) 0) (λ q. rw q) (λ q. rw q))

      -- the global that a load reads is a constant's
      global_load : (x m : ℕ) → x < n
          → global_of G.supplied m (child x) ≡ cond (eqb (expr_word f x 0) t_const && is_global (expr_long f x 1)) (some (global_text f (text E) (expr_long f x 1) m)) none
      unfolding global_of tree read
      global_load x m l =
          let g = expr_word f x 0 in
          let here : child x ≡ tree E f (trees E f x) x = trees_at n x ∙ rw (lt-ltb x n l) in
          ap₂ (λ (ns : List Name) (y : Expr). global_of ns m y) (gen_supplied E f pos) here
          ∙ by_test (eqb g 1)
          (λ e. rw e (global_is E f (expr_long f x 1) m))
          (λ e. rw e (by_cond (λ y. global_of (read E f).names m y ≡ none) (eqb g 2) (λ a. refl) (λ a.
          by_cond (λ y. global_of (read E f).names m y ≡ none) (eqb g 3) (λ b. refl) (λ b.
          by_cond (λ y. global_of (read E f).names m y ≡ none) (eqb g 4) (λ d. refl) (λ d.
          by_cond (λ y. global_of (read E f).names m y ≡ none) (eqb g 5) (λ q. refl) (λ q. refl))))))

      form_load : (top : Bool) (s : LoadS) → expr G top (DLoad s.size (child s.child)) ≡ form_tokens E f pos n top (load_form E f n s)
      unfolding expr global_or global_of slot_or stack_off load_form offset_form form_tokens leaf_tokens
      form_load top s =
          by_test (ltb s.child n) (λ e. low (ltb-true s.child n e)) (λ e. high (ltb-false s.child n e))
        where
          low : s.child < n → expr G top (DLoad s.size (child s.child)) ≡ form_tokens E f pos n top (load_form E f n s)
          low l =
              rw (lt-ltb s.child n l, global_load s.child s.size l, off_child s.child l, child_below n s.child true (omega arith))
              (by_test (eqb (expr_word f s.child 0) t_const && is_global (expr_long f s.child 1)) (λ q. rw q)
              (λ q. rw q (by_test (eqb (off_at E f s.child) 0) (λ z. rw z) (λ z. rw z))))

          past : n ≤ s.child → child s.child ≡ DOpaque []
          past h = tree_child n s.child (omega arith) ∙ rw (le-ltb s.child n h)

          high : n ≤ s.child → expr G top (DLoad s.size (child s.child)) ≡ form_tokens E f pos n top (load_form E f n s)
          high h =
              rw (le-ltb s.child n h, ← child_below n s.child true (omega arith))
              (ap₂ global_or (ap (λ (o : ℕ). slot_or o (through s.size (expr G true (child s.child)))) (ap (stack_off G.offsets) (past h)))
              (ap (global_of G.supplied s.size) (past h)))

      form_node : (top : Bool) (x : Node) → node_record f n ≡ x → expr G top (view_node E f (trees E f n) x) ≡ form_tokens E f pos n top (node_form E f n x)
      unfolding expr view_node node_form form_tokens leaf_tokens used
      form_node top (Const c) e = refl
      form_node top (UseN v) e = ap (λ (w : ℕ). expr G top (DUse (value v.reg w))) (ap (λ (w : ValueS). w.ver) (use_record_lem f n v e).1)
      form_node top (BinN s) e = form_bin top s e
      form_node top (UnN s) e = ap (λ (ts : List Token). punct (text_at E f s.op.start s.op.len) ∷ ts) (child_below n s.child false (omega arith))
      form_node top (Load s) e = form_load top s
      form_node top (OpaqueN x) e = refl

      pub form_is : (top : Bool) → rendered E f pos top n ≡ form_tokens E f pos n top (form_of E f n)
      unfolding rendered form_of
      form_is top = ap (expr G top) (tree_node n here) ∙ form_node top (node_record f n) refl

-- ---- the returns of the functions that find it
module _ (f : List ℕ) (t n : ℕ) (s : LoadS) where
  pub load_high : n ≤ s.child → (E : Edition) → text E ≡ t → Through s ≡ load_form E f n s
  unfolding load_form
  load_high h E z = rw (le-ltb s.child n h)

  module _ (low : s.child < n) (b : Bool) (const : b ≡ (eqb (expr_word f s.child 0) t_const && is_global (expr_long f s.child 1))) where
    pub load_global : (c : ℕ) → b ≡ true → c ≡ expr_long f s.child 1 → (E : Edition) → text E ≡ t → Leaf (Global (record { address = c; size = s.size })) ≡ load_form E f n s
    unfolding load_form
    load_global c e p E z = rw (lt-ltb s.child n low, ← const, e, p)

    pub load_slot : (offs : List ℕ) (m o : ℕ) (r : Form) → b ≡ false
        → ((E : Edition) (k : List Known) → text E ≡ t → offs ≡ table f m (look k) → o ≡ stack_off k (tree_at (all_trees E f) s.child))
        → ((E : Edition) → text E ≡ t → offs ≡ table f m (look (offsets (read E f))))
        → r ≡ slot_form o s → (E : Edition) → text E ≡ t → r ≡ load_form E f n s
    unfolding load_form off_at
    load_slot offs m o r e p k q E z = q ∙ rw (lt-ltb s.child n low, ← const, e, ← p E (offsets (read E f)) z (k E z))

module _ (f : List ℕ) (t n : ℕ) (x : Node) (is : x ≡ node_record f n) where
  -- by the node
  of_node : (y : Node) → x ≡ y → (E : Edition) → node_form E f n y ≡ form_of E f n
  unfolding form_of
  of_node y e E = ap (node_form E f n) (sym e ∙ is)

  pub form_const : (c : ℕ) → x ≡ Const c → (E : Edition) → text E ≡ t → Leaf (Number c) ≡ form_of E f n
  unfolding node_form
  form_const c e E z = of_node (Const c) e E

  pub form_use : (v : ValueS) → x ≡ UseN v → (E : Edition) → text E ≡ t → Use v.reg ≡ form_of E f n
  unfolding node_form
  form_use v e E z = of_node (UseN v) e E

  pub form_two : (offs : List ℕ) (m : ℕ) (s : BinS) (o : ℕ) (r : Form) → x ≡ BinN s
      → ((E : Edition) (k : List Known) → text E ≡ t → offs ≡ table f m (look k) → o ≡ stack_off k (tree_at (all_trees E f) n))
      → ((E : Edition) → text E ≡ t → offs ≡ table f m (look (offsets (read E f))))
      → r ≡ bin_form o s → (E : Edition) → text E ≡ t → r ≡ form_of E f n
  unfolding node_form off_at
  form_two offs m s o r e p k q E z = q ∙ ap (λ (z : ℕ). bin_form z s) (p E (offsets (read E f)) z (k E z)) ∙ of_node (BinN s) e E

  pub form_un : (s : UnS) → x ≡ UnN s → (E : Edition) → text E ≡ t → Un s ≡ form_of E f n
  unfolding node_form
  form_un s e E z = of_node (UnN s) e E

  pub form_through : (s : LoadS) (r : Form) → x ≡ Load s → ((E : Edition) → text E ≡ t → r ≡ load_form E f n s) → (E : Edition) → text E ≡ t → r ≡ form_of E f n
  unfolding node_form
  form_through s r e p E z = p E z ∙ of_node (Load s) e E

  pub form_opaque : (y : Text) → x ≡ OpaqueN y → (E : Edition) → text E ≡ t → Leaf (Opaque y) ≡ form_of E f n
  unfolding node_form
  form_opaque y e E z = of_node (OpaqueN y) e E
