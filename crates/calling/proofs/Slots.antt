-- The target: a tree that loads a constant is told by two records, the second of a lower expression; the name of a direct call is that of the file.
use mathlib.Core.Path.{◌≡◌, refl, sym, ap, ◌∙◌}
use mathlib.Core.Bool.{Bool, true, false, cond, ◌&&◌}
use mathlib.Core.Option.{Option, none, some}
use mathlib.Core.List.{List, [], ◌∷◌}
use Prim.Native.Nat.{ℕ, zero, suc}
use lib.Dec.{eqb, ltb}
use borrow.Author.Tests.{ltb-true, ltb-false, eqb-true}
use Rattle.definition.specs.Codes.{t_const, t_use, t_bin, t_un, t_load}
use Rattle.definition.specs.Edition.{Edition, expressions}
use Rattle.definition.specs.Texts.{txt}
use Rattle.definition.specs.Lists.{range}
use Rattle.definition.specs.Contents.{size, text, text_at, item_word, expr_word, expr_long}
use Rattle.definition.specs.Owners.{stmt_field}
use Rattle.definition.specs.Ssa.{Expr, Name}
use Rattle.definition.specs.Read.{tree_at, tree, trees, all_trees, read}
use Rattle.definition.specs.Offsets.{offsets}
use Rattle.definition.specs.Lookup.{global_name}
use Rattle.definition.specs.Tokens.{Token, tok, symbol}
use Rattle.definition.specs.Render.{global_of, global_or}
use Rattle.definition.specs.Lower.{direct, slot_name, indirect, is_indirect}
use Rattle.definition.proofs.Bools.{by_test, by_cond}
use Rattle.records.proofs.Trees.{tree_lower, tree_past}
use Rattle.text.specs.Supplied.{is_global, global_text}
use Rattle.text.proofs.Lookups.{global_is}
use Rattle.room.specs.Room.{Room, emit, emit_all, seen}
use Rattle.room.proofs.Laws.{done, one}
use Rattle.lowering.specs.Lowered.{lowering_of, expr_of, within_of}
use Rattle.calls.specs.Spelled.{direct_text}
use Rattle.calls.proofs.Naming.{direct_tokens}
use Rattle.lowering.specs.Commas.{trees_of, listed}
use Rattle.calling.specs.Written.{is_slot, slot_text, target_text, target_of}
use Rattle.lowering.proofs.Gen.{gen_supplied}
use Rattle.lowering.proofs.Commas.{listed_cons}

module _ (E : Edition) (f : List ℕ) where
  -- ---- a load of a constant
  abbrev supplied : List Name
  supplied = (lowering_of E f).gen.supplied

  const_tree : (t : List Expr) (c m : ℕ) → global_of supplied m (tree E f t c) ≡ cond (eqb (expr_word f c 0) t_const) (global_name supplied (expr_long f c 1) m) none
  unfolding tree global_of
  const_tree t c m =
      let g = expr_word f c 0 in
      let P : Expr → Type 0 = (λ (x : Expr). global_of supplied m x ≡ none) in
      by_test (eqb g t_const) (λ h. rw h)
      (λ h. rw h
      (by_cond P (eqb g t_use) (λ q. refl) (λ a.
      by_cond P (eqb g t_bin) (λ q. refl) (λ b.
      by_cond P (eqb g t_un) (λ q. refl) (λ d.
      by_cond P (eqb g t_load) (λ q. refl) (λ k. refl))))))

  load_tree : (t : List Expr) (n : ℕ)
      → slot_name (lowering_of E f) (tree E f t n) ≡ cond (eqb (expr_word f n 0) t_load) (global_of supplied (expr_word f n 1) (tree_at t (expr_word f n 2))) none
  unfolding tree slot_name
  load_tree t n =
      let g = expr_word f n 0 in
      let P : Expr → Type 0 = (λ (x : Expr). slot_name (lowering_of E f) x ≡ none) in
      by_test (eqb g t_load) (λ h. rw (eqb-true g t_load h))
      (λ h. rw h
      (by_cond P (eqb g t_const) (λ q. refl) (λ a.
      by_cond P (eqb g t_use) (λ q. refl) (λ b.
      by_cond P (eqb g t_bin) (λ q. refl) (λ c.
      by_cond P (eqb g t_un) (λ q. refl) (λ d. refl))))))

  global_name_lem : (c m : ℕ) → global_name supplied c m ≡ cond (is_global c) (some (global_text f (text E) c m)) none
  unfolding read
  global_name_lem c m = ap (λ (ns : List Name). global_name ns c m) (gen_supplied E f) ∙ global_is E f c m

  -- the constant below n
  below_const : (n c m : ℕ) → global_of supplied m (tree_at (trees E f n) c) ≡ cond (ltb c n && eqb (expr_word f c 0) t_const && is_global (expr_long f c 1)) (some (global_text f (text E) (expr_long f c 1) m)) none
  unfolding global_of
  below_const n c m =
      by_test (ltb c n)
      (λ h. rw h (ap (global_of supplied m) (tree_lower E f n c (ltb-true c n h)) ∙ const_tree (trees E f c) c m
      ∙ both (eqb (expr_word f c 0) t_const) (is_global (expr_long f c 1)) (global_text f (text E) (expr_long f c 1) m) (global_name_lem (expr_long f c 1) m)))
      (λ h. rw h (ap (global_of supplied m) (tree_past E f n c (ltb-false c n h))))
    where
      both : (p q : Bool) {x : Option (List ℕ)} (y : List ℕ) → x ≡ cond q (some y) none → cond p x none ≡ cond (p && q) (some y) none
      both true q y k = k
      both false q y k = refl

  slot_is : (n : ℕ) → slot_name (lowering_of E f) (tree_at (all_trees E f) n) ≡ cond (is_slot f n) (some (slot_text f (text E) n)) none
  unfolding all_trees is_slot slot_text slot_name
  slot_is n =
      let c = expr_word f n 2 in
      by_test (ltb n (size f expressions))
      (λ h. rw h (ap (slot_name (lowering_of E f)) (tree_lower E f (size f expressions) n (ltb-true n (size f expressions) h)) ∙ load_tree (trees E f n) n
      ∙ three (eqb (expr_word f n 0) t_load) (ltb c n) (eqb (expr_word f c 0) t_const) (is_global (expr_long f c 1)) (global_text f (text E) (expr_long f c 1) (expr_word f n 1)) (below_const n c (expr_word f n 1))))
      (λ h. rw h (ap (slot_name (lowering_of E f)) (tree_past E f (size f expressions) n (ltb-false n (size f expressions) h))))
    where
      three : (p q r s : Bool) {x : Option (List ℕ)} (y : List ℕ) → x ≡ cond (q && r && s) (some y) none → cond p x none ≡ cond (p && q && r && s) (some y) none
      three true q r s y k = k
      three false q r s y k = refl

  -- ---- as the target
  abbrev first_tokens : ℕ → List Token
  first_tokens n = indirect (lowering_of E f) (tree_at (all_trees E f) n ∷ [])

  pub first_slot : (t n : ℕ) (r r₀ : Room) (b : Bool) → b ≡ is_slot f n → b ≡ true → text E ≡ t → r ≡ emit r₀ (tok 4 (slot_text f t n))
      → seen r ≡ seen (emit_all r₀ (first_tokens n))
  unfolding indirect global_or
  first_slot t n r r₀ b s h q k =
      let named : slot_name (lowering_of E f) (tree_at (all_trees E f) n) ≡ some (slot_text f t n) =
      slot_is n ∙ ap (λ (p : Bool). cond p (some (slot_text f (text E) n)) none) (sym s ∙ h) ∙ ap (λ (j : ℕ). some (slot_text f j n)) q in
      rw named (one r r₀ (symbol (slot_text f t n)) k)

  pub first_computed : (n : ℕ) (r r₀ : Room) (b : Bool) → b ≡ is_slot f n → b ≡ false → seen r ≡ seen (emit_all r₀ (within_of E f (txt "(*") n (txt ")")))
      → seen r ≡ seen (emit_all r₀ (first_tokens n))
  unfolding indirect global_or within_of expr_of
  first_computed n r r₀ b s h k =
      let none_named : slot_name (lowering_of E f) (tree_at (all_trees E f) n) ≡ none =
      slot_is n ∙ ap (λ (p : Bool). cond p (some (slot_text f (text E) n)) none) (sym s ∙ h) in
      rw none_named k

  -- of n arguments
  pub indirect_none : (item n : ℕ) (r : Room) → n ≡ 0 → seen r ≡ seen (emit_all r (indirect (lowering_of E f) (trees_of E f (listed f item n))))
  unfolding indirect trees_of listed range
  indirect_none item n r h = rw h (done r)

  pub indirect_first : (item n x : ℕ) (r r₀ : Room) → (n ≡ 0 → ⊥) → x ≡ item_word f item 0 → seen r ≡ seen (emit_all r₀ (first_tokens x))
      → seen r ≡ seen (emit_all r₀ (indirect (lowering_of E f) (trees_of E f (listed f item n))))
  unfolding indirect trees_of
  indirect_first item zero x r r₀ h w k = absurd (h refl)
  indirect_first item (suc n) x r r₀ h w k = rw (listed_cons f item n, ← w) k

  -- ---- what is called
  module _ (i item start len : ℕ) (from : start ≡ stmt_field f i 0) (long : len ≡ stmt_field f i 1) (b : Bool) (test : b ≡ is_indirect (text_at E f start len)) where
    spelled : text_at E f start len ≡ target_text E f i
    unfolding target_text
    spelled = rw (from, long)

    computed : is_indirect (target_text E f i) ≡ b
    computed = sym (test ∙ ap is_indirect spelled)

    pub target_computed : (n : ℕ) (r r₀ : Room) → b ≡ true → n ≡ stmt_field f i 2 → seen r ≡ seen (emit_all r₀ (indirect (lowering_of E f) (trees_of E f (listed f item n))))
        → seen r ≡ seen (emit_all r₀ (target_of E f i item))
    unfolding target_of
    target_computed n r r₀ h w k = rw (computed, h, ← w) k

    direct_is : direct (lowering_of E f) (target_text E f i) ≡ symbol (direct_text E f (text_at E f start len)) ∷ []
    unfolding lowering_of
    direct_is = direct_tokens E f (offsets (read E f)) (target_text E f i) ∙ ap (λ (s : List ℕ). symbol (direct_text E f s) ∷ []) (sym spelled)

    pub target_direct : (r r₀ : Room) → b ≡ false → r ≡ emit r₀ (symbol (direct_text E f (text_at E f start len))) → seen r ≡ seen (emit_all r₀ (target_of E f i item))
    unfolding target_of
    target_direct r r₀ h k = rw (computed, h, direct_is) (one r r₀ (symbol (direct_text E f (text_at E f start len))) k)

-- ---- the global that the code writes
pub slot_put : (f : List ℕ) (t n s c x : ℕ) (r r₀ : Room) → s ≡ expr_word f n 1 → c ≡ expr_word f n 2 → x ≡ expr_long f c 1 → r ≡ emit r₀ (tok 4 (global_text f t x s))
    → r ≡ emit r₀ (tok 4 (slot_text f t n))
unfolding slot_text
slot_put f t n s c x r r₀ p q w k = rw (← p, ← q, ← w) k
