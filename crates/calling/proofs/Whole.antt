-- The line: a call's record is the definition's Call, with its arguments, result and target read off its fields and list items; and the pieces in order
-- are its tokens.
use mathlib.Core.Path.{◌≡◌, refl, sym, ap, ◌∙◌}
use mathlib.Core.Bool.{Bool, true, false, cond}
use mathlib.Core.Option.{some}
use mathlib.Core.List.{List, [], ◌∷◌, ◌++◌, map}
use Prim.Native.Nat.{ℕ, min, ◌-◌, ◌+◌}
use lib.Dec.{eqb}
use lib.ListN.{take, drop}
use borrow.Author.Tests.{eq-eqb, ne_eqb}
use Rattle.definition.specs.Edition.{Edition}
use Rattle.definition.specs.Texts.{txt}
use Rattle.definition.specs.Lists.{gather, range}
use Rattle.definition.specs.Contents.{stmt_long, item_word, text_at}
use Rattle.definition.specs.Owners.{stmt_field, expr_items}
use Rattle.definition.specs.Values.{value}
use Rattle.definition.specs.References.{item_exprs}
use Rattle.definition.specs.Meaning.{bits, item_values}
use Rattle.definition.specs.Ssa.{Expr, Stmt}
use Rattle.definition.specs.Ssa.Kind.{Call}
use Rattle.definition.specs.Read.{when, tree_at, all_trees, kind_at, marked, stmt_at, read}
use Rattle.definition.specs.Tokens.{punct, line}
use Rattle.definition.specs.Lower.{Here, is_indirect, pushed, comma_list, count_set, call_args, call, waiting, lower_kind}
use Rattle.definition.specs.Blocks.{lowering}
use Rattle.inline.specs.Placing.{behind}
use Rattle.room.specs.Room.{Room, emit, emit_all, seen}
use Rattle.room.proofs.Laws.{next, more, done, one, pieces_are}
use Rattle.lowering.specs.Lowered.{lowering_of, stmt_of, lowered}
use Rattle.calls.specs.Waiting.{pending, pushed_nodes}
use Rattle.calls.proofs.Waits.{pushed_nodes_lem}
use Rattle.calling.specs.Given.{CallAt}
use Rattle.lowering.specs.Commas.{trees_of, listed}
use Rattle.calling.specs.Written.{result_of, target_text, target_of, skip, counted, waiting_nodes, arg_nodes, call_of}
use Rattle.lowering.proofs.Gen.{gen_bits}
use Rattle.lowering.proofs.Commas.{listed_is}
use Rattle.calling.proofs.Taking.{counted_are}

module _ (E : Edition) (f : List ℕ) where
  -- ---- the arguments
  choose : (b c : Bool) {xs ys : List Expr} (ms ns : List ℕ) → b ≡ c → xs ≡ trees_of E f ms → ys ≡ trees_of E f ns → cond b xs ys ≡ trees_of E f (cond c ms ns)
  choose b true ms ns h p q = rw h p
  choose b false ms ns h p q = rw h q

  waiting_are : (from i : ℕ) → gather (λ y. pushed y.kind) (waiting (stmt_of E f i) (pending E f from i)) ≡ trees_of E f (waiting_nodes f from i)
  unfolding waiting waiting_nodes stmt_at gather trees_of
  waiting_are from i = go (marked f i 4)
    where
      go : (b : Bool) → gather (λ (y : Stmt). pushed y.kind) (cond b [] (pending E f from i)) ≡ trees_of E f (cond b [] (pushed_nodes f from i))
      go true = refl
      go false = pushed_nodes_lem E f from i

  module _ (i item from count : ℕ) (at : CallAt f i item) (set : List ℕ) (regs : count ≡ count_set set (read E f).args) where
    abbrev args : List Expr
    args = trees_of E f (listed f item (stmt_field f i 2))

    args_are : call_args (lowering_of E f) (waiting (stmt_of E f i) (pending E f from i)) set (target_text E f i) args ≡ trees_of E f (arg_nodes E f i item from count)
    unfolding call_args arg_nodes lowering_of lowering
    args_are =
        choose (eqb (lowering_of E f).gen.bits 32) (eqb (bits f) 32) (waiting_nodes f from i)
        (counted f (is_indirect (target_text E f i)) item (stmt_field f i 2) count) (ap (λ (b : ℕ). eqb b 32) (gen_bits E f)) (waiting_are from i)
        (ap (λ (c : ℕ). take c (cond (is_indirect (target_text E f i)) (drop 1 args) args)) (sym regs)
        ∙ counted_are E f (is_indirect (target_text E f i)) item (stmt_field f i 2) count)

    items_are : map (tree_at (all_trees E f)) (item_exprs f i) ≡ args
    unfolding item_exprs expr_items trees_of
    items_are = rw (at.kind, ← at.first) (ap (map (tree_at (all_trees E f))) (listed_is f item (stmt_field f i 2)))

    -- ---- the record
    kind_is : kind_at E f (all_trees E f) i ≡ Call (target_text E f i) args (when (stmt_field f i 3) (value (stmt_field f i 4) (stmt_field f i 5))) (item_values f i)
    unfolding kind_at target_text
    kind_is =
        rw at.kind
        (ap (λ (xs : List Expr). Call (text_at E f (stmt_field f i 0) (stmt_field f i 1)) xs (when (stmt_field f i 3) (value (stmt_field f i 4) (stmt_field f i 5))) (item_values f i)) items_are)

    module _ (H : Here) (end : ℕ) where
      pub call_lines : lowered E f H (pending E f from i) set end i ≡ cond (marked f i 1) [] (line 1 (some (stmt_long f i 0)) (call_of E f i item from count) ∷ [])
      unfolding lowered stmt_at lower_kind call call_of result_of target_of
      call_lines =
          ap (lower_kind (lowering_of E f) H (pending E f from i) set (stmt_of E f i) (behind E f end i)) kind_is
          ∙ ap (λ (xs : List Expr). cond (marked f i 1) [] (line 1 (some (stmt_long f i 0)) (result_of E f i ++ target_of E f i item ++ (punct (txt "(") ∷ (comma_list (lowering_of E f) xs ++ (punct (txt ");") ∷ [])))) ∷ [])) args_are

  -- ---- its tokens
  pub put_call : (i item from count : ℕ) (r r₄ r₃ r₂ r₁ r₀ : Room) → seen r₁ ≡ seen (emit_all r₀ (result_of E f i)) → seen r₂ ≡ seen (emit_all r₁ (target_of E f i item))
      → r₃ ≡ emit r₂ (punct (txt "(")) → seen r₄ ≡ seen (emit_all r₃ (comma_list (lowering_of E f) (trees_of E f (arg_nodes E f i item from count))))
      → r ≡ emit r₄ (punct (txt ");")) → seen r ≡ seen (emit_all r₀ (call_of E f i item from count))
  unfolding call_of
  put_call i item from count r r₄ r₃ r₂ r₁ r₀ a b c d k =
      let args = comma_list (lowering_of E f) (trees_of E f (arg_nodes E f i item from count)) in
      let end = punct (txt ");") ∷ [] in
      more r r₂ r₀ (result_of E f i ++ target_of E f i item) (punct (txt "(") ∷ (args ++ end))
      (more r₂ r₁ r₀ (result_of E f i) (target_of E f i item) a b)
      (next r r₂ (punct (txt "(")) (args ++ end) c (more r r₄ r₃ args end d (one r r₄ (punct (txt ");")) k)))

  -- ---- the arguments, by the bits
  module _ (i item from count w : ℕ) (wide : w ≡ bits f) (r r₀ : Room) where
    pub args_pushed : w ≡ 32 → seen r ≡ seen (emit_all r₀ (comma_list (lowering_of E f) (trees_of E f (waiting_nodes f from i))))
        → seen r ≡ seen (emit_all r₀ (comma_list (lowering_of E f) (trees_of E f (arg_nodes E f i item from count))))
    unfolding arg_nodes
    args_pushed h k = rw (← wide, eq-eqb w 32 h) k

    pub args_counted : (w ≡ 32 → ⊥) → seen r ≡ seen (emit_all r₀ (comma_list (lowering_of E f) (trees_of E f (counted f (is_indirect (target_text E f i)) item (stmt_field f i 2) count))))
        → seen r ≡ seen (emit_all r₀ (comma_list (lowering_of E f) (trees_of E f (arg_nodes E f i item from count))))
    unfolding arg_nodes
    args_counted h k = rw (← wide, ne_eqb w 32 h) k

  -- the pushes that wait
  pub waiting_none : (from i : ℕ) (r : Room) (b : Bool) → b ≡ marked f i 4 → b ≡ true → seen r ≡ seen (emit_all r (comma_list (lowering_of E f) (trees_of E f (waiting_nodes f from i))))
  unfolding waiting_nodes comma_list trees_of
  waiting_none from i r b p h = rw (← p, h) (done r)

  pub waiting_all : (from i : ℕ) (r r₀ : Room) (b : Bool) → b ≡ marked f i 4 → b ≡ false → seen r ≡ seen (emit_all r₀ (comma_list (lowering_of E f) (trees_of E f (pushed_nodes f from i))))
      → seen r ≡ seen (emit_all r₀ (comma_list (lowering_of E f) (trees_of E f (waiting_nodes f from i))))
  unfolding waiting_nodes
  waiting_all from i r r₀ b p h k = rw (← p, h) k

  -- the first of the list items
  pub counted_all : (i item start len n s c m : ℕ) (b : Bool) (r r₀ : Room) → start ≡ stmt_field f i 0 → len ≡ stmt_field f i 1 → n ≡ stmt_field f i 2
      → b ≡ is_indirect (text_at E f start len) → s ≡ skip b n → m ≡ min c (n - s)
      → seen r ≡ seen (emit_all r₀ (comma_list (lowering_of E f) (map (tree_at (all_trees E f)) (map (λ (k : ℕ). item_word f (item + s + k) 0) (range 0 m)))))
      → seen r ≡ seen (emit_all r₀ (comma_list (lowering_of E f) (trees_of E f (counted f (is_indirect (target_text E f i)) item (stmt_field f i 2) c))))
  unfolding trees_of counted target_text
  counted_all i item start len n s c m b r r₀ p q w t u v k =
      let same : listed f (item + s) m ≡ counted f (is_indirect (target_text E f i)) item (stmt_field f i 2) c = rw (v, u, t, p, q, w) in
      pieces_are r r₀ _ _ k
      (ap (λ (ns : List ℕ). comma_list (lowering_of E f) (map (tree_at (all_trees E f)) ns))
      (listed_is f (item + s) m ∙ same))
