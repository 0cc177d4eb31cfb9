-- The lines of a statement: each is a conditional jump `if (C) goto t;`, another jump, or a plain line. The names that jumps aim at have a property P,
-- if the destinations of the block's edges and branches have one, D, that carries over to their names.
use mathlib.Core.Path.{◌≡◌, refl, ap, subst}
use mathlib.Core.Bool.{Bool, true, false, not, cond, ◌||◌}
use mathlib.Core.Option.{Option, none, some}
use mathlib.Core.List.{List, [], ◌∷◌, ◌++◌}
use Prim.Native.Nat.{ℕ, ◌*◌}
use lib.Dec.{eqb}
use lib.ListN.{take}
use borrow.Author.Tests.{not-false}
use Rattle.definition.specs.Texts.{txt, same, begins}
use Rattle.definition.specs.Lists.{among, gather, or_else, given}
use Rattle.definition.specs.Values.{Value, RSP}
use Rattle.definition.specs.Ssa.{Expr, Kind, Stmt}
use Rattle.definition.specs.Ssa.Kind.{Assign, Store, Call, Branch, Flags, Return, Other}
use Rattle.definition.specs.Offsets.{stack_off}
use Rattle.definition.specs.Inline.{in_place}
use Rattle.definition.specs.Numbers.{label, decimal}
use Rattle.definition.specs.Lookup.{is_next, target_name, outside_name, name_for}
use Rattle.definition.specs.Tokens.{Token, Line, keyword, symbol, punct, merge, line}
use Rattle.definition.specs.Render.{pointer, through, slot_or, global_or, e}
use Rattle.definition.specs.Lower.{Lowering, Here, goto_tokens, restores, assign, silent, store, is_read, result_tokens, direct, slot_name, indirect, is_indirect, comma_list, call_args, count_set, call, fall_line, branch_if, tail_call, leave, first_of, branch_to, branch, return_tokens, return, name_list, asm, other, waiting, lower_kind}
use Rattle.definition.specs.Blocks.{pend_after, set_after, lower_stmts, closing}
use Rattle.definition.specs.Sorts.{is_tok, first_symbol, sort_of}
use Rattle.definition.specs.Sorts.Sort.{jump_to, plain}
use Rattle.definition.proofs.Bools.{by_cond, both_false}
use Rattle.definition.proofs.ListLaws.{Each, end, ◌▸◌, each_append, each_to}
use Rattle.definition.proofs.Merge.{NoGoto}
use Rattle.definition.proofs.TokenSorts.{if_tokens, register_plain, keyword_plain, symbol_plain, punct_plain, goto_plain, goto_jump}
use Rattle.definition.proofs.LoweredRender.{Rendered, Sound, mute, first_name, expr_rendered, condition_rendered}

-- a line of a statement: in C, what an `if` tests, no token is `goto`
pub data Stated (P : List ℕ → Type 0) : Line → Type 0 where
  conditional : (a : Option ℕ) (C : List Token) (t : List ℕ) → NoGoto C → P t → Stated P (line 1 a (if_tokens C (symbol t)))
  jump : (a : Option ℕ) (ts : List Token) (t : List ℕ) → sort_of (merge ts) ≡ jump_to t → P t → Stated P (line 1 a ts)
  simple : (a : Option ℕ) (ts : List Token) → sort_of (merge ts) ≡ plain → Stated P (line 1 a ts)

-- where a live statement of this kind goes has D
abbrev pub GoesTo : (ℕ → Type 0) → Here → Kind → Type 0
GoesTo D H (Assign v x) = Unit {0}
GoesTo D H (Store n a x) = Unit {0}
GoesTo D H (Call t xs r c) = Unit {0}
GoesTo D H (Branch (some cc) t us) = D (given 0 (or_else H.block.taken t))
GoesTo D H (Branch none t us) = (a : ℕ) → or_else t H.block.taken ≡ some a → D a
GoesTo D H (Flags t a b) = Unit {0}
GoesTo D H (Return x) = Unit {0}
GoesTo D H (Other t us ds) = Unit {0}

no_goto : {P : List ℕ → Type 0} {ts : List Token} → Each (Rendered P) ts → NoGoto ts
no_goto = each_to (λ t r. r.no_goto)

-- what a call calls: it holds no goto, and with the arguments behind it the line is plain
abbrev Callee : List Token → Type 0
Callee c = NoGoto c × ((ts : List Token) → NoGoto ts → sort_of (merge (c ++ (punct (txt "(") ∷ ts))) ≡ plain)

symbol_callee : (n : List ℕ) → Callee (symbol n ∷ [])
unfolding is_tok
symbol_callee n = (refl ▸ end, λ ts k. symbol_plain n [] k)

module _ {P : List ℕ → Type 0} (L : Lowering) (sound : Sound P L.gen) where
  rendered : (x : Expr) → Each (Rendered P) (e L.gen x)
  unfolding e
  rendered x = expr_rendered L.gen sound true x

  commas_nogoto : (ys : List Expr) → NoGoto (gather (λ y. punct (txt ", ") ∷ e L.gen y) ys)
  unfolding gather is_tok
  commas_nogoto [] = end
  commas_nogoto (y ∷ ys) = refl ▸ each_append (no_goto (rendered y)) (commas_nogoto ys)

  comma_nogoto : (xs : List Expr) → NoGoto (comma_list L xs)
  unfolding comma_list
  comma_nogoto [] = end
  comma_nogoto (x ∷ xs) = each_append (no_goto (rendered x)) (commas_nogoto xs)

  assign_lines : (s : Stmt) (v : Value) (x : Expr) → Each (Stated P) (assign L s v x)
  unfolding assign
  assign_lines s v x =
      by_cond (Each (Stated P)) (s.dead || eqb v.reg RSP || in_place L.places v || restores L v x) (λ h. end)
      (λ h. simple _ _ (register_plain _ (no_goto (mute refl ▸ each_append (rendered x) (mute refl ▸ end)))) ▸ end)

  store_lines : (s : Stmt) (n : ℕ) (a x : Expr) (ss : List Stmt) → Each (Stated P) (store L s n a x ss)
  unfolding store slot_or through pointer same
  store_lines s n a x ss =
      let rest : NoGoto (punct (txt " = ") ∷ (e L.gen x ++ (punct (txt ";") ∷ []))) = no_goto (mute refl ▸ each_append (rendered x) (mute refl ▸ end)) in
      by_cond (Each (Stated P)) (silent L s a x ss) (λ h. end)
      (λ h. simple _ _ (by_cond (λ z. sort_of (merge (z ++ (punct (txt " = ") ∷ (e L.gen x ++ (punct (txt ";") ∷ []))))) ≡ plain) (eqb (stack_off L.gen.offsets a) 0)
      (λ h. keyword_plain (txt "*(uint" ++ decimal (n * 8) ++ txt "_t *)") refl refl refl (each_append (no_goto (mute refl ▸ each_append (rendered a) (mute refl ▸ end))) rest))
      (λ h. register_plain _ rest)) ▸ end)

  -- ---- calls
  indirect_callee : (xs : List Expr) → Callee (indirect L xs)
  unfolding indirect is_tok global_or
  indirect_callee [] = (end, λ ts k. punct_plain [] k)
  indirect_callee (x ∷ xs) = go (slot_name L x)
    where
      it : NoGoto (e L.gen x ++ (punct (txt ")") ∷ []))
      it = each_append (no_goto (rendered x)) (refl ▸ end)

      go : (o : Option (List ℕ)) → Callee (global_or (punct (txt "(*") ∷ (e L.gen x ++ (punct (txt ")") ∷ []))) o)
      go none = (refl ▸ it, λ ts k. punct_plain (txt "*") (each_append it (refl ▸ k)))
      go (some n) = symbol_callee n

  call_plain : (r : Option Value) (c ts : List Token) → Callee c → NoGoto ts → sort_of (merge (result_tokens L r ++ c ++ (punct (txt "(") ∷ ts))) ≡ plain
  unfolding result_tokens is_tok
  call_plain none c ts h k = h.1 ts k
  call_plain (some v) c ts h k =
      by_cond (λ z. sort_of (merge (z ++ c ++ (punct (txt "(") ∷ ts))) ≡ plain) (is_read L.reads v)
      (λ q. register_plain _ (refl ▸ each_append h.0 (refl ▸ k))) (λ q. h.1 ts k)

  call_lines : (pend : List Stmt) (set : List ℕ) (s : Stmt) (t : List ℕ) (xs : List Expr) (r : Option Value) → Each (Stated P) (call L pend set s t xs r)
  unfolding call direct is_tok
  call_lines pend set s t xs r =
      simple _ _ (call_plain r (cond (is_indirect t) (indirect L xs) (direct L t)) _ (by_cond Callee (is_indirect t) (λ q. indirect_callee xs) (λ q. symbol_callee _))
      (each_append (comma_nogoto (call_args L pend set t xs)) (refl ▸ end))) ▸ end

  -- ---- returns and asm
  return_nogoto : (x : Option Expr) → NoGoto (return_tokens L x)
  unfolding return_tokens is_tok
  return_nogoto none = end
  return_nogoto (some x) = by_cond NoGoto L.returns (λ h. refl ▸ no_goto (rendered x)) (λ h. end)

  return_lines : (s : Stmt) (x : Option Expr) → Each (Stated P) (return L s x)
  unfolding return is_tok same
  return_lines s x = simple _ _ (keyword_plain (txt "return") refl refl refl (each_append (return_nogoto x) (refl ▸ end))) ▸ end

  asm_plain : (ns : List (List ℕ)) (t : List ℕ) → sort_of (merge (asm ns t)) ≡ plain
  unfolding asm is_tok same
  asm_plain [] t = keyword_plain (txt "__asm") refl refl refl (refl ▸ end)
  asm_plain (n ∷ []) t = register_plain n (refl ▸ refl ▸ refl ▸ end)
  asm_plain (n ∷ m ∷ ns) t = keyword_plain (txt "__asm") refl refl refl (refl ▸ end)

  other_lines : (s : Stmt) (t : List ℕ) (ds : List Value) → Each (Stated P) (other L s t ds)
  unfolding other
  other_lines s t ds = simple _ _ (asm_plain (gather (name_list L) ds) t) ▸ end

  -- ---- jumps out of the function
  tail_lines : (set : List ℕ) (s : Stmt) (n : List ℕ) (us : List Expr) → Each (Stated P) (tail_call L set s n us)
  unfolding tail_call is_tok same
  tail_lines set s n us =
      let it : NoGoto (comma_list L (take (count_set set L.args) us) ++ (punct (txt ")") ∷ []) ++ (punct (txt ";") ∷ [])) =
      each_append (each_append (comma_nogoto (take (count_set set L.args) us)) (refl ▸ end)) (refl ▸ end) in
      by_cond (Each (Stated P)) L.returns
      (λ h. simple _ _ (keyword_plain (txt "return") refl refl refl (refl ▸ refl ▸ refl ▸ it)) ▸ end)
      (λ h. simple _ _ (symbol_plain n [] it) ▸ simple _ _ (keyword_plain (txt "return") refl refl refl (refl ▸ end)) ▸ end)

  leave_lines : (set : List ℕ) (s : Stmt) (n : List ℕ) (us : List Expr) → Each (Stated P) (leave L set s n us)
  unfolding leave goto_tokens first_symbol
  leave_lines set s n us =
      by_cond (Each (Stated P)) (begins (txt "*") n) (λ h. simple _ _ (goto_plain _ refl) ▸ end) (λ h. tail_lines set s n us)

  -- ---- jumps
  first_rendered : (us : List Expr) → Each (Rendered P) (first_of L us)
  unfolding first_of
  first_rendered [] = end
  first_rendered (x ∷ xs) = rendered x

  -- a computed one: the first Symbol of its expression, if there is one, is taken for its target
  computed : (at : Option ℕ) (ts : List Token) → Each (Rendered P) ts → Stated P (line 1 at (keyword (txt "goto") ∷ ts))
  computed at ts h = go (first_symbol ts) refl
    where
      go : (o : Option (List ℕ)) → first_symbol ts ≡ o → Stated P (line 1 at (keyword (txt "goto") ∷ ts))
      go none q = simple at _ (goto_plain ts q)
      go (some t) q = jump at _ t (goto_jump ts t q) (first_name h t q)

  goto_line : (at : Option ℕ) (n : List ℕ) → P n → Stated P (line 1 at (goto_tokens (symbol n)))
  unfolding goto_tokens first_symbol
  goto_line at n p = jump at _ n (goto_jump _ n refl) p

  module _ (D : ℕ → Type 0) (aim : (a : ℕ) → D a → P (target_name L.starts L.gen.supplied a)) where
    -- a start's name is its label
    label_aim : (a : ℕ) → among a L.starts ≡ true → D a → P (label a)
    unfolding target_name
    label_aim a h d = subst P (ap (λ (b : Bool). cond b (label a) (outside_name a (name_for L.gen.supplied a))) h) (aim a d)

    module _ (H : Here) where
      fall_lines : (s : Stmt) (o : Option ℕ) → ((a : ℕ) → o ≡ some a → is_next H.next a ≡ false → D a) → Each (Stated P) (fall_line L H s o)
      unfolding fall_line
      fall_lines s none d = end
      fall_lines s (some a) d = by_cond (Each (Stated P)) (is_next H.next a) (λ h. end) (λ h. goto_line _ _ (aim a (d a refl h)) ▸ end)

      to_lines : (set : List ℕ) (s : Stmt) (o : Option ℕ) (us : List Expr) → ((a : ℕ) → o ≡ some a → D a) → Each (Stated P) (branch_to L H set s o us)
      unfolding branch_to
      to_lines set s none us d = computed _ _ (mute refl ▸ each_append (first_rendered us) (mute refl ▸ end)) ▸ end
      to_lines set s (some a) us d =
          by_cond (Each (Stated P)) (among a L.starts)
          (λ h. by_cond (Each (Stated P)) (is_next H.next a) (λ q. end) (λ q. goto_line _ _ (label_aim a h (d a refl)) ▸ end))
          (λ h. leave_lines set s _ us)

      -- ---- statements
      module _ (fall : (a : ℕ) → H.block.fall ≡ some a → is_next H.next a ≡ false → D a) where
        branch_lines : (set : List ℕ) (s : Stmt) (c : Option (List ℕ)) (t : Option ℕ) (us : List Expr) → GoesTo D H (Branch c t us) → Each (Stated P) (branch L H set s c t us)
        unfolding branch branch_if
        branch_lines set s none t us d = to_lines set s (or_else t H.block.taken) us d
        branch_lines set s (some cc) t us d =
            conditional _ _ _ (no_goto (condition_rendered L.gen sound H.block.stmts cc)) (aim _ d) ▸ fall_lines s H.block.fall fall

        kind_lines : (pend : List Stmt) (set : List ℕ) (s : Stmt) (ss : List Stmt) (k : Kind) → (s.dead ≡ false → GoesTo D H k) → Each (Stated P) (lower_kind L H pend set s ss k)
        unfolding lower_kind
        kind_lines pend set s ss (Assign v x) d = assign_lines s v x
        kind_lines pend set s ss (Store n a x) d = by_cond (Each (Stated P)) s.dead (λ h. end) (λ h. store_lines s n a x ss)
        kind_lines pend set s ss (Call t xs r c) d = by_cond (Each (Stated P)) s.dead (λ h. end) (λ h. call_lines (waiting s pend) set s t xs r)
        kind_lines pend set s ss (Branch c t us) d = by_cond (Each (Stated P)) s.dead (λ h. end) (λ h. branch_lines set s c t us (d h))
        kind_lines pend set s ss (Flags t a b) d = end
        kind_lines pend set s ss (Return x) d = by_cond (Each (Stated P)) s.dead (λ h. end) (λ h. return_lines s x)
        kind_lines pend set s ss (Other t us ds) d = by_cond (Each (Stated P)) s.dead (λ h. end) (λ h. other_lines s t ds)

        pub stmts_lines : (pend : List Stmt) (set : List ℕ) {ss : List Stmt} → Each (λ s. s.dead ≡ false → GoesTo D H s.kind) ss → Each (Stated P) (lower_stmts L H pend set ss)
        unfolding lower_stmts
        stmts_lines pend set end = end
        stmts_lines pend set (◌▸◌ {x = s} {xs = ss} d ds) =
            each_append (kind_lines pend set s ss s.kind d) (stmts_lines (pend_after s pend) (set_after L.args s s.kind set) ds)

      pub closing_lines : (o : Option ℕ) → ((a : ℕ) → o ≡ some a → is_next H.next a ≡ false → D a) → Each (Stated P) (closing L H o)
      unfolding closing
      closing_lines none d = end
      closing_lines (some a) d =
          by_cond (Each (Stated P)) (is_next H.next a || not (among a L.starts)) (λ h. end)
          (λ h. let n = both_false (is_next H.next a) (not (among a L.starts)) h in goto_line _ _ (label_aim a (not-false (among a L.starts) n.1) (d a refl n.0)) ▸ end)
