-- Every lowered line is proper: it is `line` of tokens that rendering and lowering write, and each of these has a kind from 0 to 6.
use mathlib.Core.Path.{◌≡◌, refl}
use mathlib.Core.Bool.{Bool, true, false, not, ◌||◌}
use mathlib.Core.Option.{Option, none, some}
use mathlib.Core.List.{List, [], ◌∷◌}
use Prim.Native.Nat.{ℕ, ◌<◌}
use lib.Dec.{eqb, ltb}
use lib.ListN.{take}
use borrow.Author.Tests.{ltb-true}
use Rattle.definition.specs.Texts.{txt, begins}
use Rattle.definition.specs.Lists.{among, gather, or_else}
use Rattle.definition.specs.Values.{Value, eqv, RSP}
use Rattle.definition.specs.Ssa.{Expr, Kind, Stmt, Block, Function}
use Rattle.definition.specs.Ssa.Expr.{Const, Use, Bin, Un, Load, Opaque}
use Rattle.definition.specs.Ssa.Kind.{Assign, Store, Call, Branch, Flags, Return, Other}
use Rattle.definition.specs.Offsets.{Known, look, stack_off}
use Rattle.definition.specs.Inline.{InPlace, in_place}
use Rattle.definition.specs.Lookup.{next_of, is_next}
use Rattle.definition.specs.Tokens.{Token, Line, punct, line}
use Rattle.definition.specs.Render.{Opened, Gen, opened_at, variable, use_or, address_or, nested, pointer, through, slot_or, global_of, global_or, operator, expr, e, open_next, open_all}
use Rattle.definition.specs.Condition.{Side, Shown, Setting, side_tokens, unsigned_tokens, shown_tokens, setter_of, last_setter, comparison, code_of, condition_of, condition}
use Rattle.definition.specs.Condition.Side.{left, right, difference, both, nought}
use Rattle.definition.specs.Lower.{Lowering, Here, goto_tokens, restores, assign, silent, store, is_read, result_tokens, direct, slot_name, indirect, is_indirect, comma_list, call_args, count_set, call, fall_line, branch_if, tail_call, leave, first_of, branch_to, branch, return_tokens, return, name_list, asm, other, waiting, lower_kind}
use Rattle.definition.specs.Blocks.{pend_after, set_after, lower_stmts, last_leaves, closing, label_line, lower_block, lower_blocks, lowering, lower}
use Rattle.definition.proofs.Bools.{by_cond}
use Rattle.definition.proofs.ListLaws.{Each, end, ◌▸◌, each_append}
use Rattle.room.proofs.Proper.{Kind8, Proper, line_proper}

abbrev Kinds : List Token → Type 0
Kinds ts = Each Kind8 ts

-- a kind that is a numeral
low : {k : ℕ} → ltb k 8 ≡ true → k < 8
low h = ltb-true _ _ h

-- the values written in place are of such tokens
abbrev Opens : List Opened → Type 0
Opens os = Each (λ o. Kinds o.top × Kinds o.inner) os

-- ---- expressions
address_or_lem : (s : ℕ) {ts : List Token} → Kinds ts → Kinds (address_or s ts)
unfolding address_or
address_or_lem s h = by_cond Kinds (eqb s 0) (λ q. h) (λ q. low refl ▸ low refl ▸ end)

nested_kinds : (top : Bool) {ts : List Token} → Kinds ts → Kinds (nested top ts)
unfolding nested
nested_kinds true h = h
nested_kinds false h = low refl ▸ each_append h (low refl ▸ end)

through_kinds : (n : ℕ) {ts : List Token} → Kinds ts → Kinds (through n ts)
unfolding through pointer
through_kinds n h = low refl ▸ low refl ▸ each_append h (low refl ▸ end)

slot_or_lem : (s : ℕ) {ts : List Token} → Kinds ts → Kinds (slot_or s ts)
unfolding slot_or
slot_or_lem s h = by_cond Kinds (eqb s 0) (λ q. h) (λ q. low refl ▸ end)

global_or_lem : (o : Option (List ℕ)) {ts : List Token} → Kinds ts → Kinds (global_or ts o)
unfolding global_or
global_or_lem none h = h
global_or_lem (some n) h = low refl ▸ end

opened_at_lem : {os : List Opened} → Opens os → (top : Bool) (v : Value) (n : List ℕ) → Kinds (use_or n (opened_at os top v))
unfolding opened_at use_or
opened_at_lem end top v n = low refl ▸ end
opened_at_lem (◌▸◌ {x = o} h hs) top v n =
    by_cond (λ (z : Option (List Token)). Kinds (use_or n z)) (eqv o.of v)
    (λ q. by_cond Kinds top (λ q. h.0) (λ q. h.1)) (λ q. opened_at_lem hs top v n)

module _ (G : Gen) (opens : Opens G.opened) where
  expr_kinds : (top : Bool) (x : Expr) → Kinds (expr G top x)
  unfolding expr operator
  expr_kinds top (Const c) = low refl ▸ end
  expr_kinds top (Use v) = address_or_lem (look G.offsets v) (opened_at_lem opens top v (variable G v))
  expr_kinds top (Bin o a b) =
      address_or_lem (stack_off G.offsets (Bin o a b)) (nested_kinds top (each_append (expr_kinds false a) (low refl ▸ expr_kinds false b)))
  expr_kinds top (Un o a) = low refl ▸ expr_kinds false a
  expr_kinds top (Load n a) =
      global_or_lem (global_of G.supplied n a) (slot_or_lem (stack_off G.offsets a) (through_kinds n (expr_kinds true a)))
  expr_kinds top (Opaque t) = low refl ▸ end

open_all_lem : (G : Gen) (ps : List InPlace) → Opens G.opened → Opens (open_all G ps).opened
unfolding open_all open_next
open_all_lem G [] h = h
open_all_lem G (p ∷ ps) h =
    open_all_lem (open_next G p) ps (each_append h ((expr_kinds G h true p.expr, expr_kinds G h false p.expr) ▸ end))

-- ---- conditions
side_kinds : {x y : List Token} → Kinds x → Kinds y → (s : Side) → Kinds (side_tokens x y s)
unfolding side_tokens
side_kinds h k left = h
side_kinds h k right = k
side_kinds h k difference = low refl ▸ each_append h (low refl ▸ each_append k (low refl ▸ end))
side_kinds h k both = low refl ▸ each_append h (low refl ▸ each_append k (low refl ▸ end))
side_kinds h k nought = low refl ▸ end

unsigned_kinds : (u : Bool) → Kinds (unsigned_tokens u)
unfolding unsigned_tokens
unsigned_kinds true = low refl ▸ end
unsigned_kinds false = end

shown_kinds : {x y : List Token} → Kinds x → Kinds y → (p : Shown) → Kinds (shown_tokens x y p)
unfolding shown_tokens
shown_kinds h k p =
    each_append (each_append (unsigned_kinds p.unsigned) (side_kinds h k p.lhs)) (low refl ▸ side_kinds h k p.rhs)

module _ (G : Gen) (opens : Opens G.opened) where
  condition_of_lem : (cc : List ℕ) (t : Option Setting) (p : Option Shown) → Kinds (condition_of G cc t p)
  unfolding condition_of
  condition_of_lem cc none p = low refl ▸ end
  condition_of_lem cc (some t) none = low refl ▸ end
  condition_of_lem cc (some t) (some p) = shown_kinds (expr_kinds G opens false t.first) (expr_kinds G opens false t.second) p

  condition_kinds : (ss : List Stmt) (cc : List ℕ) → Kinds (condition G ss cc)
  unfolding condition
  condition_kinds ss cc =
      let t = setter_of (last_setter none ss) in
      condition_of_lem cc t (comparison t (code_of cc))

-- ---- statements
abbrev Propers : List Line → Type 0
Propers ls = Each Proper ls

one : (n : ℕ) (a : Option ℕ) {ts : List Token} → Kinds ts → Propers (line n a ts ∷ [])
one n a h = line_proper n a h ▸ end

goto_kinds : (t : Token) → Kind8 t → Kinds (goto_tokens t)
unfolding goto_tokens
goto_kinds t h = low refl ▸ low refl ▸ h ▸ low refl ▸ end

asm_kinds : (ns : List (List ℕ)) (t : List ℕ) → Kinds (asm ns t)
unfolding asm
asm_kinds [] t = low refl ▸ low refl ▸ end
asm_kinds (n ∷ []) t = low refl ▸ low refl ▸ low refl ▸ low refl ▸ end
asm_kinds (n ∷ m ∷ ns) t = low refl ▸ low refl ▸ end

module _ (L : Lowering) (opens : Opens L.gen.opened) where
  e_kinds : (x : Expr) → Kinds (e L.gen x)
  unfolding e
  e_kinds x = expr_kinds L.gen opens true x

  commas_kinds : (ys : List Expr) → Kinds (gather (λ y. punct (txt ", ") ∷ e L.gen y) ys)
  unfolding gather
  commas_kinds [] = end
  commas_kinds (y ∷ ys) = low refl ▸ each_append (e_kinds y) (commas_kinds ys)

  comma_kinds : (xs : List Expr) → Kinds (comma_list L xs)
  unfolding comma_list
  comma_kinds [] = end
  comma_kinds (x ∷ xs) = each_append (e_kinds x) (commas_kinds xs)

  first_kinds : (us : List Expr) → Kinds (first_of L us)
  unfolding first_of
  first_kinds [] = end
  first_kinds (x ∷ xs) = e_kinds x

  assign_proper : (s : Stmt) (v : Value) (x : Expr) → Propers (assign L s v x)
  unfolding assign
  assign_proper s v x =
      by_cond Propers (s.dead || eqb v.reg RSP || in_place L.places v || restores L v x) (λ q. end)
      (λ q. one _ _ (low refl ▸ low refl ▸ each_append (e_kinds x) (low refl ▸ end)))

  store_proper : (s : Stmt) (n : ℕ) (a x : Expr) (ss : List Stmt) → Propers (store L s n a x ss)
  unfolding store
  store_proper s n a x ss =
      by_cond Propers (silent L s a x ss) (λ q. end)
      (λ q. one _ _ (each_append (slot_or_lem (stack_off L.gen.offsets a) (through_kinds n (e_kinds a))) (low refl ▸ each_append (e_kinds x) (low refl ▸ end))))

  -- ---- calls
  result_kinds : (r : Option Value) → Kinds (result_tokens L r)
  unfolding result_tokens
  result_kinds none = end
  result_kinds (some v) = by_cond Kinds (is_read L.reads v) (λ q. low refl ▸ low refl ▸ end) (λ q. end)

  indirect_kinds : (xs : List Expr) → Kinds (indirect L xs)
  unfolding indirect
  indirect_kinds [] = end
  indirect_kinds (x ∷ xs) = global_or_lem (slot_name L x) (low refl ▸ each_append (e_kinds x) (low refl ▸ end))

  direct_kinds : (t : List ℕ) → Kinds (direct L t)
  unfolding direct
  direct_kinds t = low refl ▸ end

  call_proper : (pend : List Stmt) (set : List ℕ) (s : Stmt) (t : List ℕ) (xs : List Expr) (r : Option Value) → Propers (call L pend set s t xs r)
  unfolding call
  call_proper pend set s t xs r =
      one _ _ (each_append (each_append (result_kinds r) (by_cond Kinds (is_indirect t) (λ q. indirect_kinds xs) (λ q. direct_kinds t)))
      (low refl ▸ each_append (comma_kinds (call_args L pend set t xs)) (low refl ▸ end)))

  -- ---- returns and asm
  value_kinds : (x : Option Expr) → Kinds (return_tokens L x)
  unfolding return_tokens
  value_kinds none = end
  value_kinds (some x) = by_cond Kinds L.returns (λ q. low refl ▸ e_kinds x) (λ q. end)

  return_proper : (s : Stmt) (x : Option Expr) → Propers (return L s x)
  unfolding return
  return_proper s x = one _ _ (low refl ▸ each_append (value_kinds x) (low refl ▸ end))

  other_proper : (s : Stmt) (t : List ℕ) (ds : List Value) → Propers (other L s t ds)
  unfolding other
  other_proper s t ds = one _ _ (asm_kinds (gather (name_list L) ds) t)

  -- ---- jumps
  tail_proper : (set : List ℕ) (s : Stmt) (n : List ℕ) (us : List Expr) → Propers (tail_call L set s n us)
  unfolding tail_call
  tail_proper set s n us =
      let args = each_append (comma_kinds (take (count_set set L.args) us)) (low refl ▸ end) in
      by_cond Propers L.returns
      (λ q. one _ _ (low refl ▸ low refl ▸ low refl ▸ low refl ▸ each_append args (low refl ▸ end)))
      (λ q. each_append (one _ _ (low refl ▸ low refl ▸ each_append args (low refl ▸ end))) (one _ _ (low refl ▸ low refl ▸ end)))

  leave_proper : (set : List ℕ) (s : Stmt) (n : List ℕ) (us : List Expr) → Propers (leave L set s n us)
  unfolding leave
  leave_proper set s n us = by_cond Propers (begins (txt "*") n) (λ q. one _ _ (goto_kinds _ (low refl))) (λ q. tail_proper set s n us)

  label_proper : (a : ℕ) → Propers (label_line L a)
  unfolding label_line
  label_proper a = by_cond Propers (among a L.jumps) (λ q. one _ _ (low refl ▸ low refl ▸ end)) (λ q. end)

  module _ (H : Here) where
    fall_proper : (s : Stmt) (o : Option ℕ) → Propers (fall_line L H s o)
    unfolding fall_line
    fall_proper s none = end
    fall_proper s (some a) = by_cond Propers (is_next H.next a) (λ q. end) (λ q. one _ _ (goto_kinds _ (low refl)))

    to_proper : (set : List ℕ) (s : Stmt) (o : Option ℕ) (us : List Expr) → Propers (branch_to L H set s o us)
    unfolding branch_to
    to_proper set s none us = one _ _ (low refl ▸ low refl ▸ each_append (first_kinds us) (low refl ▸ end))
    to_proper set s (some a) us =
        by_cond Propers (among a L.starts)
        (λ q. by_cond Propers (is_next H.next a) (λ q. end) (λ q. one _ _ (goto_kinds _ (low refl)))) (λ q. leave_proper set s _ us)

    branch_proper : (set : List ℕ) (s : Stmt) (c : Option (List ℕ)) (t : Option ℕ) (us : List Expr) → Propers (branch L H set s c t us)
    unfolding branch branch_if
    branch_proper set s none t us = to_proper set s (or_else t H.block.taken) us
    branch_proper set s (some cc) t us =
        each_append (one _ _ (low refl ▸ low refl ▸ each_append (condition_kinds L.gen opens H.block.stmts cc) (low refl ▸ goto_kinds _ (low refl))))
        (fall_proper s H.block.fall)

    kind_proper : (pend : List Stmt) (set : List ℕ) (s : Stmt) (ss : List Stmt) (k : Kind) → Propers (lower_kind L H pend set s ss k)
    unfolding lower_kind
    kind_proper pend set s ss (Assign v x) = assign_proper s v x
    kind_proper pend set s ss (Store n a x) = by_cond Propers s.dead (λ q. end) (λ q. store_proper s n a x ss)
    kind_proper pend set s ss (Call t xs r c) = by_cond Propers s.dead (λ q. end) (λ q. call_proper (waiting s pend) set s t xs r)
    kind_proper pend set s ss (Branch c t us) = by_cond Propers s.dead (λ q. end) (λ q. branch_proper set s c t us)
    kind_proper pend set s ss (Flags t a b) = end
    kind_proper pend set s ss (Return x) = by_cond Propers s.dead (λ q. end) (λ q. return_proper s x)
    kind_proper pend set s ss (Other t us ds) = by_cond Propers s.dead (λ q. end) (λ q. other_proper s t ds)

    -- ---- blocks
    stmts_proper : (pend : List Stmt) (set : List ℕ) (ss : List Stmt) → Propers (lower_stmts L H pend set ss)
    unfolding lower_stmts
    stmts_proper pend set [] = end
    stmts_proper pend set (s ∷ ss) =
        each_append (kind_proper pend set s ss s.kind) (stmts_proper (pend_after s pend) (set_after L.args s s.kind set) ss)

    closing_proper : (o : Option ℕ) → Propers (closing L H o)
    unfolding closing
    closing_proper none = end
    closing_proper (some a) = by_cond Propers (is_next H.next a || not (among a L.starts)) (λ q. end) (λ q. one _ _ (goto_kinds _ (low refl)))

    block_proper : Propers (lower_block L H)
    unfolding lower_block
    block_proper =
        let b = H.block in
        each_append (each_append (label_proper b.start) (stmts_proper [] [] b.stmts))
        (by_cond Propers (last_leaves false b.stmts) (λ q. end) (λ q. closing_proper (or_else b.fall b.taken)))

  blocks_proper : (bs : List Block) → Propers (lower_blocks L bs)
  unfolding lower_blocks
  blocks_proper [] = end
  blocks_proper (b ∷ bs) = each_append (block_proper (record { block = b; next = next_of bs })) (blocks_proper bs)

pub proper : (F : Function) (t : List Known) → Each Proper (lower F t)
unfolding lower lowering
proper F t = blocks_proper (lowering F t) (open_all_lem _ _ end) F.blocks
