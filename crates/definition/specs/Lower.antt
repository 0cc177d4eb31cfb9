-- Statements to lines, one rule a kind (c.rs, the loop over blocks of `to_c`).
use Rattle.std.specs.Prelude.{Bool, true, false, not, cond, ◌&&◌, ◌||◌, List, [], ◌∷◌, ◌++◌, ℕ, suc, eqb, take, drop}
use Rattle.std.proofs.Math.Option.{Option, none, some}
use Rattle.definition.specs.Texts.{txt, begins, trim_start}
use Rattle.definition.specs.Lists.{any, among, gather, or_else, given}
use Rattle.definition.specs.Values.{Value, within, RSP}
use Rattle.definition.specs.Ssa.{Expr, Kind, Stmt, Block}
use Rattle.definition.specs.Ssa.Expr.{Const, Use, Bin, Un, Load, Opaque}
use Rattle.definition.specs.Ssa.Kind.{Assign, Store, Call, Branch, Flags, Return, Other}
use Rattle.definition.specs.Offsets.{Known, stack_off}
use Rattle.definition.specs.Classes.{Member, find}
use Rattle.definition.specs.Inline.{Reads, InPlace, in_place}
use Rattle.definition.specs.Names.{name_in}
use Rattle.definition.specs.Registers.{callee_saved}
use Rattle.definition.specs.Numbers.{label, read_hex}
use Rattle.definition.specs.Lookup.{name_for, name_or, is_next, target_name}
use Rattle.definition.specs.Tokens.{Token, Line, textual, register, keyword, symbol, address, punct, line}
use Rattle.definition.specs.Render.{Gen, variable, slot_or, through, global_of, global_or, e}
use Rattle.definition.specs.Condition.{condition}

-- what lowering needs to know of the function
pub record Lowering : Type 0 where
  pub gen : Gen
  pub args : List ℕ
  pub returns : Bool
  pub reads : Reads
  pub places : List InPlace
  pub classes : List Member
  pub read_roots : List Value  -- classes of values that some statement really reads
  pub starts : List ℕ  -- the blocks' starts
  pub jumps : List ℕ  -- where they jump to

-- and of the block: its edges, all its statements, the start of the next
pub record Here : Type 0 where
  pub block : Block
  pub next : Option ℕ

abbrev plain_line : Stmt → List Token → List Line
plain_line s ts = line 1 (some s.address) ts ∷ []

-- `goto NAME;`
unfoldable pub goto_tokens : Token → List Token
goto_tokens t = keyword (txt "goto") ∷ textual (txt " ") ∷ t ∷ punct (txt ";") ∷ []

unfoldable pub is_stack_load : Lowering → Expr → Bool
is_stack_load L (Const c) = false
is_stack_load L (Use v) = false
is_stack_load L (Bin o a b) = false
is_stack_load L (Un o a) = false
is_stack_load L (Load n a) = not (eqb (stack_off L.gen.offsets a) 0)
is_stack_load L (Opaque t) = false

-- a callee_saved_lem register's entry value
unfoldable pub is_saved : Expr → Bool
is_saved (Const c) = false
is_saved (Use v) = eqb v.ver 0 && callee_saved v.reg
is_saved (Bin o a b) = false
is_saved (Un o a) = false
is_saved (Load n a) = false
is_saved (Opaque t) = false

-- restoring a callee_saved_lem register: a stack load nobody reads
unfoldable pub restores : Lowering → Value → Expr → Bool
restores L v x = callee_saved v.reg && not (within (find L.classes v) L.read_roots) && is_stack_load L x

unfoldable pub assign : Lowering → Stmt → Value → Expr → List Line
assign L s v x =
    cond (s.dead || eqb v.reg RSP || in_place L.places v || restores L v x) []
    (plain_line s (register (variable L.gen v) ∷ punct (txt " = ") ∷ (e L.gen x ++ (punct (txt ";") ∷ []))))

-- a call takes the pushes before it; a call marked as a push is none
unfoldable pub is_call : Kind → Bool
is_call (Assign v x) = false
is_call (Store n a x) = false
is_call (Call t xs r c) = true
is_call (Branch c t us) = false
is_call (Flags t a b) = false
is_call (Return x) = false
is_call (Other t us ds) = false

unfoldable pub takes : Stmt → Bool
takes s = not s.push && is_call s.kind

-- the prologue's save of a callee_saved_lem register's entry value
unfoldable pub saves : List Known → Expr → Expr → Bool
saves t a x = is_saved x && not (eqb (stack_off t a) 0)

-- a 32-bit push that a call behind it, dead or live, takes along; or a save
unfoldable pub silent : Lowering → Stmt → Expr → Expr → List Stmt → Bool
silent L s a x ss = (eqb L.gen.bits 32 && s.push && any takes ss) || saves L.gen.offsets a x

unfoldable pub store : Lowering → Stmt → ℕ → Expr → Expr → List Stmt → List Line
store L s n a x ss =
    cond (silent L s a x ss) []
    (plain_line s (slot_or (stack_off L.gen.offsets a) (through n (e L.gen a)) ++ (punct (txt " = ") ∷ (e L.gen x ++ (punct (txt ";") ∷ [])))))

-- is the value read by a live statement or a phi
unfoldable pub is_read : Reads → Value → Bool
is_read R v = within v R.live || within v R.phi

unfoldable pub result_tokens : Lowering → Option Value → List Token
result_tokens L none = []
result_tokens L (some v) = cond (is_read L.reads v) (register (variable L.gen v) ∷ punct (txt " = ") ∷ []) []

-- the target of a direct call: its address's name, or as it is spelled
unfoldable pub name_for_hex : Lowering → Option ℕ → Option (List ℕ)
name_for_hex L none = none
name_for_hex L (some a) = name_for L.gen.supplied a

unfoldable pub direct : Lowering → List ℕ → List Token
direct L t = symbol (name_or t (name_for_hex L (read_hex (trim_start (txt "sub_") t)))) ∷ []

-- the target of a computed call: a global's name, or its expression
unfoldable pub slot_name : Lowering → Expr → Option (List ℕ)
slot_name L (Const c) = none
slot_name L (Use v) = none
slot_name L (Bin o a b) = none
slot_name L (Un o a) = none
slot_name L (Load n a) = global_of L.gen.supplied n a
slot_name L (Opaque t) = none

unfoldable pub indirect : Lowering → List Expr → List Token
indirect L [] = []
indirect L (x ∷ xs) = global_or (punct (txt "(*") ∷ (e L.gen x ++ (punct (txt ")") ∷ []))) (slot_name L x)

unfoldable pub is_indirect : List ℕ → Bool
is_indirect t = begins (txt "[") t

-- expressions with `, ` between them
unfoldable pub comma_list : Lowering → List Expr → List Token
comma_list L [] = []
comma_list L (x ∷ xs) = e L.gen x ++ gather (λ y. punct (txt ", ") ∷ e L.gen y) xs

-- the values pushed for a call, the last first
unfoldable pub pushed : Kind → List Expr
pushed (Assign v x) = []
pushed (Store n a x) = x ∷ []
pushed (Call t xs r c) = []
pushed (Branch c t us) = []
pushed (Flags t a b) = []
pushed (Return x) = []
pushed (Other t us ds) = []

-- how many argument registers a call gets: up to the last that was set
unfoldable pub count_set : List ℕ → List ℕ → ℕ
count_set set [] = 0
count_set set (r ∷ rs) = cond (among r set || any (λ q. among q set) rs) (suc (count_set set rs)) 0

unfoldable pub call_args : Lowering → List Stmt → List ℕ → List ℕ → List Expr → List Expr
call_args L pend set t xs =
    cond (eqb L.gen.bits 32) (gather (λ s. pushed s.kind) pend)
    (take (count_set set L.args) (cond (is_indirect t) (drop 1 xs) xs))

unfoldable pub call : Lowering → List Stmt → List ℕ → Stmt → List ℕ → List Expr → Option Value → List Line
call L pend set s t xs r =
    plain_line s (result_tokens L r ++ cond (is_indirect t) (indirect L xs) (direct L t)
    ++ (punct (txt "(") ∷ (comma_list L (call_args L pend set t xs) ++ (punct (txt ");") ∷ []))))

-- `goto` fall behind a conditional branch, unless the next block is meant
unfoldable pub fall_line : Lowering → Here → Stmt → Option ℕ → List Line
fall_line L H s none = []
fall_line L H s (some a) =
    cond (is_next H.next a) [] (plain_line s (goto_tokens (symbol (target_name L.starts L.gen.supplied a))))

-- `if (C) goto NAME;`: the block's taken edge, else the branch's own target, else address 0
unfoldable pub branch_if : Lowering → Here → Stmt → List ℕ → Option ℕ → List Line
branch_if L H s cc t =
    plain_line s
    (keyword (txt "if") ∷ punct (txt " (") ∷ (condition L.gen H.block.stmts cc ++ (punct (txt ") ")
    ∷ goto_tokens (symbol (target_name L.starts L.gen.supplied (given 0 (or_else H.block.taken t)))))))
    ++ fall_line L H s H.block.fall

-- a jump out of the function: a tail call, with the arguments set for it
unfoldable pub tail_call : Lowering → List ℕ → Stmt → List ℕ → List Expr → List Line
tail_call L set s n us =
    let it = symbol n ∷ punct (txt "(") ∷ (comma_list L (take (count_set set L.args) us) ++ (punct (txt ")") ∷ [])) in
    cond L.returns (plain_line s (keyword (txt "return") ∷ textual (txt " ") ∷ (it ++ (punct (txt ";") ∷ []))))
    (plain_line s (it ++ (punct (txt ";") ∷ [])) ++ plain_line s (keyword (txt "return") ∷ punct (txt ";") ∷ []))

unfoldable pub leave : Lowering → List ℕ → Stmt → List ℕ → List Expr → List Line
leave L set s n us = cond (begins (txt "*") n) (plain_line s (goto_tokens (address n))) (tail_call L set s n us)

unfoldable pub first_of : Lowering → List Expr → List Token
first_of L [] = []
first_of L (x ∷ xs) = e L.gen x

-- a plain branch: its own target, else the taken edge; computed where there is neither
unfoldable pub branch_to : Lowering → Here → List ℕ → Stmt → Option ℕ → List Expr → List Line
branch_to L H set s none us = plain_line s (keyword (txt "goto") ∷ punct (txt " *") ∷ (first_of L us ++ (punct (txt ";") ∷ [])))
branch_to L H set s (some a) us =
    cond (among a L.starts)
    (cond (is_next H.next a) [] (plain_line s (goto_tokens (symbol (label a)))))
    (leave L set s (target_name L.starts L.gen.supplied a) us)

unfoldable pub branch : Lowering → Here → List ℕ → Stmt → Option (List ℕ) → Option ℕ → List Expr → List Line
branch L H set s (some cc) t us = branch_if L H s cc t
branch L H set s none t us = branch_to L H set s (or_else t H.block.taken) us

unfoldable pub return_tokens : Lowering → Option Expr → List Token
return_tokens L none = []
return_tokens L (some x) = cond L.returns (textual (txt " ") ∷ e L.gen x) []

unfoldable pub return : Lowering → Stmt → Option Expr → List Line
return L s x = plain_line s (keyword (txt "return") ∷ (return_tokens L x ++ (punct (txt ";") ∷ [])))

-- the variables that an Other sets and somebody reads
unfoldable pub name_list : Lowering → Value → List (List ℕ)
name_list L v = cond (not (eqb v.reg RSP) && is_read L.reads v) (elim (name_in L.gen.names v) [ none ↦ [] | some n ↦ n ∷ [] ]) []

unfoldable pub asm : List (List ℕ) → List ℕ → List Token
asm [] t = keyword (txt "__asm") ∷ textual (txt " { " ++ t ++ txt " }") ∷ []
asm (n ∷ []) t = register n ∷ punct (txt " = ") ∷ keyword (txt "__asm") ∷ textual (txt "(\"" ++ t ++ txt "\");") ∷ []
asm (n ∷ m ∷ ns) t = keyword (txt "__asm") ∷ textual (txt " { " ++ t ++ txt " }") ∷ []

unfoldable pub other : Lowering → Stmt → List ℕ → List Value → List Line
other L s t ds = plain_line s (asm (gather (name_list L) ds) t)

-- the pushes that a call gets: none where it is itself marked as a push, they go to the next one
unfoldable pub waiting : Stmt → List Stmt → List Stmt
waiting s pend = cond s.push [] pend

-- one statement: pend the pushes waiting for a call, set the argument registers set since the last, ss the statements behind it
unfoldable pub lower_kind : Lowering → Here → List Stmt → List ℕ → Stmt → List Stmt → Kind → List Line
lower_kind L H pend set s ss (Assign v x) = assign L s v x
lower_kind L H pend set s ss (Store n a x) = cond s.dead [] (store L s n a x ss)
lower_kind L H pend set s ss (Call t xs r c) = cond s.dead [] (call L (waiting s pend) set s t xs r)
lower_kind L H pend set s ss (Branch c t us) = cond s.dead [] (branch L H set s c t us)
lower_kind L H pend set s ss (Flags t a b) = []
lower_kind L H pend set s ss (Return x) = cond s.dead [] (return L s x)
lower_kind L H pend set s ss (Other t us ds) = cond s.dead [] (other L s t ds)
