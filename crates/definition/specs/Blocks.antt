-- Blocks to lines (c.rs, the rest of the loop over blocks): labels, pushes and set registers carried along, the closing goto; and all of lowering.
use Rattle.std.specs.Prelude.{Bool, true, false, not, cond, ◌||◌, List, [], ◌∷◌, ◌++◌, map, ℕ}
use Rattle.std.proofs.Math.Option.{Option, none, some}
use Rattle.definition.specs.Texts.{txt}
use Rattle.definition.specs.Lists.{among, gather, or_else}
use Rattle.definition.specs.Values.{Value}
use Rattle.definition.specs.Ssa.{Kind, Stmt, Block, Function, uses, stmts_of}
use Rattle.definition.specs.Ssa.Kind.{Assign, Store, Call, Branch, Flags, Return, Other}
use Rattle.definition.specs.Offsets.{Known}
use Rattle.definition.specs.Classes.{Member, find, classes}
use Rattle.definition.specs.Inline.{live, reads_of, inline}
use Rattle.definition.specs.Names.{naming}
use Rattle.definition.specs.Numbers.{label}
use Rattle.definition.specs.Lookup.{order, next_of, is_next, jumps_from}
use Rattle.definition.specs.Tokens.{Line, symbol, punct, line}
use Rattle.definition.specs.Render.{Gen, open_all}
use Rattle.definition.specs.Lower.{Lowering, Here, goto_tokens, saves, takes, lower_kind}

-- the pushes that wait behind a statement
unfoldable pub pend_after : Stmt → List Stmt → List Stmt
pend_after s pend = cond s.push (s ∷ pend) (cond (takes s) [] pend)

-- the argument registers set behind a statement: a dead or in-place Assign sets its register too, a live call clears all
unfoldable pub set_after : List ℕ → Stmt → Kind → List ℕ → List ℕ
set_after args s (Assign v x) set = cond (among v.reg args) (v.reg ∷ set) set
set_after args s (Store n a x) set = set
set_after args s (Call t xs r c) set = cond s.dead set []
set_after args s (Branch c t us) set = set
set_after args s (Flags t a b) set = set
set_after args s (Return x) set = set
set_after args s (Other t us ds) set = set

unfoldable pub lower_stmts : Lowering → Here → List Stmt → List ℕ → List Stmt → List Line
lower_stmts L H pend set [] = []
lower_stmts L H pend set (s ∷ ss) =
    lower_kind L H pend set s ss s.kind ++ lower_stmts L H (pend_after s pend) (set_after L.args s s.kind set) ss

-- does the last statement, dead or live, leave the block
unfoldable pub leaves : Kind → Bool
leaves (Assign v x) = false
leaves (Store n a x) = false
leaves (Call t xs r c) = false
leaves (Branch c t us) = true
leaves (Flags t a b) = false
leaves (Return x) = true
leaves (Other t us ds) = false

unfoldable pub last_leaves : Bool → List Stmt → Bool
last_leaves l [] = l
last_leaves l (s ∷ ss) = last_leaves (leaves s.kind) ss

-- the closing goto, without an address
unfoldable pub closing : Lowering → Here → Option ℕ → List Line
closing L H none = []
closing L H (some a) =
    cond (is_next H.next a || not (among a L.starts)) [] (line 1 none (goto_tokens (symbol (label a))) ∷ [])

unfoldable pub label_line : Lowering → ℕ → List Line
label_line L a = cond (among a L.jumps) (line 0 (some a) (symbol (label a) ∷ punct (txt ":") ∷ []) ∷ []) []

unfoldable pub lower_block : Lowering → Here → List Line
lower_block L H =
    let b = H.block in
    label_line L b.start ++ lower_stmts L H [] [] b.stmts
    ++ cond (last_leaves false b.stmts) [] (closing L H (or_else b.fall b.taken))

unfoldable pub lower_blocks : Lowering → List Block → List Line
lower_blocks L [] = []
lower_blocks L (b ∷ bs) = lower_block L (record { block = b; next = next_of bs }) ++ lower_blocks L bs

-- the classes that some live statement really reads: the prologue's saves of callee_saved_lem registers do not count
unfoldable pub is_save : List Known → Kind → Bool
is_save t (Assign v x) = false
is_save t (Store n a x) = saves t a x
is_save t (Call n xs r c) = false
is_save t (Branch c n us) = false
is_save t (Flags n a b) = false
is_save t (Return x) = false
is_save t (Other n us ds) = false

unfoldable pub read_roots : Function → List Known → List Member → List Value
read_roots F t c = map (find c) (gather (λ s. cond (is_save t s.kind) [] (uses s.kind)) (live (stmts_of F)))

-- all that the analyses say, put together
unfoldable pub lowering : Function → List Known → Lowering
lowering F t =
    let R = reads_of F in
    let c = classes F in
    let ps = inline F R in
    let G : Gen = record { bits = F.bits; supplied = F.names; offsets = t; names = naming F c ps; opened = [] } in
    record {
      gen = open_all G ps;
      args = F.args;
      returns = F.returns;
      reads = R;
      places = ps;
      classes = c;
      read_roots = read_roots F t c;
      starts = order F;
      jumps = jumps_from F.blocks;
    }

-- the lowered lines of a function whose stack offsets are t
unfoldable pub lower : Function → List Known → List Line
lower F t = lower_blocks (lowering F t) F.blocks
