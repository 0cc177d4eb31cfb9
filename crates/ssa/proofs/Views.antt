-- The records that the code reads are the definition's, read by the views.
use mathlib.Core.Path.{◌≡◌, refl}
use mathlib.Core.Bool.{Bool, true, false, cond}
use mathlib.Core.Option.{some, none}
use mathlib.Core.List.{List}
use Prim.Native.Nat.{ℕ}
use lib.Dec.{eqb}
use Rattle.std.specs.Bool.{then_some}
use Rattle.definition.specs.Codes.{t_const, t_use, t_bin, t_un, t_load}
use Rattle.definition.specs.Edition.{Edition}
use Rattle.definition.specs.Contents.{expr_word, block_word, block_long}
use Rattle.definition.specs.Owners.{first_phi, first_stmt}
use Rattle.definition.specs.Ssa.{Expr}
use Rattle.definition.specs.Read.{op_text, tree, block_at}
use Rattle.ssa.specs.Block.{block_record}
use Rattle.ssa.specs.Node.{node_by, node_record}
use Rattle.ssa.specs.View.{view_option, view_block, view_node}
use Rattle.ssa.specs.declared.node.Node.{Node}

-- two readings of a choice agree where they agree of both
pub through {ℓ κ μ} : {A : Type ℓ} {B : Type κ} {C : Type μ} (g : A → C) (h : B → C) (b : Bool) (x y : A) (u v : B) → g x ≡ h u → g y ≡ h v
    → g (cond b x y) ≡ h (cond b u v)
through g h true x y u v p q = p
through g h false x y u v p q = q

-- what is there by a test, as an option of the rules
pub option_by : {A B : Type 0} (g : A → B) (b : Bool) (x : A) → view_option g (then_some b x) ≡ cond b (some (g x)) none
option_by g true x = refl
option_by g false x = refl

-- ---- expressions
pub node_view : (E : Edition) (f : List ℕ) (t : List Expr) (n : ℕ) → view_node E f t (node_record f n) ≡ tree E f t n
unfolding view_node node_by tree op_text
node_view E f t n =
    let v : Node → Expr = view_node E f t in
    let same : Expr → Expr = λ e. e in
    let g = expr_word f n 0 in
    through v same (eqb g t_const) _ _ _ _ refl
    (through v same (eqb g t_use) _ _ _ _ refl
    (through v same (eqb g t_bin) _ _ _ _ refl
    (through v same (eqb g t_un) _ _ _ _ refl
    (through v same (eqb g t_load) _ _ _ _ refl refl))))

-- ---- blocks
pub block_view : (E : Edition) (f : List ℕ) (t : List Expr) (i : ℕ) → view_block E f t (first_phi f i) (first_stmt f i) (block_record f i) ≡ block_at E f t i
unfolding view_block block_record block_at
block_view E f t i =
    let same : ℕ → ℕ = λ x. x in
    rw (option_by same (eqb (block_word f i 2) 1) (block_long f i 3), option_by same (eqb (block_word f i 5) 1) (block_long f i 6))
