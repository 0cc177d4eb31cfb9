-- The function that a file holds, record by record (document 01, "The function file"). Expressions become trees, from the lowest up.
use Rattle.std.specs.Prelude.{Bool, cond, List, [], ◌∷◌, ◌++◌, map, ℕ, zero, suc, ◌/◌, ◌%◌, eqb, get_or}
use Rattle.std.proofs.Math.Option.{Option, none, some}
use Rattle.definition.specs.Codes.{k_assign, k_store, k_call, k_branch, k_flags, k_return, t_const, t_use, t_bin, t_un, t_load}
use Rattle.definition.specs.Edition.{Edition, blocks, expressions, names}
use Rattle.definition.specs.Words.{word}
use Rattle.definition.specs.Lists.{range}
use Rattle.definition.specs.Contents.{size, block_word, block_long, phi_word, input_at, stmt_word, stmt_long, expr_word, expr_long, name_word, name_long, text_at}
use Rattle.definition.specs.Owners.{stmt_kind, stmt_field, block_phis, block_stmts, phi_inputs, first_phi, first_stmt, first_input}
use Rattle.definition.specs.References.{item_exprs}
use Rattle.definition.specs.Values.{value}
use Rattle.definition.specs.Meaning.{bits, arg_regs, item_values}
use Rattle.definition.specs.Ssa.{Expr, Kind, Stmt, Phi, Block, Name, Function}
use Rattle.definition.specs.Ssa.Expr.{Const, Use, Bin, Un, Load, Opaque}
use Rattle.definition.specs.Ssa.Kind.{Assign, Store, Call, Branch, Flags, Return, Other}

abbrev pub when {ℓ} : {A : Type ℓ} → ℕ → A → Option A
when there x = cond (eqb there 1) (some x) none

-- an operator's text
unfoldable pub op_text : Edition → List ℕ → ℕ → List ℕ
op_text E f n = text_at E f (expr_word f n 1) (expr_word f n 2)

-- the tree at an index of a table of trees
abbrev pub tree_at : List Expr → ℕ → Expr
tree_at t i = get_or t i (Opaque [])

-- the tree of expression n, where t has the trees of those below it
unfoldable pub tree : Edition → List ℕ → List Expr → ℕ → Expr
tree E f t n =
    let g = expr_word f n 0 in
    cond (eqb g t_const) (Const (expr_long f n 1))
    (cond (eqb g t_use) (Use (value (expr_word f n 1) (expr_word f n 2)))
    (cond (eqb g t_bin) (Bin (op_text E f n) (tree_at t (expr_word f n 3)) (tree_at t (expr_word f n 4)))
    (cond (eqb g t_un) (Un (op_text E f n) (tree_at t (expr_word f n 3)))
    (cond (eqb g t_load) (Load (expr_word f n 1) (tree_at t (expr_word f n 2)))
    (Opaque (text_at E f (expr_word f n 1) (expr_word f n 2)))))))

-- the trees of the expressions below n
unfoldable pub trees : Edition → List ℕ → ℕ → List Expr
trees E f zero = []
trees E f (suc n) = let t = trees E f n in t ++ (tree E f t n ∷ [])

unfoldable pub all_trees : Edition → List ℕ → List Expr
all_trees E f = trees E f (size f expressions)

-- the kind of statement i, with t the trees
unfoldable pub kind_at : Edition → List ℕ → List Expr → ℕ → Kind
kind_at E f t i =
    let k = stmt_kind f i in
    let w = stmt_field f i in
    let exprs = map (tree_at t) (item_exprs f i) in
    cond (eqb k k_assign) (Assign (value (w 0) (w 1)) (tree_at t (w 2)))
    (cond (eqb k k_store) (Store (w 0) (tree_at t (w 1)) (tree_at t (w 2)))
    (cond (eqb k k_call) (Call (text_at E f (w 0) (w 1)) exprs (when (w 3) (value (w 4) (w 5))) (item_values f i))
    (cond (eqb k k_branch) (Branch (when (w 0) (text_at E f (w 1) (w 2))) (when (w 3) (stmt_long f i 8)) exprs)
    (cond (eqb k k_flags) (Flags (eqb (w 0) 1) (tree_at t (w 1)) (tree_at t (w 2)))
    (cond (eqb k k_return) (Return (when (w 0) (tree_at t (w 1))))
    (Other (text_at E f (w 0) (w 1)) exprs (item_values f i)))))))

-- mark m (1 dead, 2 flags, 4 push) of statement i
unfoldable pub marked : List ℕ → ℕ → ℕ → Bool
marked f i m = eqb (stmt_word f i 2 / m % 2) 1

unfoldable pub stmt_at : Edition → List ℕ → List Expr → ℕ → Stmt
stmt_at E f t i = record {
  address = stmt_long f i 0;
  dead = marked f i 1;
  flags = marked f i 2;
  push = marked f i 4;
  kind = kind_at E f t i;
}

unfoldable pub phi_at : List ℕ → ℕ → Phi
phi_at f i = record {
  var = phi_word f i 0;
  ver = phi_word f i 1;
  dead = eqb (phi_word f i 2) 1;
  inputs = map (input_at f) (range (first_input f i) (phi_inputs f i));
}

unfoldable pub block_at : Edition → List ℕ → List Expr → ℕ → Block
block_at E f t i = record {
  start = block_long f i 0;
  taken = when (block_word f i 2) (block_long f i 3);
  fall = when (block_word f i 5) (block_long f i 6);
  phis = map (phi_at f) (range (first_phi f i) (block_phis f i));
  stmts = map (stmt_at E f t) (range (first_stmt f i) (block_stmts f i));
}

unfoldable pub name_at : Edition → List ℕ → ℕ → Name
name_at E f i = record { address = name_long f i 0; text = text_at E f (name_word f i 2) (name_word f i 3) }

unfoldable pub read : Edition → List ℕ → Function
read E f =
    let t = all_trees E f in
    record {
      bits = bits f;
      returns = eqb (word f 8) 1;
      args = arg_regs f;
      blocks = map (block_at E f t) (range 0 (size f blocks));
      names = map (name_at E f) (range 0 (size f names));
    }
