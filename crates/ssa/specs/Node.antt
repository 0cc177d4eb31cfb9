-- Expression n of the file as a value of the code's types.
use Rattle.std.specs.Prelude.{cond, List, ℕ, eqb}
use Rattle.definition.specs.Codes.{t_const, t_use, t_bin, t_un, t_load, t_opaque}
use Rattle.definition.specs.Contents.{expr_word, expr_long}
use Rattle.defined.specs.declared.value.Value.{Value}
use Rattle.ssa.specs.declared.parts.Text.{Text}
use Rattle.ssa.specs.declared.node.Bin.{Bin as BinS}
use Rattle.ssa.specs.declared.node.Un.{Un as UnS}
use Rattle.ssa.specs.declared.node.Load.{Load as LoadS}
use Rattle.ssa.specs.declared.node.Node.{Node}
use Rattle.ssa.specs.declared.node.Node.TheVariants.{Const, Use, Bin, Un, Load, Opaque}

-- an operator's text, or an Opaque's
abbrev pub text_record : List ℕ → ℕ → Text
text_record f n = record { start = expr_word f n 1; len = expr_word f n 2 }

abbrev pub use_record : List ℕ → ℕ → Value
use_record f n = record { reg = expr_word f n 1; ver = expr_word f n 2 }

abbrev pub bin_record : List ℕ → ℕ → BinS
bin_record f n = record { op = text_record f n; left = expr_word f n 3; right = expr_word f n 4 }

abbrev pub un_record : List ℕ → ℕ → UnS
un_record f n = record { op = text_record f n; child = expr_word f n 3 }

abbrev pub load_record : List ℕ → ℕ → LoadS
load_record f n = record { size = expr_word f n 1; child = expr_word f n 2 }

-- expression n, were its tag g
unfoldable pub node_by : List ℕ → ℕ → ℕ → Node
node_by f n g =
    cond (eqb g t_const) (Const (expr_long f n 1))
    (cond (eqb g t_use) (Use (use_record f n))
    (cond (eqb g t_bin) (Bin (bin_record f n))
    (cond (eqb g t_un) (Un (un_record f n))
    (cond (eqb g t_load) (Load (load_record f n))
    (Opaque (text_record f n))))))

abbrev pub node_record : List ℕ → ℕ → Node
node_record f n = node_by f n (expr_word f n 0)

-- the tag that the file has for a node
unfoldable pub node_tag : Node → ℕ
node_tag (Const c) = t_const
node_tag (Use v) = t_use
node_tag (Bin s) = t_bin
node_tag (Un s) = t_un
node_tag (Load s) = t_load
node_tag (Opaque s) = t_opaque
