-- What live statements read that are no saves, by their nodes; a table marked at the roots of what is read.
use Rattle.std.specs.Prelude.{◌≡◌, Bool, cond, ◌&&◌, ◌||◌, List, [], ℕ, eqb, ltb, set}
use Rattle.definition.specs.Codes.{t_use}
use Rattle.definition.specs.Edition.{Edition, expressions}
use Rattle.definition.specs.Contents.{size, text, expr_word}
use Rattle.definition.specs.Values.{within}
use Rattle.definition.specs.Read.{kind_at, all_trees, marked, read}
use Rattle.definition.specs.Offsets.{Known, look}
use Rattle.definition.specs.Classes.{classes}
use Rattle.definition.specs.Registers.{callee_saved}
use Rattle.definition.specs.Blocks.{is_save, read_roots}
use Rattle.definition.specs.Lists.{at}
use Rattle.values.specs.Tables.{table}
use Rattle.uses.specs.Uses.{stmt_uses}
use Rattle.names.specs.Given.{root_table}

-- expression n is a callee_saved_lem register's entry value
unfoldable pub saved_use : List ℕ → ℕ → Bool
saved_use f n = eqb (expr_word f n 0) t_use && (eqb (expr_word f n 2) 0 && callee_saved (expr_word f n 1))

unfoldable pub saved_at : List ℕ → ℕ → Bool
saved_at f n = ltb n (size f expressions) && saved_use f n

-- the root of value number s is marked
unfoldable pub classed : List ℕ → List ℕ → ℕ → List ℕ
classed roots l s = set l (at roots s) 1

-- the Use nodes of statement i, where it is live and no save
unfoldable pub reading : Edition → List ℕ → List Known → ℕ → List ℕ
reading E f k i = cond (marked f i 1 || is_save k (kind_at E f (all_trees E f) i)) [] (stmt_uses f i)

-- a table of n numbers, given the text's section, the stack offsets and the roots of classes
abbrev pub ReadRoots : List ℕ → ℕ → ℕ → List ℕ → List ℕ → List ℕ → Type 0
ReadRoots f t n offsets roots tab =
    (E : Edition) (k : List Known) → text E ≡ t → offsets ≡ table f n (look k) → roots ≡ root_table E f n
    → tab ≡ table f n (λ v. cond (within v (read_roots (read E f) k (classes (read E f)))) 1 0)
