-- A text of a node, and a node below a bound.
use Rattle.std.specs.Prelude.{cond, List, ℕ, ◌+◌, ltb}
use Rattle.definition.specs.Words.{part}
use Rattle.definition.specs.Contents.{offset}
use Rattle.ssa.specs.declared.parts.Text.{Text}
use Rattle.ssa.specs.declared.node.Node.{Node}
use Rattle.ssa.specs.declared.node.Node.TheVariants.{Opaque}
use Rattle.ssa.specs.Node.{node_record}

-- a text's bytes, t being the section of the texts
unfoldable pub text_in : List ℕ → ℕ → Text → List ℕ
text_in f t s = part f (offset f t + s.start) s.len

unfoldable pub no_text : Text
no_text = record { start = 0; len = 0 }

-- node a, where it is below m
unfoldable pub node_below : List ℕ → ℕ → ℕ → Node
node_below f m a = cond (ltb a m) (node_record f a) (Opaque no_text)
