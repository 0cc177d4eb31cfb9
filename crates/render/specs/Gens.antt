-- What rendering knows before each statement, and what expressions and values print there.
use Rattle.std.specs.Prelude.{Bool, List, [], map, ℕ, ltb}
use Rattle.definition.specs.Edition.{Edition}
use Rattle.definition.specs.Lists.{only}
use Rattle.definition.specs.Values.{Value}
use Rattle.definition.specs.Ssa.Expr.{Use}
use Rattle.definition.specs.Read.{tree_at, all_trees, read}
use Rattle.definition.specs.Offsets.{offsets}
use Rattle.definition.specs.Classes.{classes}
use Rattle.definition.specs.Inline.{reads_of, inline}
use Rattle.definition.specs.Names.{naming}
use Rattle.definition.specs.Tokens.{Token}
use Rattle.definition.specs.Render.{Gen, expr, open_all}
use Rattle.inline.specs.Placing.{all_placed}

-- no value written in place is open
unfoldable pub bare : Edition → List ℕ → Gen
bare E f =
    let F = read E f in
    record { bits = F.bits; supplied = F.names; offsets = offsets F; names = naming F (classes F) (inline F (reads_of F)); opened = [] }

-- before statement pos: the values written in place by the statements before it are open (c.rs, `Gen`)
unfoldable pub gen_at : Edition → List ℕ → ℕ → Gen
gen_at E f pos = open_all (bare E f) (map (λ p. p.is) (only (λ p. ltb p.stmt pos) (all_placed E f)))

-- expression n, and the value v, there
unfoldable pub rendered : Edition → List ℕ → ℕ → Bool → ℕ → List Token
rendered E f pos top n = expr (gen_at E f pos) top (tree_at (all_trees E f) n)

unfoldable pub used : Edition → List ℕ → ℕ → Bool → Value → List Token
used E f pos top v = expr (gen_at E f pos) top (Use v)
