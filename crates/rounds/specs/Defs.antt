-- The definitions that a file's records make, in the order of the rounds.
use Rattle.std.specs.Prelude.{Bool, not, cond, List, map, ℕ, eqb}
use Rattle.definition.specs.Edition.{Edition}
use Rattle.definition.specs.Lists.{only, gather, range}
use Rattle.definition.specs.Values.{RSP}
use Rattle.definition.specs.Read.{phi_at, stmt_at, block_at, all_trees}
use Rattle.definition.specs.Offsets.{Def, phi_def, stmt_def, block_defs, defined}

-- is a definition of register r this closure's: RSP's own, or the others'
unfoldable pub turn_of : Bool → ℕ → Bool
turn_of own r = cond own (eqb r RSP) (not (eqb r RSP))

-- the closure's own among the definitions
unfoldable pub mine : Bool → List Def → List Def
mine own ds = only (λ d. turn_of own (defined d).reg) ds

-- of n phis from a on
unfoldable pub phi_defs : List ℕ → ℕ → ℕ → List Def
phi_defs f a n = map phi_def (map (phi_at f) (range a n))

-- of n statements from a on
unfoldable pub stmt_defs : Edition → List ℕ → ℕ → ℕ → List Def
stmt_defs E f a n = gather (λ s. stmt_def s.kind) (map (stmt_at E f (all_trees E f)) (range a n))

-- of the blocks below b
unfoldable pub defs_below : Edition → List ℕ → ℕ → List Def
defs_below E f b = gather block_defs (map (block_at E f (all_trees E f)) (range 0 b))
