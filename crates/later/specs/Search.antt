-- The search for the one later read of a value, by the numbers of statements.
use Rattle.std.specs.Prelude.{Option, Some, None, Bool, not, cond, ◌&&◌, ◌||◌, List, ℕ, ◌+◌, ◌-◌, eqb, ltb, leb}
use Rattle.definition.specs.Codes.{k_assign, k_branch, k_flags, k_return}
use Rattle.definition.specs.Lists.{any, range}
use Rattle.definition.specs.Owners.{stmt_kind, stmt_field}
use Rattle.definition.specs.Values.{RSP}
use Rattle.definition.specs.Read.{marked}

-- a statement that may change memory, dead or live: a Store, a Call or an Other
unfoldable pub changes : List ℕ → ℕ → Bool
changes f i =
    let k = stmt_kind f i in
    not (eqb k k_assign || eqb k k_branch || eqb k k_flags || eqb k k_return)

-- some of n statements from `from` on
unfoldable pub changed : List ℕ → ℕ → ℕ → Bool
changed f from n = any (changes f) (range from n)

-- the statement before number `reader` stands from `from` on and before `end`, and none between changes what is loaded
unfoldable pub reached : List ℕ → ℕ → Bool → ℕ → ℕ → Bool
reached f reader loads from end = ltb from reader && leb reader end && not (loads && changed f from (reader - 1 - from))

-- the one later read of what statement i defines, in a block that ends before statement `end`
unfoldable pub later_read : List ℕ → ℕ → ℕ → ℕ → ℕ → Option ℕ
later_read f i end reader loads = cond (reached f reader (eqb loads 1) (i + 1) end) (Some (reader - 1)) None

-- statement i is a live Assign to another register than RSP, whose value p phis and n live statements read, none and one
unfoldable pub single : List ℕ → ℕ → ℕ → ℕ → Bool
single f i p n = not (marked f i 1) && eqb (stmt_kind f i) k_assign && not (eqb (stmt_field f i 0) RSP) && eqb p 0 && eqb n 1
