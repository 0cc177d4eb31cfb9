-- Cleared heads are empty chains, from which every place gets its number; then both tables, as long as before, are cleared.
use native.Mathlib.Omega.{arith}
use mathlib.Core.Path.{ap, ◌∙◌}
use Prim.Native.Nat.{ℕ}
use lib.ListN.{replicate}
use Rattle.values.proofs.Chaining.{cleared}
use Rattle.values.proofs.numbers.numbers.Goals as goal

pub number_all-requires : goal.number_all-requires
number_all-requires c = let pre = c.requires in record { heads_value = cleared c.args.heads.now _ c.clear.ensures c.clear.auto.table; numbers_len = (pre.0, pre.1, pre.2, omega (arith, pre.3, c.clear.auto.table)) }

pub returns : goal.returns
returns c = record { numbers = c.number_all.ensures; no_heads = c.clear-2.ensures ∙ ap (λ (n : ℕ). replicate n 0) (c.number_all.auto.heads ∙ c.clear.auto.table); no_next = c.clear-3.ensures ∙ ap (λ (n : ℕ). replicate n 0) c.number_all.auto.next }
