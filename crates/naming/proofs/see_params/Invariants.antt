-- The first i parameters are left to mark in the table so far, and with them it becomes the one asked for; i falls to 0, where none is left.
use Rattle.naming.specs.Walk.{params_seen}
use lib.ListN.{length}
use Prim.Native.Nat.{◌≤◌}
use mathlib.Core.Path.{◌≡◌}
use Rattle.naming.proofs.see_params.Given as goal

abbrev pub invariant-loop-i : goal.invariant-loop-i
invariant-loop-i l = (params_seen l.numbers l.roots l.n l.initial.seen ≡ params_seen l.numbers l.roots l.i l.seen) × (l.i ≤ l.n) × (length l.seen ≡ length l.initial.seen)
