-- Past the end only the empty text begins, and a text longer than the rest does not; while bytes are equal, the bytes from k on decide.
use Rattle.definition.specs.Texts.{begins}
use mathlib.Core.Path.{◌≡◌}
use lib.ListN.{length, drop}
use Prim.Native.Nat.{◌+◌, ◌≤◌}
use Rattle.words.proofs.begins_at.Given as goal

abbrev pub invariant-loop-k : goal.invariant-loop-k
invariant-loop-k l = (begins l.w (drop l.i l.s) ≡ begins (drop l.k l.w) (drop (l.i + l.k) l.s)) × (l.i + length l.w ≤ length l.s)
