-- Looking on from token k gives what looking from 1 gives; the parentheses so far are bytes before k, so they fit; at the end no token is left.
use mathlib.Core.Path.{◌≡◌}
use Prim.Native.Nat.{◌-◌, ◌<◌}
use mathlib.Core.List.{map}
use Rattle.definition.specs.Lists.{range}
use Rattle.clips.specs.Clip.{clip_at}
use Rattle.comparisons.specs.Looks.{unseen, looked, Within}
use Rattle.comparisons.proofs.looks.look_over.Given as goal

abbrev pub invariant-loop-k : goal.invariant-loop-k
invariant-loop-k l = (looked unseen 1 (map (clip_at l.lowered l.source l.c) (range 1 (l.c.count - 1))) ≡ looked l.l l.k (map (clip_at l.lowered l.source l.c) (range l.k (l.c.count - l.k)))) × (l.k < l.c.count → Within l.lowered l.c l.k l.l)
