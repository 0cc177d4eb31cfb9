-- The rows from j up to n copied one place on, and v put where they began.
use mathlib.Core.List.{List}
use mathlib.Core.Path.{ap, ◌∙◌}
use Prim.Native.Nat.{ℕ}
use lib.ListN.{set}
use Rattle.outline.proofs.Moves.{put_in}
use Rattle.outline.proofs.forming.insert_row.Goals as goal

pub returns : goal.returns
returns c = let a = c.args in ap (λ (l : List ℕ). set l a.j a.v) c.copy_within.ensures.after ∙ put_in a.rows.now a.n a.j a.v c.requires.0 c.requires.1
