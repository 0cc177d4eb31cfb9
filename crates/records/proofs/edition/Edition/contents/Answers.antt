-- The list of sections is as long as the edition's count of them, so the contents have 16 bytes and 8 for each.
use Rattle.records.proofs.Editions.{contents_is}
use mathlib.Core.Path.{ap, ◌∙◌}
use Prim.Native.Nat.{ℕ, ◌+◌, ◌*◌}
use Rattle.records.proofs.edition.Edition.contents.Goals as goal

pub returns : goal.returns
returns c = ap (λ (n : ℕ). 16 + 8 * n) c.from.ensures ∙ contents_is c.args.self
