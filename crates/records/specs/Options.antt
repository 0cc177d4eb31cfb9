-- An option of the rules, as code answers it.
use Rattle.std.specs.Prelude.{Option as Answer, Some, None}
use Rattle.std.proofs.Math.Option.{Option, none, some}

abbrev pub answer_of : {A : Type 0} → Option A → Answer A
answer_of none = None
answer_of (some x) = Some x
