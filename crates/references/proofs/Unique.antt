-- The contract is an equation for the answer and the table that is left, so no second one meets it.
use mathlib.Core.Path.{◌≡◌}
use mathlib.Core.Bool.{Bool}
use mathlib.Core.List.{List}
use Prim.Native.Nat.{ℕ}
use Rattle.definition.specs.References.{refused5}
use Rattle.records.specs.declared.edition.Edition.{Edition}
use Rattle.records.specs.Editions.{edition_of}
use Rattle.owned.specs.Tally.{Answered}
use Rattle.owned.proofs.Unique.{answered}

pub check_5 : (e : Edition) (f : List ℕ) (r s : Bool) (t u v : List ℕ)
    → Answered (refused5 (edition_of e) f) r t u → Answered (refused5 (edition_of e) f) s t v → (r ≡ s) × (u ≡ v)
check_5 e f = answered (refused5 (edition_of e) f)
