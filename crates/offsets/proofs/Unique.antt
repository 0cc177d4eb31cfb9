-- The public contract of this crate says the table exactly: two that meet it are equal.
use mathlib.Core.Path.{◌≡◌, sym, ◌∙◌}
use mathlib.Core.List.{List}
use Prim.Native.Nat.{ℕ}
use Rattle.definition.specs.Edition.{Edition}
use Rattle.definition.specs.Contents.{text}
use Rattle.definition.specs.Read.{read}
use Rattle.definition.specs.Offsets.{look, offsets}
use Rattle.values.specs.Tables.{table}
use Rattle.sums.proofs.Naming.{some_edition}

-- every text's section is some edition's
pub offsets_of_lem : (f : List ℕ) (n t : ℕ) (a b : List ℕ)
    → ((E : Edition) → text E ≡ t → a ≡ table f n (look (offsets (read E f)))) → ((E : Edition) → text E ≡ t → b ≡ table f n (look (offsets (read E f)))) → a ≡ b
offsets_of_lem f n t a b p q = let m = some_edition t in p m.0 m.1 ∙ sym (q m.0 m.1)
