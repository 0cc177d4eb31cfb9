-- Where a round stands: before block b.
use Rattle.std.specs.Prelude.{◌≡◌, List, ℕ}
use Rattle.definition.specs.Owners.{first_phi, first_stmt, first_input}
use Rattle.rounds.specs.declared.Walk.{Walk}

pub record Before (f : List ℕ) (b : ℕ) (w : Walk) : Type 0 where
  pub phi : w.phi ≡ first_phi f b
  pub input : w.input ≡ first_input f (first_phi f b)
  pub stmt : w.stmt ≡ first_stmt f b
