-- Statements that assign a value.
use Rattle.std.specs.Prelude.{◌≡◌, Bool, ◌&&◌, List, ℕ, ◌<◌, eqb}
use Rattle.definition.specs.Codes.{k_assign}
use Rattle.definition.specs.Edition.{statements}
use Rattle.definition.specs.Contents.{size}
use Rattle.definition.specs.Owners.{stmt_kind, stmt_field}

-- statement i is an Assign
pub record Assigns (f : List ℕ) (i : ℕ) : Type 0 where
  pub inside : i < size f statements
  pub kind : stmt_kind f i ≡ k_assign

-- statement k is one to the value that statement i has in its fields
unfoldable pub assigns_as : List ℕ → ℕ → ℕ → Bool
assigns_as f i k = eqb (stmt_kind f k) k_assign && (eqb (stmt_field f k 0) (stmt_field f i 0) && eqb (stmt_field f k 1) (stmt_field f i 1))

pub record Alike (f : List ℕ) (i k : ℕ) : Type 0 where
  pub assigns : Assigns f k
  pub register : stmt_field f k 0 ≡ stmt_field f i 0
  pub version : stmt_field f k 1 ≡ stmt_field f i 1
