-- Phi i and block i of the file as values of the code's types.
use Rattle.std.specs.Prelude.{List, ℕ, eqb}
use Rattle.std.specs.Bool.{then_some}
use Rattle.definition.specs.Contents.{block_word, block_long, phi_word}
use Rattle.definition.specs.Owners.{block_phis, block_stmts, phi_inputs}
use Rattle.ssa.specs.declared.block.Phi.{Phi}
use Rattle.ssa.specs.declared.block.Block.{Block}

unfoldable pub phi_record : List ℕ → ℕ → Phi
phi_record f i = record {
  value = record { reg = phi_word f i 0; ver = phi_word f i 1 };
  dead = eqb (phi_word f i 2) 1;
  inputs = phi_inputs f i;
}

unfoldable pub block_record : List ℕ → ℕ → Block
block_record f i = record {
  start = block_long f i 0;
  taken = then_some (eqb (block_word f i 2) 1) (block_long f i 3);
  fall = then_some (eqb (block_word f i 5) 1) (block_long f i 6);
  phis = block_phis f i;
  stmts = block_stmts f i;
}
