-- Each contract of this crate is an equation for the answer, so no second answer meets it.
use mathlib.Core.Path.{◌≡◌, sym, ◌∙◌}
use mathlib.Core.List.{List}
use Prim.Native.Nat.{ℕ}
use Rattle.ssa.specs.Block.{phi_record, block_record}
use Rattle.ssa.specs.Node.{node_record}
use Rattle.ssa.specs.declared.block.Phi.{Phi}
use Rattle.ssa.specs.declared.block.Block.{Block}
use Rattle.ssa.specs.declared.node.Node.{Node}

pub phi_at_lem : (f : List ℕ) (i : ℕ) (r s : Phi) → r ≡ phi_record f i → s ≡ phi_record f i → r ≡ s
phi_at_lem f i r s p q = p ∙ sym q

pub block_at : (f : List ℕ) (i : ℕ) (r s : Block) → r ≡ block_record f i → s ≡ block_record f i → r ≡ s
block_at f i r s p q = p ∙ sym q

pub node_at : (f : List ℕ) (n : ℕ) (r s : Node) → r ≡ node_record f n → s ≡ node_record f n → r ≡ s
node_at f n r s p q = p ∙ sym q
