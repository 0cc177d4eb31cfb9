-- Where a block goes, as the record that was read of it says: the record is the definition's block, so its edges are.
use mathlib.Core.Path.{◌≡◌, refl, sym, ap, ◌∙◌}
use mathlib.Core.List.{List, []}
use Prim.Native.Nat.{ℕ}
use Rattle.std.specs.Prelude.{Option as Answer, Some, None}
use Rattle.std.specs.Option.{option_or}
use Rattle.definition.specs.Edition.{edition1}
use Rattle.definition.specs.Contents.{block_word, block_long}
use Rattle.definition.specs.Owners.{first_phi, first_stmt}
use Rattle.definition.specs.Ssa.{Block as DBlock}
use Rattle.definition.specs.Read.{when, block_at}
use Rattle.definition.specs.Lists.{or_else}
use Rattle.ssa.specs.Block.{block_record}
use Rattle.ssa.specs.View.{option_of, view_block}
use Rattle.ssa.specs.declared.block.Block.{Block}
use Rattle.ssa.proofs.Views.{block_view}

-- the first of two edges that is there
pub or_viewed : (o p : Answer ℕ) → option_of (option_or o p) ≡ or_else (option_of o) (option_of p)
unfolding or_else
or_viewed None p = refl
or_viewed (Some a) p = refl

module _ (f : List ℕ) (b : ℕ) (x : Block) (is : x ≡ block_record f b) where
  block_is : view_block edition1 f [] (first_phi f b) (first_stmt f b) x ≡ block_at edition1 f [] b
  block_is = ap (view_block edition1 f [] (first_phi f b) (first_stmt f b)) is ∙ block_view edition1 f [] b

  pub edges_are : (when (block_word f b 2) (block_long f b 3) ≡ option_of x.taken) × (when (block_word f b 5) (block_long f b 6) ≡ option_of x.fall)
  unfolding view_block block_at
  edges_are = (sym (ap (λ (z : DBlock). z.taken) block_is), sym (ap (λ (z : DBlock). z.fall) block_is))
