-- Each public contract of this crate is an equation for the answer, so no second answer meets it.
use mathlib.Core.Path.{◌≡◌, sym, ◌∙◌}
use mathlib.Core.Bool.{Bool}
use mathlib.Core.List.{List}
use Prim.Native.Nat.{ℕ}
use Rattle.definition.specs.Shape.{block_shaped, phi_shaped, stmt_shaped, expr_shaped}

module _ (f : List ℕ) (i : ℕ) (r s : Bool) where
  pub block_shaped_lem : r ≡ block_shaped f i → s ≡ block_shaped f i → r ≡ s
  block_shaped_lem p q = p ∙ sym q

  pub phi_shaped_lem : r ≡ phi_shaped f i → s ≡ phi_shaped f i → r ≡ s
  phi_shaped_lem p q = p ∙ sym q

  pub stmt_shaped_lem : r ≡ stmt_shaped f i → s ≡ stmt_shaped f i → r ≡ s
  stmt_shaped_lem p q = p ∙ sym q

  pub expr_shaped_lem : r ≡ expr_shaped f i → s ≡ expr_shaped f i → r ≡ s
  expr_shaped_lem p q = p ∙ sym q
