-- A row's indent is its lowered line's and the steps between: their sum is the row's own number, which is small.
use mathlib.Core.Path.{◌≡◌, sym, ◌∙◌}
use Prim.Native.Nat.{ℕ, ◌+◌, ◌-◌, ◌≤◌}
use native.Mathlib.Omega.{arith}
use Rattle.outline.specs.Rows.{indent_of}
use Rattle.indents.specs.Deeper.{deeper_by}
use Rattle.indents.proofs.Laws.{deeper_fits}

pub deepened : (w d l r : ℕ) → d ≡ indent_of w → l ≤ d → r ≡ deeper_by (d - l) l → r ≡ indent_of w
deepened w d l r e h q =
    let s : l + (d - l) ≡ d = omega arith in
    q ∙ sym (deeper_fits (d - l) l (omega arith)) ∙ s ∙ e
