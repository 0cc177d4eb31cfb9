-- Each contract gives the answer, or the lines at exit, by an equation: no second one satisfies it.
use mathlib.Core.Path.{◌≡◌, sym, ◌∙◌}
use mathlib.Core.List.{List, map}
use Prim.Native.Nat.{ℕ}
use Rattle.indents.specs.declared.Line.{Line}
use Rattle.indents.specs.Deeper.{deeper_by, raised_by}

pub raise_lines : (by : ℕ) (ls ms ns : List Line) → ms ≡ map (raised_by by) ls → ns ≡ map (raised_by by) ls → ms ≡ ns
raise_lines by ls ms ns p q = p ∙ sym q

pub raised : (by n r s : ℕ) → r ≡ deeper_by by n → s ≡ deeper_by by n → r ≡ s
raised by n r s p q = p ∙ sym q
