-- A span that lies inside the file and holds a part of it.
use Rattle.std.specs.Prelude.{◌≡◌, List, ℕ, ◌-◌, ◌≤◌, length, take, drop}
use Rattle.definition.specs.Words.{part}
use Rattle.flags.specs.declared.spans.Span.{Span}

-- n bytes from `at` on, as far as the file has them
pub record Inside (f : List ℕ) (at n : ℕ) (s : Span) : Type 0 where
  pub ordered : s.start ≤ s.end
  pub within : s.end ≤ length f
  pub holds : take (s.end - s.start) (drop s.start f) ≡ part f at n
