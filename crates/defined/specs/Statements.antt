-- The statements of a file one after the other: which come, and how many are left.
use Rattle.std.specs.Prelude.{◌≡◌, Option, List, ℕ, ◌+◌, ◌-◌}
use Rattle.std.specs.Option.{MatchOption}
use Rattle.definition.specs.Edition.{statements}
use Rattle.definition.specs.Contents.{size}
use Rattle.defined.specs.declared.statement.Statement.{Statement}
use Rattle.defined.specs.declared.statement.Statements.{Statements}

-- how many are left
abbrev pub left : Statements → ℕ
left s = s.n - s.i

-- all statements of f are left
pub record Begins (f : List ℕ) (s : Statements) : Type 0 where
  pub file : s.f.now ≡ f
  pub first : s.i ≡ 0
  pub many : left s ≡ size f statements

-- a call of `next` gave the statement that came next, or none where none is left
abbrev pub steps : Statements → Option Statement → Statements → Type 0
steps s r t =
    (t.f.now ≡ s.f.now)
    × MatchOption r ((left s ≡ 0) × (t.i ≡ s.i)) (λ x. (x.f.now ≡ s.f.now) × (x.i ≡ s.i) × (t.i ≡ s.i + 1) × (left t + 1 ≡ left s))
