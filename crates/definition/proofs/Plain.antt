-- What lowering owes the passes: `Plain` for every accepted file, `Met` under demand 3's premises; and that plain lines nest.
use mathlib.Core.Path.{◌≡◌, refl}
use mathlib.Core.List.{List, [], ◌∷◌}
use Prim.Native.Nat.{ℕ, ◌≤◌, ◌<◌}
use Rattle.definition.specs.Lists.{count}
use Rattle.definition.specs.Tokens.{Line}
use Rattle.definition.specs.Sorts.{Sort, sort}
use Rattle.definition.specs.Sorts.Sort.{label, cond_to, jump_to, plain, if_open, close, do_open, while_close}
use Rattle.definition.specs.Passes.{named, aims}
use Rattle.definition.proofs.ListLaws.{Each, ◌▸◌}
use Rattle.definition.proofs.Fits.{Fits}
use Rattle.definition.proofs.Nest.{Act, Nest}

-- a label at indent 0; a jump, conditional or not, or a plain line at 1
abbrev pub FlatAs : Sort → ℕ → Type 0
FlatAs (label t) n = n ≡ 0
FlatAs (cond_to t) n = n ≡ 1
FlatAs (jump_to t) n = n ≡ 1
FlatAs plain n = n ≡ 1
FlatAs if_open n = ⊥
FlatAs close n = ⊥
FlatAs do_open n = ⊥
FlatAs while_close n = ⊥

abbrev pub Flat : List Line → Type 0
Flat ls = Each (λ x. FlatAs (sort x) x.indent) ls

-- a label that a goto names stands at most once
abbrev pub Distinct : List Line → Type 0
Distinct ls = (t : List ℕ) → 0 < count (aims t) ls → count (named t) ls ≤ 1

-- what the sweeps ask of the lines
abbrev pub Good : List Line → Type 0
Good ls = Fits ls × Distinct ls

-- each goto to an own name meets exactly one label
abbrev pub Met : (List ℕ → Type 0) → List Line → Type 0
Met own ls = (t : List ℕ) → own t → 0 < count (aims t) ls → count (named t) ls ≡ 1

pub record Plain (low : List Line) : Type 0 where
  pub flat : Flat low
  pub fits : Fits low
  pub once : Distinct low

flat_act : (s : Sort) (n : ℕ) → FlatAs s n → Act s [] n []
flat_act (label t) n h = (h, refl)
flat_act (cond_to t) n h = (h, refl)
flat_act (jump_to t) n h = (h, refl)
flat_act plain n h = (h, refl)
flat_act if_open n h = absurd h
flat_act close n h = absurd h
flat_act do_open n h = absurd h
flat_act while_close n h = absurd h

pub flat_nest : (ls : List Line) → Flat ls → Nest [] ls []
flat_nest [] h = refl
flat_nest (x ∷ xs) (f ▸ h) = ([], flat_act (sort x) x.indent f, flat_nest xs h)
