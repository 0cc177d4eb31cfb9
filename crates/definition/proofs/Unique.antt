-- A contract that gives an answer, or a buffer at exit, by an equation: no second one satisfies it.
use mathlib.Core.Path.{◌≡◌, sym, ◌∙◌}

pub equation {ℓ} : {A : Type ℓ} (x r s : A) → r ≡ x → s ≡ x → r ≡ s
equation x r s p q = p ∙ sym q
