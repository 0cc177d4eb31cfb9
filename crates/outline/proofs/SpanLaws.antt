-- The table of spans, one turn at a time.
use mathlib.Core.Path.{◌≡◌, refl, sym, ap, ap₂, ◌∙◌}
use mathlib.Core.List.{List}
use Prim.Native.Nat.{ℕ, ◌+◌, ◌-◌, ◌≤◌, ◌<◌}
use native.Mathlib.Numerals.{add-one}
use Rattle.definition.specs.Lists.{at}
use Rattle.definition.proofs.Runs.{loop_start}
use Rattle.outline.specs.Spans.{note_row, note_from}
use Rattle.outline.proofs.Along.{left_turn, left_end}

module _ (R : List ℕ) (n i : ℕ) (S : List ℕ) where
  pub note_turn : i < n → (w : ℕ) → w ≡ at R i → (T : List ℕ) → T ≡ note_row S w i → note_from R i (n - i) S ≡ note_from R (i + 1) (n - (i + 1)) T
  unfolding note_from
  note_turn h w e T q =
      left_turn (λ (f : ℕ). note_from R i f S) i n h
      ∙ ap₂ (λ (k : ℕ) (Z : List ℕ). note_from R k (n - (i + 1)) Z) (sym (add-one i)) (ap (λ (v : ℕ). note_row S v i) (sym e) ∙ sym q)

  pub note_end : n ≤ i → note_from R i (n - i) S ≡ S
  unfolding note_from
  note_end = left_end (λ (f : ℕ). note_from R i f S) i n

pub note_start : (R : List ℕ) (n : ℕ) (S : List ℕ) → note_from R 0 n S ≡ note_from R 0 (n - 0) S
note_start R n S = loop_start (λ (f : ℕ). note_from R 0 f S) n n refl
