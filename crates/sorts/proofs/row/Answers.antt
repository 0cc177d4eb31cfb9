-- By the line's sort: a label's name is 1 + its line, a goto's the number of the label it names, a plain line's is 0; packed, that is its row.
use Rattle.sorts.proofs.RowsMade.{row_label, row_plain, row_jump}
use Rattle.sorts.proofs.Naming.{label_most}
use Rattle.sorts.specs.Sorted.{number_of}
use mathlib.Core.Path.{◌≡◌, sym, ap, ◌∙◌}
use native.Mathlib.Numerals.{add-one}
use native.Mathlib.Omega.{arith}
use Rattle.sorts.proofs.row.Goals as goal
use Rattle.sorts.proofs.row.Goals.{in-Some-find_label, in-None}

pub returns-then-is_label : goal.returns-then-is_label
returns-then-is_label c = row_label _ _ _ _ _ c.requires _ _ _ c.first_of-a.ensures c.last_of-e.ensures c.line_number-d.ensures _ c.is_label.ensures c.if-is_label.true _ c.pack.ensures

pub returns-in_default : goal.returns-in_default
returns-in_default c = row_plain _ _ _ _ _ c.requires _ _ _ c.first_of-a.ensures c.last_of-e.ensures c.line_number-d.ensures _ c.is_label.ensures c.if-is_label.false _ c.goto_target.ensures c.in_default.is _ c.pack-in_default.ensures

pub overflow_add-name : goal.overflow_add-name
overflow_add-name c = omega (arith, label_most _ _ _ _ _ _ c.in-Some-find_label.ensures)

pub returns : goal.returns
returns c = let m = c.match-find_label in
    let named : m.name ≡ number_of c.find_label.result = elim m.branch [
      | in-Some-find_label w ↦ w.name-is ∙ add-one _ ∙ ap number_of (sym w.in-Some-find_label.is)
      | in-None w ↦ w.name-is ∙ ap number_of (sym w.in-None.is)
    ] in
    row_jump _ _ _ _ _ c.requires _ _ _ c.first_of-a.ensures c.last_of-e.ensures c.line_number-d.ensures _ c.is_label.ensures c.if-is_label.false _ c.goto_target.ensures _ _ _ c.in-Some.is (named ∙ c.find_label.ensures) c.jump_kind.ensures _ c.pack-2.ensures
