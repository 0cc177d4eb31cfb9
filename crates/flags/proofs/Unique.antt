-- Each public contract of this crate says the answer exactly: by an equation, and where it speaks of an edition, for any one with that text. What set the
-- flags is said through its view: two answers have the same setter and equal operands.
use mathlib.Core.Path.{◌≡◌, sym, ◌∙◌}
use mathlib.Core.Bool.{Bool}
use mathlib.Core.Option.{none}
use mathlib.Core.List.{List, map}
use Prim.Native.Nat.{ℕ}
use Rattle.std.specs.Prelude.{Option as Answer}
use Rattle.definition.specs.Edition.{Edition}
use Rattle.definition.specs.Lists.{range}
use Rattle.definition.specs.Words.{part}
use Rattle.definition.specs.Contents.{text}
use Rattle.definition.specs.Ssa.{eqe}
use Rattle.definition.specs.Read.{tree_at, all_trees, stmt_at}
use Rattle.definition.specs.Condition.{code_of, last_setter, setter_of}
use Rattle.flags.specs.Views.{code_enum, shown_record, shown_of, view_setting}
use Rattle.flags.specs.declared.codes.Code.{Code}
use Rattle.flags.specs.declared.comparison.Setter.{Setter}
use Rattle.flags.specs.declared.comparison.Shown.{Shown}
use Rattle.flags.specs.declared.comparison.Setting.{Setting}

pub code_of_lem : (f : List ℕ) (at n : ℕ) (r s : Answer Code) → r ≡ code_enum (code_of (part f at n)) → s ≡ code_enum (code_of (part f at n)) → r ≡ s
code_of_lem f at n r s p q = p ∙ sym q

pub shown_is : (by : Setter) (code : Answer Code) (r s : Answer Shown) → r ≡ shown_record (shown_of by code) → s ≡ shown_record (shown_of by code) → r ≡ s
shown_is by code r s p q = p ∙ sym q

module _ (f : List ℕ) (t : ℕ) (E : Edition) (section : text E ≡ t) where
  pub same_expr : (a b : ℕ) (r s : Bool)
      → ((E : Edition) → text E ≡ t → r ≡ eqe (tree_at (all_trees E f) a) (tree_at (all_trees E f) b))
      → ((E : Edition) → text E ≡ t → s ≡ eqe (tree_at (all_trees E f) a) (tree_at (all_trees E f) b)) → r ≡ s
  same_expr a b r s p q = p E section ∙ sym (q E section)

  pub setter_is : (first count : ℕ) (r s : Answer Setting)
      → ((E : Edition) → text E ≡ t → view_setting E f r ≡ setter_of (last_setter none (map (stmt_at E f (all_trees E f)) (range first count))))
      → ((E : Edition) → text E ≡ t → view_setting E f s ≡ setter_of (last_setter none (map (stmt_at E f (all_trees E f)) (range first count))))
      → view_setting E f r ≡ view_setting E f s
  setter_is first count r s p q = p E section ∙ sym (q E section)
