-- A code's enum loses nothing of the definition's code.
use mathlib.Core.Path.{◌≡◌, refl}
use mathlib.Core.Option.{Option, none, some}
use Rattle.ssa.specs.View.{view_option}
use Rattle.definition.specs.Condition as D
use Rattle.flags.specs.Views.{code_one, code_enum, view_code}

pub code_view : (o : Option D.Code) → view_option view_code (code_enum o) ≡ o
unfolding view_code code_enum code_one
code_view none = refl
code_view (some D.Code.e) = refl
code_view (some D.Code.ne) = refl
code_view (some D.Code.l) = refl
code_view (some D.Code.ge) = refl
code_view (some D.Code.g) = refl
code_view (some D.Code.le) = refl
code_view (some D.Code.b) = refl
code_view (some D.Code.ae) = refl
code_view (some D.Code.a) = refl
code_view (some D.Code.be) = refl
code_view (some D.Code.s) = refl
code_view (some D.Code.ns) = refl
