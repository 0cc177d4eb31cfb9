-- The kind of a statement and the tag of an expression by the definition's numbers.
use Rattle.std.specs.Prelude.{cond, ℕ, eqb, Option, Some, None}
use Rattle.definition.specs.Codes.{k_assign, k_store, k_call, k_branch, k_flags, k_return, k_other, t_const, t_use, t_bin, t_un, t_load, t_opaque}
use Rattle.records.specs.declared.kinds.Kind.{Kind}
use Rattle.records.specs.declared.kinds.Kind.TheVariants.{Assign, Store, Call, Branch, Flags, Return, Other}
use Rattle.records.specs.declared.kinds.Tag.{Tag}
use Rattle.records.specs.declared.kinds.Tag.TheVariants.{Const, Use, Bin, Un, Load, Opaque}

unfoldable pub kind_of : ℕ → Option Kind
kind_of k =
    cond (eqb k k_assign) (Some Assign) (cond (eqb k k_store) (Some Store) (cond (eqb k k_call) (Some Call) (cond (eqb k k_branch) (Some Branch)
    (cond (eqb k k_flags) (Some Flags) (cond (eqb k k_return) (Some Return) (cond (eqb k k_other) (Some Other) None))))))

unfoldable pub tag_of : ℕ → Option Tag
tag_of t =
    cond (eqb t t_const) (Some Const) (cond (eqb t t_use) (Some Use) (cond (eqb t t_bin) (Some Bin) (cond (eqb t t_un) (Some Un)
    (cond (eqb t t_load) (Some Load) (cond (eqb t t_opaque) (Some Opaque) None)))))
