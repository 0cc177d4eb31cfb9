-- What the tests on a line's sort say: which sort has a name, and what the passes read off a line whose sort is known.
use mathlib.Core.Path.{◌≡◌, ap, ◌∙◌}
use mathlib.Core.Bool.{true, false≢true}
use mathlib.Core.Option.{Option, none, some}
use mathlib.Core.List.{List}
use Prim.Native.Nat.{ℕ}
use Rattle.definition.specs.Tokens.{Line}
use Rattle.definition.specs.Sorts.{Sort, sort}
use Rattle.definition.specs.Sorts.Sort.{label, cond_to, jump_to, plain, if_open, close, do_open, while_close}
use Rattle.definition.specs.Passes.{label_name, cond_name, aim_name, is, aims}
use Rattle.definition.proofs.Bools.{none_some}
use Rattle.definition.proofs.TextLaws.{same_eq, same_refl}

pub is_some : (t : List ℕ) (o : Option (List ℕ)) → is t o ≡ true → o ≡ some t
unfolding is
is_some t none e = absurd (false≢true e)
is_some t (some u) e = ap some (same_eq u t e)

pub label_sort : (s : Sort) (t : List ℕ) → label_name s ≡ some t → s ≡ label t
unfolding label_name
label_sort (label u) t e = cc
label_sort (cond_to u) t e = none_some e
label_sort (jump_to u) t e = none_some e
label_sort plain t e = none_some e
label_sort if_open t e = none_some e
label_sort close t e = none_some e
label_sort do_open t e = none_some e
label_sort while_close t e = none_some e

pub cond_sort : (s : Sort) (t : List ℕ) → cond_name s ≡ some t → s ≡ cond_to t
unfolding cond_name
cond_sort (label u) t e = none_some e
cond_sort (cond_to u) t e = cc
cond_sort (jump_to u) t e = none_some e
cond_sort plain t e = none_some e
cond_sort if_open t e = none_some e
cond_sort close t e = none_some e
cond_sort do_open t e = none_some e
cond_sort while_close t e = none_some e

-- a conditional jump to t is a goto to t
pub cond_aims : (x : Line) (t : List ℕ) → sort x ≡ cond_to t → aims t x ≡ true
unfolding aims aim_name is
cond_aims x t e = ap (λ (s : Sort). is t (aim_name s)) e ∙ same_refl t
