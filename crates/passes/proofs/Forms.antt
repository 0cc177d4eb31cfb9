-- A region formed step by step is the region formed: the head turned, the body raised, the end turned or put in.
use mathlib.Core.Path.{◌≡◌, ap, ap₂, ◌∙◌}
use mathlib.Core.List.{List}
use Prim.Native.Nat.{ℕ, ◌+◌, ◌*◌}
use lib.ListN.{set}
use Rattle.definition.specs.Lists.{at}
use Rattle.outline.specs.Rows.{indent_of}
use Rattle.outline.specs.Forming.{raised, turned, changed_in, inserted}
use Rattle.passes.specs.Regions.{opened, headed, whiled, close_row, formed_if, formed_do}

pub form_if_lem : (R : List ℕ) (n k j w v x c : ℕ) (R₁ R₂ : List ℕ) → w ≡ at R k → v ≡ turned 3 w → x ≡ indent_of w → c ≡ 6 + 16 * x
    → R₁ ≡ changed_in raised (set R k v) (k + 1) j → R₂ ≡ inserted R₁ n j c → R₂ ≡ formed_if R n k j
unfolding formed_if opened close_row
form_if_lem R n k j w v x c R₁ R₂ e ev ex ec e₁ e₂ =
    e₂ ∙ ap₂ (λ (l : List ℕ) (y : ℕ). inserted l n j y)
    (e₁ ∙ ap (λ (y : ℕ). changed_in raised (set R k y) (k + 1) j) (ev ∙ ap (turned 3) e)) (ec ∙ ap (λ (y : ℕ). 6 + 16 * y) (ex ∙ ap indent_of e))

pub form_do_lem : (R : List ℕ) (k j w b u v y : ℕ) (R₁ : List ℕ) → w ≡ at R k → b ≡ at R j → u ≡ raised w → v ≡ turned 6 u
    → R₁ ≡ changed_in raised (set R k v) (k + 1) j → y ≡ turned 6 b → set R₁ j y ≡ formed_do R k j
unfolding formed_do headed whiled
form_do_lem R k j w b u v y R₁ e eb eu ev e₁ ey =
    ap₂ (λ (l : List ℕ) (z : ℕ). set l j z)
    (e₁ ∙ ap (λ (z : ℕ). changed_in raised (set R k z) (k + 1) j) (ev ∙ ap (turned 6) (eu ∙ ap raised e))) (ey ∙ ap (turned 6) eb)
