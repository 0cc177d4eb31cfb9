-- The loop over the parameters' classes, from the last argument register down.
use mathlib.Core.Path.{◌≡◌, sym, ◌∙◌}
use mathlib.Core.List.{List}
use Prim.Native.Nat.{ℕ, zero, suc, ◌*◌, ◌-◌, ◌<◌}
use native.Mathlib.Omega.{arith}
use lib.ListN.{set}
use Rattle.definition.specs.Lists.{at}
use Rattle.naming.specs.Walk.{params_seen}

-- by numbers ns and roots rs
module _ (ns rs : List ℕ) where
  pub seen_turn : (i x r : ℕ) (s s' : List ℕ) → 0 < i → x ≡ at ns (i - 1) → r ≡ at rs x → s' ≡ set s r (2 * i) → params_seen ns rs i s ≡ params_seen ns rs (i - 1) s'
  unfolding params_seen
  seen_turn zero x r s s' h p q e = absurd (omega arith)
  seen_turn (suc i) x r s s' h p q e =
      let k : suc i - 1 ≡ i = omega arith in
      rw (e, q, p, k)

  pub seen_end : (i : ℕ) (s t : List ℕ) → i ≡ 0 → t ≡ params_seen ns rs i s → s ≡ t
  unfolding params_seen
  seen_end i s t h e = sym (e ∙ rw h)
