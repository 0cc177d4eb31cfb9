-- Each contract of this crate determines the answer and what is left in the lent buffers, so no second result meets it. One line for each public
-- function.
use mathlib.Core.Path.{◌≡◌, sym, ap, ◌∙◌}
use mathlib.Core.Bool.{Bool}
use mathlib.Core.Option.{Option}
use mathlib.Core.List.{List, []}
use Prim.Native.Nat.{ℕ}
use Rattle.leaf.specs.Leaf.{Wrote}
use Rattle.room.specs.declared.out.Out.{Out}
use Rattle.room.specs.Room.{Sheet, stopped, is_ready}
use Rattle.room.specs.Placing.{with_token, after_token}
use Rattle.room.specs.Ending.{Ended}
use Rattle.room.specs.Blank.{fresh}

pub end_line : (l : List ℕ) (o : Out) (n : ℕ) (a : Option ℕ) (m m' : List ℕ) (r r' : Out) → Ended l o n a m r → Ended l o n a m' r' → (m ≡ m') × (r ≡ r')
end_line l o n a m m' r r' e f =
    let z = e.whole [] [] ∙ sym (f.whole [] []) in
    (ap (λ (s : Sheet). s.lines) z, ap (λ (s : Sheet). s.room.out) z)

pub ready : (ks : List ℕ) (n : ℕ) (o : Out) (k : ℕ) (r s : Bool) → r ≡ is_ready ks n o k → s ≡ is_ready ks n o k → r ≡ s
ready ks n o k r s p q = p ∙ sym q

pub token : (ks : List ℕ) (o : Out) (k : ℕ) (w : Wrote) (m m' : List ℕ) (r r' : Out) → (r ≡ after_token ks o k w) × (m ≡ with_token ks o k w)
    → (r' ≡ after_token ks o k w) × (m' ≡ with_token ks o k w) → (r ≡ r') × (m ≡ m')
token ks o k w m m' r r' e f = (e.0 ∙ sym f.0, e.1 ∙ sym f.1)

pub stop : (o r s : Out) → r ≡ stopped o → s ≡ stopped o → r ≡ s
stop o r s p q = p ∙ sym q

pub start : (r s : Out) → r ≡ fresh → s ≡ fresh → r ≡ s
start r s p q = p ∙ sym q
