-- Two expressions that `==` calls equal are equal, by induction over the two, and so are values.
use mathlib.Core.Path.{◌≡◌, refl, ap, ap₂}
use mathlib.Core.Bool.{true, ◌&&◌, false≢true}
use borrow.Author.Tests.{eq-eqb, eqb-true}
use lib.Dec.{eqb}
use Rattle.definition.specs.Texts.{same}
use Rattle.definition.specs.Values.{Value, eqv}
use Rattle.definition.specs.Ssa.{Expr, eqe}
use Rattle.definition.specs.Ssa.Expr.{Const, Use, Bin, Un, Load, Opaque}
use Rattle.definition.proofs.Bools.{both_true}
use Rattle.definition.proofs.TextLaws.{same_eq}

pub eqv_refl : (v : Value) → eqv v v ≡ true
unfolding eqv
eqv_refl v = rw (eq-eqb v.reg v.reg refl, eq-eqb v.ver v.ver refl)

pub eqv_true : (v u : Value) → eqv v u ≡ true → v ≡ u
unfolding eqv
eqv_true v u h =
    let q = both_true (eqb v.reg u.reg) (eqb v.ver u.ver) h in
    let r = eqb-true v.reg u.reg q.0 in
    let n = eqb-true v.ver u.ver q.1 in
    λ i. record { reg = r i; ver = n i }

pub eqe_true : (x y : Expr) → eqe x y ≡ true → x ≡ y
unfolding eqe
eqe_true (Const c) (Const d) h = ap Const (eqb-true c d h)
eqe_true (Const c) (Use u) h = absurd (false≢true h)
eqe_true (Const c) (Bin q z w) h = absurd (false≢true h)
eqe_true (Const c) (Un q z) h = absurd (false≢true h)
eqe_true (Const c) (Load n z) h = absurd (false≢true h)
eqe_true (Const c) (Opaque t) h = absurd (false≢true h)
eqe_true (Use v) (Const d) h = absurd (false≢true h)
eqe_true (Use v) (Use u) h = ap Use (eqv_true v u h)
eqe_true (Use v) (Bin q z w) h = absurd (false≢true h)
eqe_true (Use v) (Un q z) h = absurd (false≢true h)
eqe_true (Use v) (Load n z) h = absurd (false≢true h)
eqe_true (Use v) (Opaque t) h = absurd (false≢true h)
eqe_true (Bin o x y) (Const d) h = absurd (false≢true h)
eqe_true (Bin o x y) (Use u) h = absurd (false≢true h)
eqe_true (Bin o x y) (Bin q z w) h =
    let ends = both_true (same o q && eqe x z) (eqe y w) h in
    let h₂ = both_true (same o q) (eqe x z) ends.0 in
    let p = same_eq o q h₂.0 in
    let l = eqe_true x z h₂.1 in
    let r = eqe_true y w ends.1 in
    λ i. Bin (p i) (l i) (r i)
eqe_true (Bin o x y) (Un q z) h = absurd (false≢true h)
eqe_true (Bin o x y) (Load n z) h = absurd (false≢true h)
eqe_true (Bin o x y) (Opaque t) h = absurd (false≢true h)
eqe_true (Un o x) (Const d) h = absurd (false≢true h)
eqe_true (Un o x) (Use u) h = absurd (false≢true h)
eqe_true (Un o x) (Bin q z w) h = absurd (false≢true h)
eqe_true (Un o x) (Un q z) h =
    let h₂ = both_true (same o q) (eqe x z) h in
    ap₂ Un (same_eq o q h₂.0) (eqe_true x z h₂.1)
eqe_true (Un o x) (Load n z) h = absurd (false≢true h)
eqe_true (Un o x) (Opaque t) h = absurd (false≢true h)
eqe_true (Load m x) (Const d) h = absurd (false≢true h)
eqe_true (Load m x) (Use u) h = absurd (false≢true h)
eqe_true (Load m x) (Bin q z w) h = absurd (false≢true h)
eqe_true (Load m x) (Un q z) h = absurd (false≢true h)
eqe_true (Load m x) (Load n z) h =
    let q = both_true (eqb m n) (eqe x z) h in
    ap₂ Load (eqb-true m n q.0) (eqe_true x z q.1)
eqe_true (Load m x) (Opaque t) h = absurd (false≢true h)
eqe_true (Opaque s) (Const d) h = absurd (false≢true h)
eqe_true (Opaque s) (Use u) h = absurd (false≢true h)
eqe_true (Opaque s) (Bin q z w) h = absurd (false≢true h)
eqe_true (Opaque s) (Un q z) h = absurd (false≢true h)
eqe_true (Opaque s) (Load n z) h = absurd (false≢true h)
eqe_true (Opaque s) (Opaque t) h = ap Opaque (same_eq s t h)
