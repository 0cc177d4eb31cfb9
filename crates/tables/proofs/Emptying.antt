-- Zeros of one length are zeros of every equal length. Tables emptied one by one are the record of empty tables; emptied again they are the same.
use mathlib.Core.Path.{◌≡◌, refl, sym, ap, ◌∙◌}
use mathlib.Core.Bool.{cond}
use mathlib.Core.List.{List}
use Prim.Native.Nat.{ℕ}
use lib.Dec.{eqb}
use lib.ListN.{length, replicate, length-replicate}
use Rattle.definition.proofs.ListLaws.{zeros_long}
use Rattle.tables.specs.Tables.{Tables, zeros, cleared, long}
use Rattle.tables.specs.Filled.{given}

-- ---- one list
-- zeros of some length are zeros of any equal one
pub zeros_of : (l : List ℕ) (n m : ℕ) → m ≡ n → l ≡ replicate n 0 → l ≡ replicate m 0
zeros_of l n m p e = e ∙ ap (λ (k : ℕ). replicate k 0) (sym p)

-- a table emptied twice: l before, k behind its first writer, m at the end
pub again : (l k m : List ℕ) (n : ℕ) → l ≡ replicate n 0 → length k ≡ length l → m ≡ replicate (length k) 0 → m ≡ replicate n 0
again l k m n e p q = zeros_of m (length k) n (sym (p ∙ zeros_long l n e)) q

-- ---- all tables
-- tables are equal where all of them are
pub same_tables : (U W : Tables)
    → U.keys ≡ W.keys → U.numbers ≡ W.numbers → U.spare ≡ W.spare → U.offs ≡ W.offs → U.order ≡ W.order → U.starts ≡ W.starts → U.loads ≡ W.loads → U.live ≡ W.live → U.phi ≡ W.phi → U.roots ≡ W.roots → U.places ≡ W.places → U.names ≡ W.names → U.marks ≡ W.marks → U.labels ≡ W.labels → U ≡ W
same_tables U W a b d e g h i j k l m n o p = rw (a, b, d, e, g, h, i, j, k, l, m, n, o, p) refl

-- a list emptied
abbrev Empty : List ℕ → List ℕ → Type 0
Empty l m = m ≡ replicate (length l) 0

pub all_clear : (T T' : Tables)
    → Empty T.keys T'.keys × Empty T.numbers T'.numbers × Empty T.offs T'.offs
    → Empty T.order T'.order × Empty T.starts T'.starts × Empty T.loads T'.loads × Empty T.spare T'.spare
    → Empty T.live T'.live × Empty T.phi T'.phi × Empty T.roots T'.roots × Empty T.places T'.places
    → Empty T.names T'.names × Empty T.marks T'.marks × Empty T.labels T'.labels → T' ≡ cleared T
unfolding cleared zeros
all_clear T T' a b d e =
    rw (a.0, a.1, a.2, b.0, b.1, b.2, b.3, d.0, d.1, d.2, d.3, e.0, e.1, e.2) refl

pub zeros_twice : (l : List ℕ) → zeros (zeros l) ≡ zeros l
unfolding zeros
zeros_twice l = ap (λ (n : ℕ). replicate n 0) (length-replicate (length l) 0)

pub given_twice : (r : ℕ) (l t : List ℕ) → given r (zeros l) t ≡ given r l t
unfolding given
given_twice r l t = ap (λ (z : List ℕ). cond (eqb r 0) t z) (zeros_twice l)

pub clear_twice : (T : Tables) → cleared (cleared T) ≡ cleared T
unfolding cleared
clear_twice T = simp zeros_twice refl

-- emptied tables are as long
pub long_cleared : (T : Tables) → long (cleared T) ≡ long T
unfolding cleared zeros
long_cleared T = simp length-replicate refl
