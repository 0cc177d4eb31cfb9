-- Whether a value is read at all, by the tables: as the code finds it, and as the definition says it of the value that the entries tell of.
use mathlib.Core.Path.{◌≡◌, refl, ap, ap₂, ◌∙◌}
use mathlib.Core.Bool.{Bool, true, false, not, cond, ◌||◌}
use mathlib.Core.List.{List}
use Prim.Native.Nat.{ℕ}
use native.Mathlib.Omega.{arith}
use lib.Dec.{eqb}
use borrow.Author.Tests.{ne_eqb}
use Rattle.definition.specs.Edition.{Edition}
use Rattle.definition.specs.Lists.{any, count, at}
use Rattle.definition.specs.Values.{Value, eqv, within}
use Rattle.definition.specs.Read.{read}
use Rattle.definition.specs.Inline.{reads, phi_reads, reads_of}
use Rattle.definition.specs.Lower.{is_read}
use Rattle.definition.proofs.Bools.{by_test}
use Rattle.definition.proofs.ListLaws.{any_count, any_none}
use Rattle.reads.specs.Counts.{read_by}

-- ---- what an entry that is not 0 says
some_counted : {A : Type 0} (p : A → Bool) (l : List A) → not (eqb (count p l) 0) ≡ any p l
some_counted p l =
    by_test (any p l)
    (λ h. let z : count p l ≡ 0 → ⊥ = (λ q. omega (arith, any_count p l h)) in rw (h, ne_eqb (count p l) 0 z))
    (λ h. rw (h, any_none p l h))

pub bit_not : (b : Bool) → eqb (cond b 1 0) 0 ≡ not b
bit_not true = refl
bit_not false = refl

pub bit_so : (b : Bool) → not (eqb (cond b 1 0) 0) ≡ b
bit_so true = refl
bit_so false = refl

pub read_by_lem : (E : Edition) (f live phi : List ℕ) (m : ℕ) (v : Value) → at live m ≡ count (eqv v) (reads (read E f)) → at phi m ≡ cond (within v (phi_reads (read E f))) 1 0
    → read_by live phi m ≡ is_read (reads_of (read E f)) v
unfolding read_by is_read reads_of within
read_by_lem E f live phi m v p q =
    ap₂ (λ (a b : Bool). a || b)
    (ap (λ (k : ℕ). not (eqb k 0)) p ∙ some_counted (eqv v) (reads (read E f)))
    (ap (λ (k : ℕ). not (eqb k 0)) q ∙ bit_so (within v (phi_reads (read E f))))
