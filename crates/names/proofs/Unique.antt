-- Each contract of this crate fixes the answer and the tables that are left, so no second one meets it.
use mathlib.Core.Path.{◌≡◌, sym, ◌∙◌}
use mathlib.Core.List.{List}
use Prim.Native.Nat.{ℕ}
use Rattle.definition.specs.Edition.{Edition}
use Rattle.names.specs.Spots.{Known, State, Spot, named}
use Rattle.names.specs.Given.{EntryRead, Counted, entry_table}
use lib.ListN.{length}

pub entry_reads_lem : (E : Edition) (f : List ℕ) (n : ℕ) (t u : List ℕ) → EntryRead f n t → EntryRead f n u → t ≡ u
entry_reads_lem E f n t u p q = p.says E ∙ sym (q.says E)

pub params : (E : Edition) (f ns entry : List ℕ) (r s : ℕ) → entry ≡ entry_table E f (length ns) → Counted f ns entry r → Counted f ns entry s → r ≡ s
params E f ns entry r s e p q = p.says E e ∙ sym (q.says E e)

pub name_key_lem : (K : Known) (S : State) (x : Spot) (T U : State) → T ≡ named K S x → U ≡ named K S x → T ≡ U
name_key_lem K S x T U p q = p ∙ sym q
