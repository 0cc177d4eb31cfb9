-- Each public contract of this crate says by an equation what comes out, so no second outcome meets it.
use mathlib.Core.Path.{◌≡◌, refl, sym, ◌∙◌}
use mathlib.Core.Bool.{Bool}
use mathlib.Core.List.{List}
use Prim.Native.Nat.{ℕ}
use Rattle.definition.specs.Edition.{Edition}
use Rattle.definition.specs.Contents.{text}
use Rattle.definition.specs.Read.{kind_at, all_trees, read}
use Rattle.definition.specs.Offsets.{Known, look}
use Rattle.definition.specs.Blocks.{is_save}
use Rattle.definition.specs.Classes.{find, classes}
use Rattle.places.specs.Keys.{key_of, keyed}
use Rattle.values.specs.Tables.{number_of, table}
use Rattle.marks.specs.Reading.{ReadRoots}

pub is_save_lem : (E : Edition) (k : List Known) (f offsets : List ℕ) (n i : ℕ) (r s : Bool) → offsets ≡ table f n (look k)
    → ((F : Edition) (j : List Known) → text F ≡ text E → offsets ≡ table f n (look j) → r ≡ is_save j (kind_at F f (all_trees F f) i))
    → ((F : Edition) (j : List Known) → text F ≡ text E → offsets ≡ table f n (look j) → s ≡ is_save j (kind_at F f (all_trees F f) i)) → r ≡ s
is_save_lem E k f offsets n i r s a p q = p E k refl a ∙ sym (q E k refl a)

pub read_roots_lem : (E : Edition) (k : List Known) (f : List ℕ) (n : ℕ) (offsets roots t u : List ℕ) → offsets ≡ table f n (look k)
    → roots ≡ table f n (λ v. number_of (keyed f n) (key_of (find (classes (read E f)) v))) → ReadRoots f (text E) n offsets roots t → ReadRoots f (text E) n offsets roots u → t ≡ u
read_roots_lem E k f n offsets roots t u a b p q = p E k refl a b ∙ sym (q E k refl a b)
