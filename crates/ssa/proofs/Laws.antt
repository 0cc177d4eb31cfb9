-- What each return of the functions comes to, over plain numbers and lists.
use mathlib.Core.Path.{◌≡◌, sym, ap, ap₂, ◌∙◌}
use mathlib.Core.Bool.{Bool}
use mathlib.Core.List.{List}
use Prim.Native.Nat.{ℕ}
use lib.Dec.{eqb}
use borrow.Author.Tests.{ne_eqb}
use Rattle.definition.specs.Contents.{phi_word, expr_word}
use Rattle.definition.specs.Owners.{phi_inputs}
use Rattle.definition.specs.Values.{Value as DValue}
use Rattle.definition.specs.Meaning.{phi_value, value_at}
use Rattle.defined.specs.declared.value.Value.{Value}
use Rattle.defined.specs.Defined.{value_of}
use Rattle.ssa.specs.Block.{phi_record}
use Rattle.ssa.specs.Node.{text_record, node_by, node_record}
use Rattle.ssa.specs.declared.block.Phi.{Phi}
use Rattle.ssa.specs.declared.node.Node.TheVariants.{Opaque}

-- ---- a phi
phi_made : (f : List ℕ) (i r n : ℕ) (d : Bool) (m : ℕ) → r ≡ phi_word f i 0 → n ≡ phi_word f i 1 → d ≡ eqb (phi_word f i 2) 1 → m ≡ phi_inputs f i
    → ◌≡◌ {A = Phi} (record { value = record { reg = r; ver = n }; dead = d; inputs = m }) (phi_record f i)
unfolding phi_record
phi_made f i r n d m p q e h = cc

pub phi_is : (f : List ℕ) (i : ℕ) (v : Value) (w m : ℕ) → value_of v ≡ phi_value f i → w ≡ phi_word f i 2 → m ≡ phi_inputs f i
    → ◌≡◌ {A = Phi} (record { value = v; dead = eqb w 1; inputs = m }) (phi_record f i)
unfolding value_at
phi_is f i v w m p e h =
    phi_made f i v.reg v.ver (eqb w 1) m (ap (λ (u : DValue). u.reg) p) (ap (λ (u : DValue). u.ver) p) (ap (λ (x : ℕ). eqb x 1) e) h

-- ---- a node, whose tag g was read
module _ (f : List ℕ) (n g : ℕ) where
  pub by_tag : (m : ℕ) → g ≡ expr_word f n 0 → g ≡ m → node_by f n m ≡ node_record f n
  by_tag m tag e = ap (node_by f n) (sym e ∙ tag)

  none : (g ≡ 1 → ⊥) → (g ≡ 2 → ⊥) → (g ≡ 3 → ⊥) → (g ≡ 4 → ⊥) → (g ≡ 5 → ⊥) → Opaque (text_record f n) ≡ node_by f n g
  unfolding node_by
  none a b c d e = rw (ne_eqb g 1 a, ne_eqb g 2 b, ne_eqb g 3 c, ne_eqb g 4 d, ne_eqb g 5 e)

  pub by_none : (x y : ℕ) → x ≡ expr_word f n 1 → y ≡ expr_word f n 2 → g ≡ expr_word f n 0 → (g ≡ 1 → ⊥) → (g ≡ 2 → ⊥) → (g ≡ 3 → ⊥) → (g ≡ 4 → ⊥) → (g ≡ 5 → ⊥)
      → Opaque (record { start = x; len = y }) ≡ node_record f n
  by_none x y p q tag a b c d e = ap₂ (λ (s l : ℕ). Opaque (record { start = s; len = l })) p q ∙ none a b c d e ∙ ap (node_by f n) tag
