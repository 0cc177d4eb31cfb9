-- What each return of the functions that read comes to, over plain lists and numbers.
use mathlib.Core.Path.{◌≡◌, refl, sym, ap, ap₂, ◌∙◌}
use mathlib.Core.Bool.{true}
use mathlib.Core.List.{List}
use Prim.Native.Nat.{ℕ, ◌+◌, ◌*◌, ◌-◌, ◌≤◌, ◌<◌}
use native.Mathlib.Omega.{arith}
use borrow.Author.Tests.{eq-eqb, ne_eqb, lt-ltb, le-ltb}
use Rattle.definition.specs.Edition.{args, phis, inputs, statements, lists, expressions}
use Rattle.definition.specs.Contents.{size, arg_at, phi_word, input_at, item_word, expr_word}
use Rattle.definition.specs.Owners.{stmt_kind, stmt_field, expr_items, items, first_item}
use Rattle.definition.specs.Values.{value}
use Rattle.definition.specs.Meaning.{registers}
use Rattle.places.specs.declared.Places.{Places}
use Rattle.places.specs.Keys.{key_of, arg_key, phi_key, input_key, stmt_key, item_key, expr_key, places_of}
use Rattle.places.specs.Laid.{key_at, item_at}
use Rattle.places.proofs.Registers.{item_small}

-- ---- places, by the sizes that were read
pub places_are : (f : List ℕ) (a p i s l e : ℕ) → a ≡ size f args → p ≡ size f phis → i ≡ size f inputs → s ≡ size f statements → l ≡ size f lists → e ≡ size f expressions
    → ◌≡◌ {A = Places} (record { phis = a; inputs = a + p; stmts = a + p + i; items = a + p + i + s; exprs = a + p + i + s + l; total = a + p + i + s + l + e }) (places_of f)
unfolding places_of
places_are f a p i s l e ea ep ei es el ee = rw (ea, ep, ei, es, el, ee)

-- ---- keys: x is the key that was made of register r and version n
pub key_is : (r n : ℕ) → 1 + (4294967296 * r + n) ≡ key_of (value r n)
unfolding key_of
key_is r n = refl

module _ (f : List ℕ) (i r n x : ℕ) (made : x ≡ key_of (value r n)) where
  pub phi_is : r ≡ phi_word f i 0 → n ≡ phi_word f i 1 → x ≡ phi_key f i
  unfolding phi_key
  phi_is p q = made ∙ ap₂ (λ (a b : ℕ). key_of (value a b)) p q

  pub input_is : (k : ℕ) → r ≡ phi_word f i 0 → n ≡ input_at f k → x ≡ input_key f i k
  unfolding input_key
  input_is k p q = made ∙ ap₂ (λ (a b : ℕ). key_of (value a b)) p q

  pub assign_is : (k : ℕ) → k ≡ stmt_kind f i → k ≡ 1 → r ≡ stmt_field f i 0 → n ≡ stmt_field f i 1 → x ≡ stmt_key f i
  unfolding stmt_key
  assign_is k e h p q = rw (eq-eqb (stmt_kind f i) 1 (sym e ∙ h)) (made ∙ ap₂ (λ (a b : ℕ). key_of (value a b)) p q)

  pub call_is : (k w : ℕ) → k ≡ stmt_kind f i → k ≡ 3 → w ≡ stmt_field f i 3 → w ≡ 1 → r ≡ stmt_field f i 4 → n ≡ stmt_field f i 5 → x ≡ stmt_key f i
  unfolding stmt_key
  call_is k w e h d g p q =
      rw (sym e ∙ h, eq-eqb (stmt_field f i 3) 1 (sym d ∙ g)) (made ∙ ap₂ (λ (a b : ℕ). key_of (value a b)) p q)

  pub use_is : (k : ℕ) → k ≡ expr_word f i 0 → k ≡ 2 → r ≡ expr_word f i 1 → n ≡ expr_word f i 2 → x ≡ expr_key f i
  unfolding expr_key
  use_is k e h p q = rw (eq-eqb (expr_word f i 0) 2 (sym e ∙ h)) (made ∙ ap₂ (λ (a b : ℕ). key_of (value a b)) p q)

  pub item_is : (j first e : ℕ) → first ≡ first_item f i → e ≡ expr_items f i → e ≤ j → r ≡ item_word f (first + j) 0 → n ≡ item_word f (first + j) 1 → x ≡ item_at f i j
  unfolding item_at item_key
  item_is j first e a b h p q =
      rw (le-ltb j (expr_items f i) (omega arith), ← a) (made ∙ ap₂ (λ (a b : ℕ). key_of (value a b)) p q)

pub arg_is : (f : List ℕ) (i r x : ℕ) → x ≡ key_of (value r 0) → r ≡ arg_at f i → x ≡ arg_key f i
unfolding arg_key
arg_is f i r x made p = made ∙ ap (λ (a : ℕ). key_of (value a 0)) p

-- no value
module _ (f : List ℕ) (i k : ℕ) (kind : k ≡ stmt_kind f i) where
  pub stmt_none : (k ≡ 1 → ⊥) → (k ≡ 3 → ⊥) → 0 ≡ stmt_key f i
  unfolding stmt_key
  stmt_none h g = rw (← kind, ne_eqb k 1 h, ne_eqb k 3 g)

  pub call_none : (w : ℕ) → k ≡ 3 → w ≡ stmt_field f i 3 → (w ≡ 1 → ⊥) → 0 ≡ stmt_key f i
  unfolding stmt_key
  call_none w h d g = rw (sym kind ∙ h, ← d, ne_eqb w 1 g)

pub use_none : (f : List ℕ) (i k : ℕ) → k ≡ expr_word f i 0 → (k ≡ 2 → ⊥) → 0 ≡ expr_key f i
unfolding expr_key
use_none f i k e h = rw (← e, ne_eqb k 2 h)

pub item_none : (f : List ℕ) (i j e : ℕ) → e ≡ expr_items f i → j < e → 0 ≡ item_at f i j
unfolding item_at
item_none f i j e a h = rw (lt-ltb j (expr_items f i) (omega arith))

-- what is behind the expressions is a value, of a register
pub item_register : (f : List ℕ) (i j first e r : ℕ) → registers f ≡ true → (i < size f statements) × (j < items f i) → first ≡ first_item f i → e ≡ expr_items f i → e ≤ j
    → r ≡ item_word f (first + j) 0 → r < 16
unfolding items
item_register f i j first e r reg here a b h p =
    let q : first_item f i + expr_items f i + (j - expr_items f i) ≡ first + j = omega arith in
    let s = rw q at (item_small f reg i (j - expr_items f i) here.0 (omega arith)) in
    omega arith

-- ---- a section in which each record is one place
pub section_size : (f : List ℕ) (s t i : ℕ) → s ≡ t → i < size f s → i < size f t
section_size f s t i e h = rw e at h

pub of_section : (f : List ℕ) (s i x t : ℕ) → s ≡ t → x ≡ key_at f t i → x ≡ key_at f s i
of_section f s i x t e h = rw e h

pub of_none : (f : List ℕ) (s i : ℕ) → (s ≡ 0 → ⊥) → (s ≡ 2 → ⊥) → (s ≡ 4 → ⊥) → (s ≡ 6 → ⊥) → 0 ≡ key_at f s i
unfolding key_at
of_none f s i a b c d = rw (ne_eqb s 0 a, ne_eqb s 2 b, ne_eqb s 4 c, ne_eqb s 6 d)
