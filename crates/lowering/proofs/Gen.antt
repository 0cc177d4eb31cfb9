-- Lowering renders as rendering does behind the last statement, where every value written in place is open; a value's variable is what its name's
-- code says; and opening values changes nothing else.
use mathlib.Core.Path.{◌≡◌, refl, ap, ap₂, ◌∙◌}
use mathlib.Core.Bool.{true}
use mathlib.Core.Option.{Option}
use mathlib.Core.List.{List}
use Prim.Native.Nat.{ℕ}
use lib.Dec.{eqb}
use Rattle.definition.specs.Edition.{Edition, statements}
use Rattle.definition.specs.Words.{word}
use Rattle.definition.specs.Contents.{size}
use Rattle.definition.specs.Shape.{owned}
use Rattle.definition.specs.Values.{Value}
use Rattle.definition.specs.Meaning.{bits as bits_of}
use Rattle.definition.specs.Read.{tree_at, all_trees, read}
use Rattle.definition.specs.Offsets.{offsets as offsets_of}
use Rattle.definition.specs.Classes.{classes as classes_of}
use Rattle.definition.specs.Inline.{InPlace, reads_of, inline}
use Rattle.definition.specs.Names.{Named, naming, name_in}
use Rattle.definition.specs.Registers.{reg_name}
use Rattle.definition.specs.Lookup.{name_or, order}
use Rattle.definition.specs.Render.{Gen, variable, expr, e, open_next}
use Rattle.definition.specs.Blocks.{lowering}
use Rattle.classes.proofs.Theorems.{root_register}
use Rattle.names.specs.Codes.{name_text, name_code}
use Rattle.names.proofs.Texts.{names_are}
use Rattle.render.specs.Gens.{gen_at, rendered}
use Rattle.render.proofs.Opening.{kept, gen_all}
use Rattle.lowering.specs.Lowered.{lowering_of, expr_of}

module _ (E : Edition) (f : List ℕ) where
  abbrev placings : List InPlace
  placings = inline (read E f) (reads_of (read E f))

  -- behind the last statement
  pub lowering_gen : owned f ≡ true → gen_at E f (size f statements) ≡ (lowering_of E f).gen
  unfolding lowering_of
  lowering_gen own = gen_all E f own

  pub rendered_is : owned f ≡ true → (pos n : ℕ) → pos ≡ size f statements → rendered E f pos true n ≡ expr_of E f n
  unfolding rendered expr_of e
  rendered_is own pos n p = ap (λ (G : Gen). expr G true (tree_at (all_trees E f) n)) (ap (gen_at E f) p ∙ lowering_gen own)

  -- ---- what lowering knows
  pub gen_bits : (lowering_of E f).gen.bits ≡ bits_of f
  unfolding lowering_of lowering read open_next
  gen_bits = kept (λ (G : Gen). G.bits) (λ G p. refl) _ _

  pub gen_supplied : (lowering_of E f).gen.supplied ≡ (read E f).names
  unfolding lowering_of lowering open_next
  gen_supplied = kept (λ (G : Gen). G.supplied) (λ G p. refl) _ _

  pub gen_offsets : (lowering_of E f).gen.offsets ≡ offsets_of (read E f)
  unfolding lowering_of lowering open_next
  gen_offsets = kept (λ (G : Gen). G.offsets) (λ G p. refl) _ _

  gen_names : (lowering_of E f).gen.names ≡ naming (read E f) (classes_of (read E f)) placings
  unfolding lowering_of lowering open_next
  gen_names = kept (λ (G : Gen). G.names) (λ G p. refl) _ _

  read_bits : (read E f).bits ≡ bits_of f
  unfolding read
  read_bits = refl

  pub lowering_returns : (lowering_of E f).returns ≡ eqb (word f 8) 1
  unfolding lowering_of lowering read
  lowering_returns = refl

  pub lowering_args : (lowering_of E f).args ≡ (read E f).args
  unfolding lowering_of lowering
  lowering_args = refl

  pub lowering_starts : (lowering_of E f).starts ≡ order (read E f)
  unfolding lowering_of lowering
  lowering_starts = refl

  -- ---- a value's name, and its variable, are what its code says
  pub name_coded : (v : Value) → name_in (lowering_of E f).gen.names v ≡ name_text (bits_of f) v.reg (name_code (read E f) (classes_of (read E f)) placings v)
  name_coded v =
      ap (λ (ns : List Named). name_in ns v) gen_names ∙ names_are (read E f) (classes_of (read E f)) placings (root_register (read E f)) v
      ∙ ap (λ (b : ℕ). name_text b v.reg (name_code (read E f) (classes_of (read E f)) placings v)) read_bits

  pub variable_coded : (v : Value)
      → variable (lowering_of E f).gen v ≡ name_or (reg_name (bits_of f) v.reg) (name_text (bits_of f) v.reg (name_code (read E f) (classes_of (read E f)) placings v))
  unfolding variable
  variable_coded v = ap₂ (λ (b : ℕ) (o : Option (List ℕ)). name_or (reg_name b v.reg) o) gen_bits (name_coded v)
