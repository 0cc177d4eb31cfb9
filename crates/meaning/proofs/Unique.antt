-- Each public contract of this crate says the answer exactly, by an equation.
use mathlib.Core.Path.{◌≡◌, sym, ◌∙◌}
use mathlib.Core.Bool.{Bool, not}
use mathlib.Core.List.{List}
use Prim.Native.Nat.{ℕ}
use lib.ListN.{replicate}
use Rattle.definition.specs.Lists.{among, distinct}
use Rattle.definition.specs.Values.{RSP}
use Rattle.definition.specs.Meaning.{bits, arg_regs, starts, rising, registers, refused6}
use Rattle.records.specs.declared.edition.Edition.{Edition}
use Rattle.records.specs.Editions.{edition_of}

pub bits_of : (f : List ℕ) (r s : ℕ) → r ≡ bits f → s ≡ bits f → r ≡ s
bits_of f r s p q = p ∙ sym q

module _ (f : List ℕ) (r s : Bool) where
  pub registers_named : r ≡ registers f → s ≡ registers f → r ≡ s
  registers_named p q = p ∙ sym q

  pub args_distinct : r ≡ distinct (arg_regs f) → s ≡ distinct (arg_regs f) → r ≡ s
  args_distinct p q = p ∙ sym q

  pub starts_distinct : r ≡ distinct (starts f) → s ≡ distinct (starts f) → r ≡ s
  starts_distinct p q = p ∙ sym q

  pub args_spare_rsp : r ≡ not (among RSP (arg_regs f)) → s ≡ not (among RSP (arg_regs f)) → r ≡ s
  args_spare_rsp p q = p ∙ sym q

  pub names_rise : r ≡ rising f → s ≡ rising f → r ≡ s
  names_rise p q = p ∙ sym q

-- with the scratch at exit, u or v
pub check_6 : (n : ℕ) (f u v : List ℕ) (r s : Bool) (e : Edition) → (r ≡ refused6 (edition_of e) f) × (u ≡ replicate n 0) → (s ≡ refused6 (edition_of e) f) × (v ≡ replicate n 0) → (r ≡ s) × (u ≡ v)
check_6 n f u v r s e p q = (p.0 ∙ sym q.0, p.1 ∙ sym q.1)
