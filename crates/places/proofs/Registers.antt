-- Where every register that the file names is one of the sixteen: each that a key is made of, by its place.
use mathlib.Core.Path.{◌≡◌, sym, ◌∙◌}
use mathlib.Core.Bool.{true, ◌&&◌}
use mathlib.Core.List.{List, map}
use Prim.Native.Nat.{ℕ, ◌+◌, ◌<◌}
use native.Mathlib.Omega.{arith}
use borrow.Author.Tests.{eq-eqb, leb-true}
use Rattle.definition.specs.Edition.{args, phis, statements, expressions}
use Rattle.definition.specs.Lists.{all, gather, range, all_below}
use Rattle.definition.specs.Contents.{size, arg_at, phi_word, item_word, expr_word}
use Rattle.definition.specs.Owners.{stmt_kind, stmt_field, expr_items, value_items, first_item}
use Rattle.definition.specs.Values.{value}
use Rattle.definition.specs.Meaning.{is_register, arg_regs, phi_value, assigned, call_returns, item_values, strict, loose, use_register, registers, value_at}
use Rattle.definition.proofs.LoweredRead.{below_at}
use Rattle.definition.proofs.Bools.{both_true}
use Rattle.each.specs.Rules.{named}
use Rattle.defined.proofs.Ranges.{all_append, all_one, all_map}
use Rattle.meaning.proofs.RegistersNamed.{arg_named, phi_named, assign_named, loose_named, args_named, phis_named, assigns_named, loose_named_lem}

small : (r : ℕ) → is_register r ≡ true → r < 16
small r e = omega (arith, leb-true r 15 e)

module _ (f : List ℕ) (reg : registers f ≡ true) where
  parts : (all is_register (arg_regs f) ≡ true) × (all named (strict f) ≡ true) × (all named (loose f) ≡ true) × (all_below (size f expressions) (use_register f) ≡ true)
  unfolding registers
  parts =
      let a = all is_register (arg_regs f) in
      let b = all named (strict f) in
      let c = all named (loose f) in
      let three = both_true (a && b && c) (all_below (size f expressions) (use_register f)) reg in
      let two = both_true (a && b) c three.0 in
      let one = both_true a b two.0 in
      (one.0, one.1, two.1, three.1)

  strict_parts : (all named (map (phi_value f) (range 0 (size f phis))) ≡ true) × (all named (gather (assigned f) (range 0 (size f statements))) ≡ true)
  unfolding strict
  strict_parts =
      let ps = map (phi_value f) (range 0 (size f phis)) in
      let vs = gather (assigned f) (range 0 (size f statements)) in
      both_true (all named ps) (all named vs) (sym (all_append named ps vs) ∙ parts.1)

  loose_parts : (i : ℕ) → i < size f statements → (all named (call_returns f i) ≡ true) × (all named (item_values f i) ≡ true)
  loose_parts i h =
      both_true (all named (call_returns f i)) (all named (item_values f i))
      (sym (all_append named (call_returns f i) (item_values f i)) ∙ below_at (size f statements) (loose_named f) (sym (loose_named_lem f) ∙ parts.2) i h)

  pub arg_small : (i : ℕ) → i < size f args → arg_at f i < 16
  arg_small i h = small (arg_at f i) (below_at (size f args) (arg_named f) (sym (args_named f) ∙ parts.0) i h)

  pub phi_small : (i : ℕ) → i < size f phis → phi_word f i 0 < 16
  unfolding value_at
  phi_small i h = small (phi_word f i 0) (below_at (size f phis) (phi_named f) (sym (phis_named f) ∙ strict_parts.0) i h)

  pub assign_small : (i : ℕ) → i < size f statements → stmt_kind f i ≡ 1 → stmt_field f i 0 < 16
  unfolding assigned
  assign_small i h k =
      let e = below_at (size f statements) (assign_named f) (sym (assigns_named f) ∙ strict_parts.1) i h in
      small (stmt_field f i 0) (sym (all_one named (value (stmt_field f i 0) (stmt_field f i 1))) ∙ (rw (eq-eqb (stmt_kind f i) 1 k) at e))

  pub return_small : (i : ℕ) → i < size f statements → stmt_kind f i ≡ 3 → stmt_field f i 3 ≡ 1 → stmt_field f i 4 < 16
  unfolding call_returns
  return_small i h k w =
      let e = (loose_parts i h).0 in
      small (stmt_field f i 4)
      (sym (all_one named (value (stmt_field f i 4) (stmt_field f i 5))) ∙ (rw (eq-eqb (stmt_kind f i) 3 k, eq-eqb (stmt_field f i 3) 1 w) at e))

  pub item_small : (i j : ℕ) → i < size f statements → j < value_items f i → item_word f (first_item f i + expr_items f i + j) 0 < 16
  unfolding item_values
  item_small i j h k =
      let from = first_item f i + expr_items f i in
      small (item_word f (from + j) 0)
      (below_at (value_items f i) (λ k. is_register (item_word f (from + k) 0))
      (sym (all_map named (λ k. value (item_word f (from + k) 0) (item_word f (from + k) 1)) (value_items f i)) ∙ (loose_parts i h).1) j k)

  pub use_small : (i : ℕ) → i < size f expressions → expr_word f i 0 ≡ 2 → expr_word f i 1 < 16
  unfolding use_register
  use_small i h k =
      let e = below_at (size f expressions) (use_register f) parts.3 i h in
      small (expr_word f i 1) (rw (eq-eqb (expr_word f i 0) 2 k) at e)
