-- What `condition` prints after CMP and TEST means what Intel says: the tokens are those of a comparison that the flags theorem is about.
-- A TEST of two operands that `==` calls equal is a TEST of an operand and itself, since equal expressions have equal values.
use mathlib.Core.Path.{◌≡◌, refl, ap}
use mathlib.Core.Bool.{Bool, true, false}
use mathlib.Core.Option.{none, some}
use mathlib.Core.List.{List, [], ◌∷◌, map}
use Prim.Native.Nat.{ℕ, ◌<◌, ◌^◌}
use Rattle.definition.specs.Texts.{txt, same}
use Rattle.definition.specs.Ssa.{Expr, Stmt, eqe}
use Rattle.definition.specs.Ssa.Kind.{Flags}
use Rattle.definition.specs.Render.{Gen, expr}
use Rattle.definition.specs.Condition.{Code, code_of, Setter, Shown, shown, shown_tokens, Setting, setting_of, setter_of, last_setter, comparison, condition_of, condition}
use Rattle.definition.specs.Condition.Code.{e, ne, l, ge, g, le, b, ae, a, be, s, ns}
use Rattle.definition.specs.Condition.Setter.{cmp, test, self}
use Rattle.definition.specs.Intel.{after_test, after_flags, after, intel, Says}
use Rattle.definition.proofs.Bools.{by_test}
use Rattle.definition.proofs.Flags.{faithful}
use Rattle.definition.proofs.Equal.{eqe_true}

-- the twelve spellings
pub codes_read :
    map code_of (txt "e" ∷ txt "ne" ∷ txt "l" ∷ txt "ge" ∷ txt "g" ∷ txt "le" ∷ txt "b" ∷ txt "ae" ∷ txt "a" ∷ txt "be" ∷ txt "s" ∷ txt "ns" ∷ [])
    ≡ map some (e ∷ ne ∷ l ∷ ge ∷ g ∷ le ∷ b ∷ ae ∷ a ∷ be ∷ s ∷ ns ∷ [])
unfolding code_of same
codes_read = refl

-- p is what is printed for the code c behind CMP or TEST of x and y, and whatever the operands' values, it says what Intel's condition does
pub record Printed (ss : List Stmt) (code : List ℕ) (is_test : Bool) (x y : Expr) (c : Code) (p : Shown) : Type 0 where
  pub tokens : (G : Gen) → condition G ss code ≡ shown_tokens (expr G false x) (expr G false y) p
  pub says : (w : ℕ) → 0 < w → (val : Expr → ℕ) → val x < 2 ^ w → val y < 2 ^ w
      → Says w (val x) (val y) p (intel c (after_flags w is_test (val x) (val y)))

abbrev by : Setter → Expr → Expr → Setting
by t x y = record { by = t; first = x; second = y }

module _ (ss : List Stmt) (code : List ℕ) (c : Code) (p : Shown) (read : code_of code ≡ some c) where
  -- from the setter that `condition` finds, and that the flags it names are those of the instruction
  from_setter : (is_test : Bool) (x y : Expr) (t : Setter)
      → last_setter none ss ≡ some (Flags is_test x y) → setting_of (Flags is_test x y) ≡ some (by t x y)
      → ((w : ℕ) (val : Expr → ℕ) → after w t (val x) (val y) ≡ some (after_flags w is_test (val x) (val y)))
      → shown t c ≡ some p → Printed ss code is_test x y c p
  unfolding condition setter_of comparison condition_of
  from_setter is_test x y t last set flags is = record {
    tokens = λ G. rw (last, set, read, is);
    says = λ w positive val fx fy. faithful w positive (val x) (val y) fx fy t (after_flags w is_test (val x) (val y)) (flags w val) c p is;
  }

  pub printed : (is_test : Bool) (x y : Expr) (t : Setting)
      → last_setter none ss ≡ some (Flags is_test x y) → setting_of (Flags is_test x y) ≡ some t → shown t.by c ≡ some p
      → Printed ss code is_test x y c p
  unfolding setting_of after after_flags
  printed false x y t last set is =
      let q : by cmp x y ≡ t = cc in
      from_setter false x y cmp last refl (λ w val. refl) (rw (← q) at is)
  printed true x y t last set is =
      by_test (eqe x y)
      (λ h.
      let k : setting_of (Flags true x y) ≡ some (by self x y) = rw h in
      let q : by self x y ≡ t = cc in
      from_setter true x y self last k (λ w val. ap (λ (z : Expr). some (after_test w (val x) (val z))) (eqe_true x y h)) (rw (← q) at is))
      (λ h.
      let k : setting_of (Flags true x y) ≡ some (by test x y) = rw h in
      let q : by test x y ≡ t = cc in
      from_setter true x y test last k (λ w val. refl) (rw (← q) at is))
