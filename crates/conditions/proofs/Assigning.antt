-- What arithmetic set the flags by is a value that an Assign among the block's statements defines; so a search for such a statement ends at one.
use mathlib.Core.Path.{◌≡◌, refl, sym, ap, ◌∙◌}
use mathlib.Core.Bool.{Bool, true, false, cond, ◌&&◌, true≢false}
use mathlib.Core.Option.{Option, none, some, some-injective}
use mathlib.Core.List.{List, [], ◌∷◌, map}
use Prim.Native.Nat.{ℕ, zero, suc, ◌+◌, ◌≤◌, ◌<◌}
use native.Mathlib.Omega.{arith}
use lib.Dec.{eqb}
use Rattle.std.specs.Prelude.{Option as Answer, Some, None, MatchOption}
use Rattle.std.specs.Option.{unwrap_or}
use lib.ListN.{length, replicate, length-replicate}
use borrow.Author.Tests.{eq-eqb, eqb-true}
use Rattle.definition.specs.Edition.{Edition, Section, Room, statements}
use Rattle.definition.specs.Lists.{any, range}
use Rattle.definition.specs.Contents.{size, text}
use Rattle.definition.specs.Owners.{stmt_kind, stmt_field}
use Rattle.definition.specs.Values.{Value, value}
use Rattle.definition.specs.Ssa.{Expr, Kind, eqe}
use Rattle.definition.specs.Ssa.Expr.{Const, Use, Bin, Un, Load, Opaque}
use Rattle.definition.specs.Ssa.Kind.{Flags}
use Rattle.definition.specs.Read.{all_trees, kind_at, marked, stmt_at}
use Rattle.definition.specs.Condition as D
use Rattle.definition.specs.Condition.{setting_of, last_setter, setter_of}
use Rattle.definition.proofs.Bools.{none_some, both_true, both_false, is_true, by_test, by_cond}
use Rattle.flags.specs.Views.{setting, view_setting}
use Rattle.flags.specs.declared.comparison.Setting.{Setting}
use Rattle.flags.specs.declared.comparison.Setting.TheVariants.{Result}
use Rattle.conditions.specs.Assigns.{assigns_as, Alike}

-- ---- the test
module _ (f : List ℕ) (i k : ℕ) where
  pub alike : assigns_as f i k ≡ true → k < size f statements → Alike f i k
  unfolding assigns_as
  alike h inside =
      let p = both_true (eqb (stmt_kind f k) 1) (eqb (stmt_field f k 0) (stmt_field f i 0) && eqb (stmt_field f k 1) (stmt_field f i 1)) h in
      let q = both_true (eqb (stmt_field f k 0) (stmt_field f i 0)) (eqb (stmt_field f k 1) (stmt_field f i 1)) p.1 in
      record {
        assigns = record { inside = inside; kind = eqb-true (stmt_kind f k) 1 p.0 };
        register = eqb-true (stmt_field f k 0) (stmt_field f i 0) q.0;
        version = eqb-true (stmt_field f k 1) (stmt_field f i 1) q.1;
      }

-- ---- the search
any_none : (p : ℕ → Bool) (first count : ℕ) → ((k : ℕ) → first ≤ k → k < first + count → p k ≡ false) → any p (range first count) ≡ false
unfolding any range
any_none p first zero h = refl
any_none p first (suc n) h = rw (h first (omega arith) (omega arith)) (any_none p (first + 1) n (λ k a b. h k (omega arith) (omega arith)))

-- of what a search came to, where one of those searched is sought
pub sought : (f : List ℕ) (i first count : ℕ) (r : Answer ℕ) → any (assigns_as f i) (range first count) ≡ true → first + count ≤ size f statements
    → MatchOption r ((k : ℕ) → first ≤ k → k < first + count → assigns_as f i k ≡ false)
    (λ k. (first ≤ k) × (k < first + count) × (assigns_as f i k ≡ true) × ((j : ℕ) → first ≤ j → j < k → assigns_as f i j ≡ false))
    → Alike f i (unwrap_or r first)
sought f i first count None there fits nowhere = absurd (true≢false (sym there ∙ any_none (assigns_as f i) first count nowhere))
sought f i first count (Some k) there fits one = alike f i k one.2 (omega arith)

-- ---- the value of what arithmetic set the flags by
unfoldable used_by : Expr → Option Value
used_by (Const c) = none
used_by (Use v) = some v
used_by (Bin o x y) = none
used_by (Un o x) = none
used_by (Load n x) = none
used_by (Opaque t) = none

unfoldable value_by : D.Setter → Expr → Option Value
value_by D.Setter.cmp x = none
value_by D.Setter.test x = none
value_by D.Setter.self x = none
value_by D.Setter.result x = used_by x

unfoldable result_of : Option D.Setting → Option Value
result_of none = none
result_of (some s) = value_by s.by s.first

flags_none : (b : Bool) (x y : Expr) → result_of (setting_of (Flags b x y)) ≡ none
unfolding result_of value_by setting_of
flags_none false x y = refl
flags_none true x y = by_cond (λ o. result_of o ≡ none) (eqe x y) (λ _. refl) (λ _. refl)

module _ (E : Edition) (f : List ℕ) (i : ℕ) where
  abbrev v : Value
  v = value (stmt_field f i 0) (stmt_field f i 1)

  abbrev kind : ℕ → Kind
  kind j = kind_at E f (all_trees E f) j

  by_assign : (j : ℕ) → stmt_kind f j ≡ 1 → value (stmt_field f j 0) (stmt_field f j 1) ≡ v → assigns_as f i j ≡ true
  unfolding assigns_as
  by_assign j k e =
      rw (k, eq-eqb (stmt_field f j 0) (stmt_field f i 0) (ap (λ (w : Value). w.reg) e), eq-eqb (stmt_field f j 1) (stmt_field f i 1) (ap (λ (w : Value). w.ver) e))

  kind_assigns : (j : ℕ) → result_of (setting_of (kind j)) ≡ some v → assigns_as f i j ≡ true
  unfolding kind_at setting_of result_of value_by used_by
  kind_assigns j =
      let g = stmt_kind f j in
      let C : Type 0 = assigns_as f i j ≡ true in
      let P : Kind → Type 0 = λ x. result_of (setting_of x) ≡ some v → C in
      let Q : Option D.Setting → Type 0 = λ o. result_of o ≡ some v → C in
      by_cond P (eqb g 1) (λ h. by_cond Q (eqb (stmt_field f j 0) 4) (λ _ e. none_some e) (λ _ e. by_assign j (eqb-true g 1 h) (some-injective _ _ e))) (λ _.
      by_cond P (eqb g 2) (λ _ e. none_some e) (λ _.
      by_cond P (eqb g 3) (λ _ e. none_some e) (λ _.
      by_cond P (eqb g 4) (λ _ e. none_some e) (λ _.
      by_cond P (eqb g 5) (λ _ e. none_some (sym (flags_none (eqb (stmt_field f j 0) 1) _ _) ∙ e)) (λ _.
      by_cond P (eqb g 6) (λ _ e. none_some e) (λ _ e. none_some e))))))

  -- the last setter is the one before, where none of these assigns the value
  passed : (is : List ℕ) (o : Option Kind) → any (assigns_as f i) is ≡ false
      → result_of (setter_of (last_setter o (map (stmt_at E f (all_trees E f)) is))) ≡ some v → result_of (setter_of o) ≡ some v
  unfolding any last_setter stmt_at setter_of
  passed [] o h e = e
  passed (j ∷ is) o h e =
      let b = both_false (assigns_as f i j) (any (assigns_as f i) is) h in
      let r = passed is (cond (marked f j 2) (some (kind j)) o) b.1 e in
      by_test (marked f j 2) (λ m. absurd (true≢false (sym (kind_assigns j (rw m at r)) ∙ b.0))) (λ m. rw m at r)

  one_of : (first count : ℕ) → view_setting E f (Some (Result i)) ≡ setter_of (last_setter none (map (stmt_at E f (all_trees E f)) (range first count)))
      → any (assigns_as f i) (range first count) ≡ true
  unfolding view_setting setting setter_of result_of value_by used_by
  one_of first count e =
      is_true (any (assigns_as f i) (range first count)) (λ h. none_some (passed (range first count) none h (ap result_of (sym e))))

-- ---- some edition has its text there
abbrev none_of : Section
none_of = record { words = 0; most = 0 }

abbrev no_room : Room
no_room = record { lines = 0; tokens = 0; bytes = 0 }

unfoldable with_text : ℕ → Edition
with_text t = record { number = 0; sections = replicate (suc t) none_of; most = 0; lowered = no_room; lent = no_room }

text_there : (t : ℕ) → text (with_text t) ≡ t
unfolding text with_text
text_there t = let n : length (replicate (suc t) none_of) ≡ suc t = length-replicate (suc t) none_of in omega arith

pub one_assigns : (f : List ℕ) (t i first count : ℕ) (s : Answer Setting) → s ≡ Some (Result i)
    → ((E : Edition) → text E ≡ t → view_setting E f s ≡ setter_of (last_setter none (map (stmt_at E f (all_trees E f)) (range first count))))
    → any (assigns_as f i) (range first count) ≡ true
one_assigns f t i first count s h says =
    let E = with_text t in
    one_of E f i first count (sym (ap (view_setting E f) h) ∙ says E (text_there t))
