-- The code's operands, comparison and condition are the definition's: what set the flags is read off the setting, the comparison off what is shown.
use mathlib.Core.Path.{◌≡◌, refl, sym, ap, ap₂, subst, ◌∙◌}
use mathlib.Core.Bool.{false}
use mathlib.Core.Option.{Option, none, some}
use mathlib.Core.List.{List, ◌++◌, map}
use Prim.Native.Nat.{ℕ, ◌+◌, ◌<◌}
use lib.ListN.{length, get_or}
use Rattle.std.specs.Prelude.{Option as Answer, Some, None}
use Rattle.ssa.specs.View.{view_option}
use mir.Syntax.{w8}
use mir.Val.{Fits as Bounded}
use Rattle.words.proofs.Laws.{word_small}
use Rattle.definition.specs.Edition.{Edition, statements}
use Rattle.definition.specs.Lists.{range, at}
use Rattle.definition.specs.Texts.{txt}
use Rattle.definition.specs.Words.{part}
use Rattle.definition.specs.Contents.{size, offset, text, text_at}
use Rattle.definition.specs.Owners.{stmt_field}
use Rattle.definition.specs.Values.{Value, value}
use Rattle.definition.specs.Read.{all_trees, stmt_at}
use Rattle.definition.specs.Tokens.{Token, keyword}
use Rattle.definition.specs.Condition as D
use Rattle.definition.specs.Condition.{code_of, shown_tokens, last_setter, setter_of, comparison, condition_of, condition}
use Rattle.places.specs.declared.Places.{Places}
use Rattle.places.specs.Keys.{key_of, stmt_key, value_of, keyed}
use Rattle.values.proofs.Tables.{key_not_0, decode}
use Rattle.values.proofs.Placed.{at_stmt}
use Rattle.sums.specs.Ground.{Ground}
use Rattle.sums.proofs.Naming.{stmt_inside}
use Rattle.flags.specs.Views.{code_enum, view_code, view_setter, side_of, sign_of, printed, shown_record, shown_by, shown_of, setting, view_setting}
use Rattle.flags.specs.declared.codes.Code.{Code}
use Rattle.flags.specs.declared.comparison.Operands.{Operands}
use Rattle.flags.specs.declared.comparison.Setter.TheVariants.{Result as ByResult}
use Rattle.flags.specs.declared.comparison.Setting.{Setting}
use Rattle.flags.specs.declared.comparison.Setting.TheVariants.{Operands as SetBy, Result}
use Rattle.flags.specs.declared.comparison.Shown.{Shown}
use Rattle.flags.proofs.Printing.{code_view}
use Rattle.room.specs.Room.{Room, emit, emit_all, seen}
use Rattle.room.proofs.Laws.{one}
use Rattle.render.specs.Gens.{gen_at, rendered, used}
use Rattle.render.specs.Told.{NamedAt}
use Rattle.conditions.specs.declared.operands.Operand.{Operand}
use Rattle.conditions.specs.declared.operands.Operand.TheVariants.{Node, Assigned}
use Rattle.conditions.specs.declared.operands.Pair.{Pair}
use Rattle.conditions.specs.Assigns.{Assigns, Alike}
use Rattle.conditions.specs.Pairs.{operand_expr, view_pair, view_found, Fit, Fits, FitsFound, Set, assigned_tokens, operand_tokens, found_tokens}
use Rattle.conditions.specs.Printed.{view_side, view_sign, view_shown}

-- ---- what was found, by the setting s
module _ (f : List ℕ) (t first count : ℕ) (s : Answer Setting)
    (says : (E : Edition) → text E ≡ t → view_setting E f s ≡ setter_of (last_setter none (map (stmt_at E f (all_trees E f)) (range first count)))) where
  pub found_nothing : (r : Answer Pair) → r ≡ None → s ≡ None → Set f t first count r
  unfolding view_found view_setting FitsFound
  found_nothing r n h = rw n (record { says = λ E e. sym (ap (view_setting E f) h) ∙ says E e; fits = tt })

  pub found_operands : (o : Operands) → s ≡ Some (SetBy o) → Set f t first count (Some (record { by = o.by; left = Node o.left; right = Node o.right }))
  unfolding view_found view_pair operand_expr view_setting setting FitsFound Fit
  found_operands o h = record { says = λ E e. sym (ap (view_setting E f) h) ∙ says E e; fits = record { left = tt; right = tt } }

  pub found_result : (i k : ℕ) → s ≡ Some (Result i) → Alike f i k → Set f t first count (Some (record { by = ByResult; left = Assigned k; right = Assigned k }))
  unfolding view_found view_pair operand_expr view_setting view_setter setting FitsFound Fit
  found_result i k h a = record {
    says = λ E e. rw (a.register, a.version) (sym (ap (view_setting E f) h) ∙ says E e);
    fits = record { left = a.assigns; right = a.assigns };
  }

-- ---- an operand, by what it is
module _ (f : List ℕ) (x : Operand) where
  pub operand_assigns : (i : ℕ) → Fit f x → x ≡ Assigned i → Assigns f i
  unfolding Fit
  operand_assigns i h e = subst (Fit f) e h

  module _ (E : Edition) (r r₀ : Room) where
    pub operand_node : (n pos : ℕ) → x ≡ Node n → pos ≡ size f statements → seen r ≡ seen (emit_all r₀ (rendered E f pos false n)) → seen r ≡ seen (emit_all r₀ (operand_tokens E f x))
    unfolding operand_tokens operand_expr rendered
    operand_node n pos h p e = rw (h, ← p) e

    pub operand_assigned : (i : ℕ) → x ≡ Assigned i → seen r ≡ seen (emit_all r₀ (assigned_tokens E f i)) → seen r ≡ seen (emit_all r₀ (operand_tokens E f x))
    unfolding operand_tokens operand_expr assigned_tokens used
    operand_assigned i h e = rw h e

-- ---- the value that statement i assigns, by its place
module _ (f numbers : List ℕ) (P : Places) (g : Ground f numbers P) (bytes : (k : ℕ) → Bounded w8 (get_or f k 0)) (i : ℕ) (assigns : Assigns f i) where
  key : at (keyed f (length numbers)) (P.stmts + i) ≡ key_of (value (stmt_field f i 0) (stmt_field f i 1))
  unfolding stmt_key
  key = rw g.where_all (at_stmt f (length numbers) g.counts i assigns.inside ∙ rw assigns.kind)

  assigned_value : value_of (at (keyed f (length numbers)) (P.stmts + i)) ≡ value (stmt_field f i 0) (stmt_field f i 1)
  assigned_value = ap value_of key ∙ decode (stmt_field f i 0) (stmt_field f i 1) (word_small f bytes _)

  pub place_low : P.stmts + i < length numbers
  place_low = stmt_inside f numbers P g i assigns.inside

  pub assigned_named : (r : ℕ) → r ≡ stmt_field f i 0 → NamedAt f (length numbers) (P.stmts + i) r
  assigned_named r e = record {
    here = place_low;
    names = λ z. key_not_0 (value (stmt_field f i 0) (stmt_field f i 1)) (sym key ∙ z);
    register = ap (λ (v : Value). v.reg) assigned_value ∙ sym e;
  }

  pub assigned_put : (E : Edition) (r r₀ : Room) (pos : ℕ) → pos ≡ size f statements
      → seen r ≡ seen (emit_all r₀ (used E f pos false (value_of (at (keyed f (length numbers)) (P.stmts + i))))) → seen r ≡ seen (emit_all r₀ (assigned_tokens E f i))
  unfolding assigned_tokens
  assigned_put E r r₀ pos p e = e ∙ ap₂ (λ (n : ℕ) (v : Value). seen (emit_all r₀ (used E f n false v))) p assigned_value

-- ---- what is shown
side_back : (s : D.Side) → view_side (side_of s) ≡ s
unfolding view_side side_of
side_back D.Side.left = refl
side_back D.Side.right = refl
side_back D.Side.difference = refl
side_back D.Side.both = refl
side_back D.Side.nought = refl

sign_back : (s : D.Sign) → view_sign (sign_of s) ≡ s
unfolding view_sign sign_of
sign_back D.Sign.equal = refl
sign_back D.Sign.unequal = refl
sign_back D.Sign.under = refl
sign_back D.Sign.not_under = refl
sign_back D.Sign.over = refl
sign_back D.Sign.not_over = refl

shown_there : (c : Shown) (o : Option D.Shown) → Some c ≡ shown_record o → o ≡ some (view_shown c)
unfolding view_shown
shown_there c none e = Prim.cc
shown_there c (some p) e = let h : c ≡ printed p.unsigned (side_of p.lhs) (sign_of p.sign) (side_of p.rhs) = Prim.cc in rw (h, side_back p.lhs, sign_back p.sign, side_back p.rhs)

shown_not : (o : Option D.Shown) → None ≡ shown_record o → o ≡ none
shown_not none e = refl
shown_not (some p) e = Prim.cc

compared_by : (s : D.Setting) (o : Option D.Code) → shown_by s.by o ≡ comparison (some s) o
unfolding shown_by comparison
compared_by s none = refl
compared_by s (some c) = refl

module _ (E : Edition) (f : List ℕ) (p : Pair) (cc : List ℕ) (k : Answer Code) (c : Answer Shown) (code : k ≡ code_enum (code_of cc)) (says : c ≡ shown_record (shown_of p.by k)) (r r₀ : Room) where
  asked : shown_of p.by k ≡ comparison (some (view_pair E f p)) (code_of cc)
  unfolding shown_of view_pair
  asked = ap (λ (z : Answer Code). shown_by (view_setter p.by) (view_option view_code z)) code ∙ ap (shown_by (view_setter p.by)) (code_view (code_of cc)) ∙ compared_by (view_pair E f p) (code_of cc)

  abbrev tokens : Option D.Shown → List Token
  tokens o = condition_of (gen_at E f (size f statements)) cc (some (view_pair E f p)) o

  pub compared_there : (d : Shown) → c ≡ Some d → seen r ≡ seen (emit_all r₀ (shown_tokens (operand_tokens E f p.left) (operand_tokens E f p.right) (view_shown d)))
      → seen r ≡ seen (emit_all r₀ (found_tokens E f (Some p) cc))
  unfolding found_tokens view_found condition_of operand_tokens view_pair
  compared_there d h e = e ∙ ap (λ (o : Option D.Shown). seen (emit_all r₀ (tokens o))) (sym (shown_there d (shown_of p.by k) (sym h ∙ says)) ∙ asked)

  pub compared_not : c ≡ None → r ≡ emit r₀ (keyword (txt "__flags_" ++ cc)) → seen r ≡ seen (emit_all r₀ (found_tokens E f (Some p) cc))
  unfolding found_tokens view_found condition_of
  compared_not h e =
      one r r₀ (keyword (txt "__flags_" ++ cc)) e
      ∙ ap (λ (o : Option D.Shown). seen (emit_all r₀ (tokens o))) (sym (shown_not (shown_of p.by k) (sym h ∙ says)) ∙ asked)

-- ---- the condition, by what was found; o is where the text begins
module _ (f : List ℕ) (t start len o : ℕ) (x : Answer Pair) (begins : o ≡ offset f t) (E : Edition) (section : text E ≡ t) (r r₀ : Room) where
  abbrev cc : List ℕ
  cc = part f (o + start) len

  text_is : cc ≡ text_at E f start len
  unfolding text_at
  text_is = rw (begins, ← section)

  written : (y : Answer Pair) → x ≡ y → seen r ≡ seen (emit_all r₀ (found_tokens E f y cc)) → seen r ≡ seen (emit_all r₀ (found_tokens E f x (text_at E f start len)))
  written y h e = e ∙ ap₂ (λ (l : List ℕ) (z : Answer Pair). seen (emit_all r₀ (found_tokens E f z l))) text_is (sym h)

  pub by_nothing : x ≡ None → r ≡ emit r₀ (keyword (txt "__flags_" ++ cc)) → seen r ≡ seen (emit_all r₀ (found_tokens E f x (text_at E f start len)))
  unfolding found_tokens view_found condition_of
  by_nothing h e = written None h (one r r₀ (keyword (txt "__flags_" ++ cc)) e)

  pub by_pair : (p : Pair) → x ≡ Some p → seen r ≡ seen (emit_all r₀ (found_tokens E f (Some p) cc))
      → seen r ≡ seen (emit_all r₀ (found_tokens E f x (text_at E f start len)))
  by_pair p h e = written (Some p) h e

pub pair_fits : (f : List ℕ) (x : Answer Pair) (p : Pair) → FitsFound f x → x ≡ Some p → Fits f p
unfolding FitsFound
pair_fits f x p s e = subst (FitsFound f) e s

-- what the statements set the flags by makes the definition's condition
pub found_is : (f : List ℕ) (t first count : ℕ) (x : Answer Pair) → Set f t first count x → (E : Edition) → text E ≡ t → (cc : List ℕ)
    → found_tokens E f x cc ≡ condition (gen_at E f (size f statements)) (map (stmt_at E f (all_trees E f)) (range first count)) cc
unfolding found_tokens condition
found_is f t first count x s E e cc = ap (λ (o : Option D.Setting). condition_of (gen_at E f (size f statements)) cc o (comparison o (code_of cc))) (s.says E e)
