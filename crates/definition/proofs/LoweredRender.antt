-- The tokens of expressions and conditions: none is the keyword `goto`, since keywords are written by fixed texts, and a Symbol is a global's name.
use mathlib.Core.Path.{◌≡◌, refl, sym, ◌∙◌}
use mathlib.Core.Bool.{Bool, true, false, ◌||◌, true≢false, false≢true}
use mathlib.Core.Option.{Option, none, some}
use mathlib.Core.List.{List, [], ◌∷◌, ◌++◌}
use Prim.Native.Nat.{ℕ, ◌*◌}
use lib.Dec.{eqb}
use Rattle.definition.specs.Texts.{txt, same}
use Rattle.definition.specs.Values.{Value, eqv}
use Rattle.definition.specs.Ssa.{Expr, Stmt}
use Rattle.definition.specs.Ssa.Expr.{Const, Use, Bin, Un, Load, Opaque}
use Rattle.definition.specs.Offsets.{look, stack_off}
use Rattle.definition.specs.Inline.{InPlace}
use Rattle.definition.specs.Numbers.{decimal}
use Rattle.definition.specs.Lookup.{global_name}
use Rattle.definition.specs.Tokens.{Token, tok, keyword, symbol}
use Rattle.definition.specs.Render.{Opened, Gen, opened_at, variable, use_or, address_or, nested, pointer, through, slot_or, global_of, global_or, operator, expr, open_next, open_all}
use Rattle.definition.specs.Condition.{Side, Shown, Setting, side_tokens, unsigned_tokens, shown_tokens, setter_of, last_setter, comparison, code_of, condition_of, condition}
use Rattle.definition.specs.Condition.Side.{left, right, difference, both, nought}
use Rattle.definition.specs.Sorts.{is_tok, first_symbol}
use Rattle.definition.proofs.Bools.{by_cond, none_some, both_false, cond_some}
use Rattle.definition.proofs.ListLaws.{Each, end, ◌▸◌, each_append}
use Rattle.definition.proofs.Merge.{NotGoto, no_keyword}

-- a token of an expression: it is not `goto`, and if it is a Symbol, its name has P
pub record Rendered (P : List ℕ → Type 0) (t : Token) : Type 0 where
  pub no_goto : NotGoto t
  pub name : eqb t.kind 4 ≡ true → P t.text

-- what P has to hold of: the names of globals, and the Symbols of the values written in place
pub record Sound (P : List ℕ → Type 0) (G : Gen) : Type 0 where
  pub globals : (c n : ℕ) (t : List ℕ) → global_name G.supplied c n ≡ some t → P t
  pub opened : Each (λ o. Each (Rendered P) o.top × Each (Rendered P) o.inner) G.opened

module _ {P : List ℕ → Type 0} where
  -- neither keyword nor Symbol; a keyword; a Symbol
  pub mute : {k : ℕ} {w : List ℕ} → (eqb k 3 || eqb k 4) ≡ false → Rendered P (tok k w)
  mute e = let q = both_false _ _ e in record { no_goto = no_keyword _ q.0; name = λ s. absurd (true≢false (sym s ∙ q.1)) }

  pub word : (w : List ℕ) → same w (txt "goto") ≡ false → Rendered P (keyword w)
  unfolding is_tok
  word w e = record { no_goto = e; name = λ s. absurd (false≢true s) }

  pub called : {n : List ℕ} → P n → Rendered P (symbol n)
  unfolding is_tok
  called p = record { no_goto = refl; name = λ s. p }

  -- the first Symbol has P
  pub first_name : {ts : List Token} → Each (Rendered P) ts → (t : List ℕ) → first_symbol ts ≡ some t → P t
  unfolding first_symbol
  first_name end t e = none_some e
  first_name (◌▸◌ {x = x} {xs = xs} r h) t e = cond_some P (eqb x.kind 4) r.name (first_name h t) e

  -- ---- expressions
  address_or_lem : (s : ℕ) {ts : List Token} → Each (Rendered P) ts → Each (Rendered P) (address_or s ts)
  unfolding address_or
  address_or_lem s {ts} h = by_cond (Each (Rendered P)) (eqb s 0) (λ e. h) (λ e. mute refl ▸ mute refl ▸ end)

  nested_rendered : (top : Bool) {ts : List Token} → Each (Rendered P) ts → Each (Rendered P) (nested top ts)
  unfolding nested
  nested_rendered true h = h
  nested_rendered false h = mute refl ▸ each_append h (mute refl ▸ end)

  through_rendered : (n : ℕ) {ts : List Token} → Each (Rendered P) ts → Each (Rendered P) (through n ts)
  unfolding through pointer same
  through_rendered n h = word (txt "*(uint" ++ decimal (n * 8) ++ txt "_t *)") refl ▸ mute refl ▸ each_append h (mute refl ▸ end)

  slot_or_lem : (s : ℕ) {ts : List Token} → Each (Rendered P) ts → Each (Rendered P) (slot_or s ts)
  unfolding slot_or
  slot_or_lem s {ts} h = by_cond (Each (Rendered P)) (eqb s 0) (λ e. h) (λ e. mute refl ▸ end)

  global_or_lem : {ts : List Token} (o : Option (List ℕ)) → Each (Rendered P) ts → ((n : List ℕ) → o ≡ some n → P n) → Each (Rendered P) (global_or ts o)
  unfolding global_or
  global_or_lem none h k = h
  global_or_lem (some n) h k = called (k n refl) ▸ end

  opened_at_lem : {os : List Opened} → Each (λ o. Each (Rendered P) o.top × Each (Rendered P) o.inner) os
      → (top : Bool) (v : Value) (n : List ℕ) → Each (Rendered P) (use_or n (opened_at os top v))
  unfolding opened_at use_or
  opened_at_lem end top v n = mute refl ▸ end
  opened_at_lem (◌▸◌ {x = o} {xs = os} h hs) top v n =
      by_cond (λ (z : Option (List Token)). Each (Rendered P) (use_or n z)) (eqv o.of v)
      (λ e. by_cond (Each (Rendered P)) top (λ e. h.0) (λ e. h.1)) (λ e. opened_at_lem hs top v n)

  module _ (G : Gen) (sound : Sound P G) where
    global_name_lem : (n : ℕ) (x : Expr) (t : List ℕ) → global_of G.supplied n x ≡ some t → P t
    unfolding global_of
    global_name_lem n (Const c) t e = sound.globals c n t e
    global_name_lem n (Use v) t e = none_some e
    global_name_lem n (Bin o a b) t e = none_some e
    global_name_lem n (Un o a) t e = none_some e
    global_name_lem n (Load m a) t e = none_some e
    global_name_lem n (Opaque s) t e = none_some e

    pub expr_rendered : (top : Bool) (x : Expr) → Each (Rendered P) (expr G top x)
    unfolding expr operator
    expr_rendered top (Const c) = mute refl ▸ end
    expr_rendered top (Use v) = address_or_lem (look G.offsets v) (opened_at_lem sound.opened top v (variable G v))
    expr_rendered top (Bin o a b) =
        address_or_lem (stack_off G.offsets (Bin o a b)) (nested_rendered top (each_append (expr_rendered false a) (mute refl ▸ expr_rendered false b)))
    expr_rendered top (Un o a) = mute refl ▸ expr_rendered false a
    expr_rendered top (Load n a) =
        global_or_lem (global_of G.supplied n a) (slot_or_lem (stack_off G.offsets a) (through_rendered n (expr_rendered true a))) (global_name_lem n a)
    expr_rendered top (Opaque t) = mute refl ▸ end

    -- a value written in place is an expression
    open_next_lem : (p : InPlace) → Sound P (open_next G p)
    unfolding open_next
    open_next_lem p = record {
      globals = sound.globals;
      opened = each_append sound.opened ((expr_rendered true p.expr, expr_rendered false p.expr) ▸ end);
    }

  pub open_all_lem : (G : Gen) (ps : List InPlace) → Sound P G → Sound P (open_all G ps)
  unfolding open_all
  open_all_lem G [] h = h
  open_all_lem G (p ∷ ps) h = open_all_lem (open_next G p) ps (open_next_lem G h p)

  -- ---- conditions
  side_rendered : {x y : List Token} → Each (Rendered P) x → Each (Rendered P) y → (s : Side) → Each (Rendered P) (side_tokens x y s)
  unfolding side_tokens
  side_rendered h k left = h
  side_rendered h k right = k
  side_rendered h k difference = mute refl ▸ each_append h (mute refl ▸ each_append k (mute refl ▸ end))
  side_rendered h k both = mute refl ▸ each_append h (mute refl ▸ each_append k (mute refl ▸ end))
  side_rendered h k nought = mute refl ▸ end

  unsigned_rendered : (u : Bool) → Each (Rendered P) (unsigned_tokens u)
  unfolding unsigned_tokens same
  unsigned_rendered true = word (txt "(unsigned)") refl ▸ end
  unsigned_rendered false = end

  shown_rendered : {x y : List Token} → Each (Rendered P) x → Each (Rendered P) y → (p : Shown) → Each (Rendered P) (shown_tokens x y p)
  unfolding shown_tokens
  shown_rendered h k p =
      each_append (each_append (unsigned_rendered p.unsigned) (side_rendered h k p.lhs)) (mute refl ▸ side_rendered h k p.rhs)

  module _ (G : Gen) (sound : Sound P G) where
    condition_of_lem : (cc : List ℕ) (t : Option Setting) (p : Option Shown) → Each (Rendered P) (condition_of G cc t p)
    unfolding condition_of same
    condition_of_lem cc none p = word (txt "__flags_" ++ cc) refl ▸ end
    condition_of_lem cc (some t) none = word (txt "__flags_" ++ cc) refl ▸ end
    condition_of_lem cc (some t) (some p) = shown_rendered (expr_rendered G sound false t.first) (expr_rendered G sound false t.second) p

    pub condition_rendered : (ss : List Stmt) (cc : List ℕ) → Each (Rendered P) (condition G ss cc)
    unfolding condition
    condition_rendered ss cc =
        let t = setter_of (last_setter none ss) in
        condition_of_lem cc t (comparison t (code_of cc))
