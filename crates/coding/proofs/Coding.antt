-- Rows that code lines: a row's kind tells the sort of the line that it stands for, and names are equal where the texts are.
-- So every test of the passes on a line is the test on its row.
use mathlib.Core.Path.{◌≡◌, refl, sym, ap, ap₂, subst, ◌∙◌}
use mathlib.Core.Bool.{Bool, true, false, not, cond, ◌&&◌, ◌||◌, false≢true}
use mathlib.Core.List.{List}
use Prim.Native.Nat.{ℕ, suc, ◌≤◌, ◌<◌}
use native.Mathlib.Omega.{arith}
use borrow.Author.Tests.{eqb-true}
use lib.Dec.{eqb, ltb, leb, lit<}
use Rattle.definition.specs.Texts.{same}
use Rattle.definition.specs.Lists.{has}
use Rattle.definition.specs.Tokens.{Line}
use Rattle.definition.specs.Sorts.{Sort, sort}
use Rattle.definition.specs.Sorts.Sort.{label, cond_to, jump_to, plain, if_open, close, do_open, while_close}
use Rattle.definition.specs.Passes.{label_name, aim_name, cond_name, is, closer, outer, deep, named as named_line, aims as aims_line, backs as backs_line, stops as stops_line}
use Rattle.definition.proofs.Bools.{eqb_swap, is_false, by_test}
use Rattle.definition.proofs.TextLaws.{same_eq, same_refl}
use Rattle.definition.proofs.ListLaws.{Each}
use Rattle.outline.specs.Rows.{kind_of, indent_of, name_of, origin_of, toks_of, line_at, line_of}
use Rattle.outline.specs.Tests.{is_kind, is_label, is_cond, is_goto, labels, backs, stops, too_deep}

-- a goto to the label m
unfoldable pub goes_to : ℕ → ℕ → Bool
goes_to m w = is_goto w && eqb (name_of w) m

-- m is 1 + the lowered line of the label t, and another number where no lowered line is that label
abbrev pub Aims : List Line → List ℕ → ℕ → Type 0
Aims ls t m = (i : ℕ) (u : List ℕ) → sort (line_at ls i) ≡ label u → same u t ≡ eqb (suc i) m

-- the row w is of a line of this sort
abbrev pub Codes : List Line → Sort → ℕ → Type 0
Codes ls (label u) w = (kind_of w ≡ 1) × (name_of w ≡ suc (origin_of w))
Codes ls (cond_to t) w = (kind_of w ≡ 2) × Aims ls t (name_of w)
Codes ls (jump_to t) w = (kind_of w ≡ 3) × Aims ls t (name_of w)
Codes ls plain w = kind_of w ≡ 4
Codes ls if_open w = kind_of w ≡ 5
Codes ls close w = kind_of w ≡ 6
Codes ls do_open w = kind_of w ≡ 7
Codes ls while_close w = kind_of w ≡ 8

-- a row of the line that it stands for, with a name below l
pub record CodedRow (ls : List Line) (l w : ℕ) : Type 0 where
  pub codes : Codes ls (sort (line_of ls w)) w
  pub small : name_of w < l

abbrev pub Coded : List Line → ℕ → List ℕ → Type 0
Coded ls l ws = Each (CodedRow ls l) ws

same_swap : (s t : List ℕ) → same s t ≡ same t s
same_swap s t =
    by_test (same s t) (λ e. e ∙ sym (ap (λ (z : List ℕ). same t z) (same_eq s t e) ∙ same_refl t))
    (λ e. e ∙ sym (is_false (same t s) (λ h. false≢true (sym e ∙ ap (λ (z : List ℕ). same s z) (same_eq t s h) ∙ same_refl s))))

module _ (ls : List Line) (w : ℕ) where
  pub indent_is : (line_of ls w).indent ≡ indent_of w
  unfolding line_of
  indent_is = go (eqb (kind_of w) 6)
    where
      go : (b : Bool) → (cond b (closer (indent_of w)) (record { addr = (line_at ls (origin_of w)).addr; indent = indent_of w; toks = toks_of (kind_of w) (line_at ls (origin_of w)).toks })).indent ≡ indent_of w
      go true = refl
      go false = refl

  -- a line that no pass has changed has all but its indent from the lowered line
  pub line_same : kind_of w ≤ 4 → line_of ls w ≡ record { addr = (line_at ls (origin_of w)).addr; indent = indent_of w; toks = (line_at ls (origin_of w)).toks }
  unfolding line_of toks_of
  line_same h = rw (off 6 (lit< tt), off 5 (lit< tt), off 7 (lit< tt), off 8 (lit< tt))
    where
      off : (k : ℕ) → 4 < k → eqb (kind_of w) k ≡ false
      off k q = is_false (eqb (kind_of w) k) (λ e. omega (arith, eqb-true (kind_of w) k e))

  line_label : (u : List ℕ) → sort (line_of ls w) ≡ label u → kind_of w ≡ 1 → sort (line_at ls (origin_of w)) ≡ label u
  line_label u e k = sym (ap sort (line_same (omega arith))) ∙ e

module _ (ls : List Line) (w : ℕ) where
  -- what holds of each sort with its number holds of each sort with the kind of its row
  by_kind : (P : Sort → ℕ → Type 0) → ((u : List ℕ) → Codes ls (label u) w → P (label u) 1) → ((t : List ℕ) → Aims ls t (name_of w) → P (cond_to t) 2)
      → ((t : List ℕ) → Aims ls t (name_of w) → P (jump_to t) 3) → P plain 4 → P if_open 5 → P close 6 → P do_open 7 → P while_close 8
      → (s : Sort) → Codes ls s w → P s (kind_of w)
  by_kind P a b c d e f g h (label u) k = subst (P (label u)) (sym k.0) (a u k)
  by_kind P a b c d e f g h (cond_to t) k = subst (P (cond_to t)) (sym k.0) (b t k.1)
  by_kind P a b c d e f g h (jump_to t) k = subst (P (jump_to t)) (sym k.0) (c t k.1)
  by_kind P a b c d e f g h plain k = subst (P plain) (sym k) d
  by_kind P a b c d e f g h if_open k = subst (P if_open) (sym k) e
  by_kind P a b c d e f g h close k = subst (P close) (sym k) f
  by_kind P a b c d e f g h do_open k = subst (P do_open) (sym k) g
  by_kind P a b c d e f g h while_close k = subst (P while_close) (sym k) h

  -- which rows are labels, and which are conditional jumps
  has_label : (s : Sort) → Codes ls s w → has (label_name s) ≡ is_label w
  unfolding has label_name is_kind
  has_label = by_kind (λ s k. has (label_name s) ≡ eqb k 1) (λ u c. refl) (λ t a. refl) (λ t a. refl) refl refl refl refl refl

  has_cond : (s : Sort) → Codes ls s w → has (cond_name s) ≡ is_cond w
  unfolding has cond_name is_kind
  has_cond = by_kind (λ s k. has (cond_name s) ≡ eqb k 2) (λ u c. refl) (λ t a. refl) (λ t a. refl) refl refl refl refl refl

  -- the label of the name m, which is that of t
  is_label_lem : (t : List ℕ) (m : ℕ) → Aims ls t m → (s : Sort) → Codes ls s w → sort (line_of ls w) ≡ s → is t (label_name s) ≡ labels m w
  unfolding is label_name labels is_kind
  is_label_lem t m a =
      by_kind (λ s k. sort (line_of ls w) ≡ s → is t (label_name s) ≡ (eqb k 1 && eqb (name_of w) m))
      (λ u c e. a (origin_of w) u (line_label ls w u e c.0) ∙ ap (λ (q : ℕ). eqb q m) (sym c.1)) (λ t a e. refl) (λ t a e. refl)
      (λ e. refl) (λ e. refl) (λ e. refl) (λ e. refl) (λ e. refl)

  -- a goto to the label v, whose text is u
  module _ (v : ℕ) (u : List ℕ) (ev : sort (line_of ls v) ≡ label u) (cv : Codes ls (label u) v) where
    same_name : (t : List ℕ) → Aims ls t (name_of w) → same t u ≡ eqb (name_of w) (name_of v)
    same_name t a =
        same_swap t u ∙ a (origin_of v) u (line_label ls v u ev cv.0) ∙ ap (λ (q : ℕ). eqb q (name_of w)) (sym cv.1) ∙ eqb_swap (name_of v) (name_of w)

    is_goto_lem : (s : Sort) → Codes ls s w → is u (aim_name s) ≡ goes_to (name_of v) w
    unfolding is aim_name goes_to is_goto
    is_goto_lem =
        by_kind (λ s k. is u (aim_name s) ≡ ((eqb k 2 || eqb k 3) && eqb (name_of w) (name_of v))) (λ u c. refl) same_name same_name refl refl refl refl refl

    is_back : (s : Sort) → Codes ls s w → is u (cond_name s) ≡ backs (name_of v) w
    unfolding is cond_name backs is_kind
    is_back = by_kind (λ s k. is u (cond_name s) ≡ (eqb k 2 && eqb (name_of w) (name_of v))) (λ u c. refl) same_name (λ t a. refl) refl refl refl refl refl

-- ---- the tests of the passes on a coded row
module _ (ls : List Line) (l w : ℕ) (c : CodedRow ls l w) where
  pub label_row : has (label_name (sort (line_of ls w))) ≡ is_label w
  label_row = has_label ls w (sort (line_of ls w)) c.codes

  pub cond_row : has (cond_name (sort (line_of ls w))) ≡ is_cond w
  cond_row = has_cond ls w (sort (line_of ls w)) c.codes

  pub named_row : (t : List ℕ) (m : ℕ) → Aims ls t m → named_line t (line_of ls w) ≡ labels m w
  unfolding named_line
  named_row t m a = is_label_lem ls w t m a (sort (line_of ls w)) c.codes refl

  pub stops_row : (d : ℕ) → stops_line d (line_of ls w) ≡ stops d w
  unfolding stops_line outer stops
  stops_row d = ap₂ (λ (x : ℕ) (b : Bool). ltb x d && not (b && eqb (suc x) d)) (indent_is ls w) label_row

  pub deep_row : deep (line_of ls w) ≡ too_deep w
  unfolding deep too_deep
  deep_row = ap₂ (λ (x : ℕ) (b : Bool). cond b (leb 254 x) (leb 255 x)) (indent_is ls w) label_row

  module _ (v : ℕ) (u : List ℕ) (ev : sort (line_of ls v) ≡ label u) (cv : Codes ls (label u) v) where
    pub aims_row : aims_line u (line_of ls w) ≡ goes_to (name_of v) w
    unfolding aims_line
    aims_row = is_goto_lem ls w v u ev cv (sort (line_of ls w)) c.codes

    pub backs_row : backs_line u (line_of ls w) ≡ backs (name_of v) w
    unfolding backs_line
    backs_row = is_back ls w v u ev cv (sort (line_of ls w)) c.codes
