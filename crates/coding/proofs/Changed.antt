-- What forming makes of one row: the parts of the row made, the line that it stands for, and that it still codes it.
use mathlib.Core.Path.{◌≡◌, refl, sym, ap, ap₂, subst, ◌∙◌}
use mathlib.Core.Bool.{Bool, true, false, cond}
use mathlib.Core.List.{List}
use Prim.Native.Nat.{ℕ, suc, ◌+◌, ◌/◌, ◌%◌, ◌≤◌, ◌<◌}
use native.Mathlib.Omega.{arith}
use borrow.Author.Tests.{lt-ltb, leb-false}
use lib.Dec.{eqb, leb}
use Rattle.definition.specs.Tokens.{Line}
use Rattle.definition.specs.Sorts.{Sort, sort, sort_of}
use Rattle.definition.specs.Sorts.Sort.{label, cond_to, jump_to, plain, if_open, close, do_open, while_close}
use Rattle.definition.specs.Negate.{open_tokens, while_tokens}
use Rattle.definition.specs.Passes.{raise, closer, do_line, while_line, opened as opened_line}
use Rattle.definition.proofs.TokenSorts.{close_sort, do_sort}
use Rattle.outline.specs.Rows.{kind_of, indent_of, name_of, origin_of, toks_of, line_at, line_of}
use Rattle.outline.specs.Tests.{is_label, too_deep}
use Rattle.outline.specs.Forming.{raised, turned}
use Rattle.passes.specs.Regions.{opened, whiled, headed, close_row}
use Rattle.coding.proofs.Coding.{Codes, CodedRow}

-- ---- the parts
record Parts (w v k x : ℕ) : Type 0 where
  kind : kind_of v ≡ k
  indent : indent_of v ≡ x
  name : name_of v ≡ name_of w
  origin : origin_of v ≡ origin_of w

turned_parts : (w v k : ℕ) → kind_of w < 8 → kind_of w + v ≡ k → k < 9 → Parts w (turned v w) k (indent_of w)
unfolding turned
turned_parts w v k g e h =
    let q : turned v w ≡ w + v = ap (λ (b : Bool). cond b (w + v) w) (lt-ltb (w % 16) 8 g) in
    record { kind = omega arith; indent = omega arith; name = omega arith; origin = omega arith }

raised_parts : (w : ℕ) → indent_of w < 4095 → Parts w (raised w) (kind_of w) (suc (indent_of w))
unfolding raised
raised_parts w h =
    let q : raised w ≡ w + 16 = ap (λ (b : Bool). cond b (w + 16) w) (lt-ltb (w / 16 % 4096) 4095 h) in
    record { kind = omega arith; indent = omega arith; name = omega arith; origin = omega arith }

-- ---- the lines
line_by : List Line → ℕ → ℕ → ℕ → Line
line_by ls k x o = cond (eqb k 6) (closer x) (record { addr = (line_at ls o).addr; indent = x; toks = toks_of k (line_at ls o).toks })

module _ (ls : List Line) where
  by_parts : (w v k x : ℕ) → Parts w v k x → line_of ls v ≡ line_by ls k x (origin_of w)
  unfolding line_of line_by
  by_parts w v k x p = ap₂ (λ (a b : ℕ). line_by ls a b (origin_of v)) p.kind p.indent ∙ ap (line_by ls k x) p.origin

  itself : (w k : ℕ) → kind_of w ≡ k → line_of ls w ≡ line_by ls k (indent_of w) (origin_of w)
  itself w k e = by_parts w w k (indent_of w) (record { kind = e; indent = refl; name = refl; origin = refl })

  raise_by : (k x o : ℕ) → line_by ls k (suc x) o ≡ raise (line_by ls k x o)
  unfolding line_by
  raise_by k x o = go (eqb k 6)
    where
      go : (b : Bool) → cond b (closer (suc x)) (record { addr = (line_at ls o).addr; indent = suc x; toks = toks_of k (line_at ls o).toks })
          ≡ raise (cond b (closer x) (record { addr = (line_at ls o).addr; indent = x; toks = toks_of k (line_at ls o).toks }))
      go true = refl
      go false = refl

  pub raised_line : (w : ℕ) → indent_of w < 4095 → line_of ls (raised w) ≡ raise (line_of ls w)
  raised_line w h =
      by_parts w (raised w) (kind_of w) (suc (indent_of w)) (raised_parts w h) ∙ raise_by (kind_of w) (indent_of w) (origin_of w) ∙ ap raise (sym (itself w (kind_of w) refl))

  module _ (w : ℕ) (e : kind_of w ≡ 2) where
    opened_parts : Parts w (opened w) 5 (indent_of w)
    unfolding opened
    opened_parts = turned_parts w 3 5 (omega arith) (omega arith) (omega arith)

    pub opened_line_lem : line_of ls (opened w) ≡ opened_line (line_of ls w)
    unfolding line_by toks_of
    opened_line_lem = by_parts w (opened w) 5 (indent_of w) opened_parts ∙ ap opened_line (sym (itself w 2 e))

    whiled_parts : Parts w (whiled w) 8 (indent_of w)
    unfolding whiled
    whiled_parts = turned_parts w 6 8 (omega arith) (omega arith) (omega arith)

    pub whiled_line : line_of ls (whiled w) ≡ while_line (indent_of w) (line_of ls w)
    unfolding line_by toks_of
    whiled_line = by_parts w (whiled w) 8 (indent_of w) whiled_parts ∙ ap (while_line (indent_of w)) (sym (itself w 2 e))

  module _ (w : ℕ) (e : kind_of w ≡ 1) (h : indent_of w < 4095) where
    headed_parts : Parts w (headed w) 7 (suc (indent_of w))
    unfolding headed
    headed_parts =
        let r = raised_parts w h in
        let t = turned_parts (raised w) 6 7 (omega (arith, r.kind)) (omega (arith, r.kind)) (omega arith) in
        record { kind = t.kind; indent = t.indent ∙ r.indent; name = t.name ∙ r.name; origin = t.origin ∙ r.origin }

    pub headed_line : line_of ls (headed w) ≡ do_line (line_of ls w)
    unfolding line_by toks_of
    headed_line = by_parts w (headed w) 7 (suc (indent_of w)) headed_parts ∙ ap do_line (sym (itself w 1 e))

  close_kind : (w : ℕ) → (kind_of (close_row w) ≡ 6) × (indent_of (close_row w) ≡ indent_of w) × (name_of (close_row w) ≡ 0)
  unfolding close_row
  close_kind w = (omega arith, omega arith, omega arith)

  pub close_line : (w : ℕ) → line_of ls (close_row w) ≡ closer (indent_of w)
  unfolding line_by
  close_line w = let k = close_kind w in itself (close_row w) 6 k.0 ∙ ap closer k.1

  -- ---- still coded
  same_codes : (s : Sort) (w v : ℕ) → kind_of v ≡ kind_of w → name_of v ≡ name_of w → origin_of v ≡ origin_of w → Codes ls s w → Codes ls s v
  same_codes (label u) w v k n o c = (k ∙ c.0, n ∙ c.1 ∙ ap suc (sym o))
  same_codes (cond_to t) w v k n o c = (k ∙ c.0, λ i u e. c.1 i u e ∙ ap (eqb (suc i)) (sym n))
  same_codes (jump_to t) w v k n o c = (k ∙ c.0, λ i u e. c.1 i u e ∙ ap (eqb (suc i)) (sym n))
  same_codes plain w v k n o c = k ∙ c
  same_codes if_open w v k n o c = k ∙ c
  same_codes close w v k n o c = k ∙ c
  same_codes do_open w v k n o c = k ∙ c
  same_codes while_close w v k n o c = k ∙ c

  module _ (l w : ℕ) (c : CodedRow ls l w) where
    made_coded : (v : ℕ) (s : Sort) → name_of v ≤ name_of w → sort (line_of ls v) ≡ s → Codes ls s v → CodedRow ls l v
    made_coded v s h e q = record { codes = subst (λ (s : Sort). Codes ls s v) (sym e) q; small = omega (arith, c.small) }

    pub raised_coded : indent_of w < 4095 → CodedRow ls l (raised w)
    raised_coded h =
        let p = raised_parts w h in
        made_coded (raised w) (sort (line_of ls w)) (omega (arith, p.name)) (ap sort (raised_line w h))
        (same_codes (sort (line_of ls w)) w (raised w) p.kind p.name p.origin c.codes)

    pub close_coded : CodedRow ls l (close_row w)
    close_coded = let k = close_kind w in made_coded (close_row w) close (omega (arith, k.2)) (ap sort (close_line w) ∙ close_sort) k.0

    module _ (e : kind_of w ≡ 2) where
      pub opened_coded : sort_of (open_tokens (line_of ls w).toks) ≡ if_open → CodedRow ls l (opened w)
      opened_coded q = let p = opened_parts w e in made_coded (opened w) if_open (omega (arith, p.name)) (ap sort (opened_line_lem w e) ∙ q) p.kind

      pub whiled_coded : sort_of (while_tokens (line_of ls w).toks) ≡ while_close → CodedRow ls l (whiled w)
      whiled_coded q = let p = whiled_parts w e in made_coded (whiled w) while_close (omega (arith, p.name)) (ap sort (whiled_line w e) ∙ q) p.kind

    pub headed_coded : kind_of w ≡ 1 → indent_of w < 4095 → CodedRow ls l (headed w)
    headed_coded e h = let p = headed_parts w e h in made_coded (headed w) do_open (omega (arith, p.name)) (ap sort (headed_line w e h) ∙ do_sort) p.kind

-- a row that may be raised has room for it
pub not_deep : (w : ℕ) → too_deep w ≡ false → indent_of w < 4095
unfolding too_deep
not_deep w = go (is_label w)
  where
    go : (b : Bool) → cond b (leb 254 (indent_of w)) (leb 255 (indent_of w)) ≡ false → indent_of w < 4095
    go true e = omega (arith, leb-false 254 (indent_of w) e)
    go false e = omega (arith, leb-false 255 (indent_of w) e)
