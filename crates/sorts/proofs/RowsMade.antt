-- What each return comes to: the sort of a line in the buffers decides its row, and the table is filled one row at a time.
use mathlib.Core.Path.{◌≡◌, refl, sym, ap, ap₂, ◌∙◌}
use mathlib.Core.Bool.{Bool, true, false}
use mathlib.Core.Option.{Option}
use mathlib.Core.List.{List, ◌∷◌, ◌++◌, map}
use Prim.Native.Nat.{min, ℕ, suc, ◌+◌, ◌*◌, ◌-◌, ◌%◌, ◌≤◌, ◌<◌}
use native.Mathlib.Omega.{arith}
use native.Mathlib.Numerals.{add-one}
use lib.ListN.{length, drop, set, length-append, length-drop}
use lib.Seq.{drop-cons, set_at, append_snoc}
use Rattle.definition.specs.Texts.{txt}
use Rattle.definition.specs.Lists.{range, at}
use Rattle.definition.specs.Tokens.{Token, Line, keyword}
use Rattle.definition.specs.Sorts.{Sort, sort, sort_of, sort_at, sort_rest, sort_jump, is_label, goto_target, first_is}
use Rattle.records.proofs.Ranges.{map_last}
use Rattle.sheet.specs.Buffers.{text_at, tokens_in, first_of, last_of, line_in}
use Rattle.sheet.proofs.Reading.{least_le}
use Rattle.std.specs.Prelude.{Option as Place, Some, None}
use Rattle.sorts.specs.Places.{target_text}
use Rattle.sorts.specs.Sorted.{label_number, kind_in, jump_kind, name_in, packed, row_of, lines_in, sorted}
use Rattle.sorts.proofs.Ranges.{below_length}
use Rattle.sorts.proofs.Naming.{rest_sort, toks_are, line_at_lem}

-- ---- numbers
pub packed_is : (k d m o : ℕ) → k % 16 + 16 * (d % 4096) + 65536 * (m % 16777216) + 1099511627776 * (o % 16777216) ≡ packed k d m o
unfolding packed
packed_is k d m o = refl

-- ---- a row
jump_row : (b : Bool) (u : List ℕ) (xs : List Line) (d i : ℕ)
    → packed (kind_in (sort_jump b u)) d (name_in xs i (sort_jump b u)) i ≡ packed (jump_kind b) d (label_number u xs) i
unfolding sort_jump jump_kind kind_in name_in
jump_row true u xs d i = refl
jump_row false u xs d i = refl

module _ (ls ks t : List ℕ) (n i : ℕ) (h : i < n) (a e d : ℕ) (first : a ≡ first_of ls i) (last : e ≡ last_of ls i) (indent : d ≡ at ls (5 * i + 2)) where
  abbrev xs : List Line
  xs = lines_in ls ks t n

  abbrev ts : List Token
  ts = tokens_in ks t a (e - a)

  indent_is : (line_in ls ks t i).indent ≡ d
  unfolding line_in
  indent_is = sym indent

  row_by : (s : Sort) → sort_of ts ≡ s → row_of xs i ≡ packed (kind_in s) d (name_in xs i s) i
  unfolding row_of
  row_by s q =
      ap (λ (x : Line). packed (kind_in (sort x)) x.indent (name_in xs i (sort x)) i) (line_at_lem ls ks t n i h)
      ∙ ap₂ (λ (z : Sort) (y : ℕ). packed (kind_in z) y (name_in xs i z) i) (ap sort_of (toks_are ls ks t i a e first last) ∙ q) indent_is

  module _ (b : Bool) (test : b ≡ is_label ts) where
    sort_by : sort_of ts ≡ sort_at b (goto_target ts) ts
    unfolding sort_of
    sort_by = ap (λ (z : Bool). sort_at z (goto_target ts) ts) (sym test)

    pub row_label : b ≡ true → (r : ℕ) → r ≡ packed 1 d (i + 1) i → r ≡ row_of xs i
    unfolding sort_at kind_in name_in
    row_label z r q =
        let s = row_by _ (sort_by ∙ ap (λ (z : Bool). sort_at z (goto_target ts) ts) z) in
        q ∙ ap (λ (m : ℕ). packed 1 d m i) (add-one i) ∙ sym s

    module _ (z : b ≡ false) (g : Place ℕ) (target : target_text ks t g ≡ goto_target ts) where
      target_by : sort_of ts ≡ sort_at false (target_text ks t g) ts
      target_by = sort_by ∙ ap₂ (λ (z : Bool) (o : Option (List ℕ)). sort_at z o ts) z (sym target)

      pub row_plain : g ≡ None → (r : ℕ) → r ≡ packed 4 d 0 i → r ≡ row_of xs i
      unfolding sort_at target_text kind_in name_in
      row_plain w r q =
          let s = row_by (sort_rest ts) (target_by ∙ ap (λ (g : Place ℕ). sort_at false (target_text ks t g) ts) w) in
          q ∙ sym (s ∙ rest_sort (λ z. packed (kind_in z) d (name_in xs i z) i ≡ packed 4 d 0 i) refl refl refl refl refl ts)

      pub row_jump : (p m k : ℕ) → g ≡ Some p → m ≡ label_number (text_at ks t p) xs → k ≡ jump_kind (first_is (keyword (txt "if")) ts) → (r : ℕ) → r ≡ packed k d m i
          → r ≡ row_of xs i
      unfolding sort_at target_text
      row_jump p m k w name kind r q =
          let u = text_at ks t p in
          let s = row_by (sort_jump (first_is (keyword (txt "if")) ts) u) (target_by ∙ ap (λ (g : Place ℕ). sort_at false (target_text ks t g) ts) w) in
          q ∙ ap₂ (λ (k m : ℕ). packed k d m i) kind name ∙ sym (s ∙ jump_row (first_is (keyword (txt "if")) ts) u xs d i)

-- ---- the table
pub least_both : (n k m i : ℕ) → m ≡ min n k → i < m → (i < n) × (i < k)
least_both n k m i e h = let b = least_le n k in (omega (arith, b.0), omega (arith, b.1))

module _ (f : ℕ → ℕ) (R₀ : List ℕ) where
  -- R is R₀ with f of each of the first i places
  pub record Filled (i : ℕ) (R : List ℕ) : Type 0 where
    pub is : R ≡ map f (range 0 i) ++ drop i R₀
    pub within : i ≤ length R₀

  pub filled_start : Filled 0 R₀
  unfolding range
  filled_start = record { is = refl; within = omega arith }

  module _ (i : ℕ) (R : List ℕ) (g : Filled i R) where
    pub filled_length : length R ≡ length R₀
    filled_length =
        ap length g.is ∙ length-append (map f (range 0 i)) (drop i R₀) ∙ omega (arith, below_length f i, length-drop i R₀, g.within)

    pub filled_turn : i < length R₀ → (v : ℕ) → v ≡ f i → Filled (i + 1) (set R i v)
    filled_turn h v e = record {
      is =
          let p : i + 1 ≡ suc i = add-one i in
          ap (λ (l : List ℕ). set l i v) (g.is ∙ ap (λ (l : List ℕ). map f (range 0 i) ++ l) (drop-cons R₀ i 0 h))
          ∙ set_at (map f (range 0 i)) _ (drop (suc i) R₀) v i (below_length f i)
          ∙ ap (λ (x : ℕ). map f (range 0 i) ++ x ∷ drop (suc i) R₀) e
          ∙ sym (rw (p, map_last f i) (append_snoc (map f (range 0 i)) (f i) (drop (suc i) R₀)));
      within = omega arith;
    }

pub filled_end : (ls ks t : List ℕ) (n m i : ℕ) (R₀ R : List ℕ) → m ≡ min n (length R₀) → i ≤ m → m ≤ i → Filled (row_of (lines_in ls ks t n)) R₀ i R
    → R ≡ sorted ls ks t n R₀
unfolding sorted
filled_end ls ks t n m i R₀ R e h k g =
    let z : i ≡ min n (length R₀) = omega arith in
    g.is ∙ ap (λ (j : ℕ). map (row_of (lines_in ls ks t n)) (range 0 j) ++ drop j R₀) z
