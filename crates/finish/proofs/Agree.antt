-- Where the buffers hold the lowered lines, the lines that are written are those that the rows stand for.
use mathlib.Core.Path.{◌≡◌, refl, ap, ap₂, ◌∙◌}
use mathlib.Core.Bool.{true, false}
use mathlib.Core.List.{List, ◌∷◌, map}
use Prim.Native.Nat.{ℕ, zero, suc, ◌+◌, ◌≤◌, ◌<◌}
use native.Mathlib.Omega.{arith}
use borrow.Author.Tests.{eqb-false}
use lib.Dec.{eqb}
use lib.ListN.{length, take, drop}
use lib.Seq.{drop-cons}
use Rattle.definition.specs.Lists.{range, at}
use Rattle.definition.specs.Tokens.{Line}
use Rattle.definition.proofs.Bools.{by_test}
use Rattle.sheet.specs.Buffers.{line_in}
use Rattle.outline.specs.Rows.{CLOSE, kind_of, indent_of, origin_of, toks_of, line_of, lines_of}
use Rattle.finish.specs.Finishing.{count_of, address_in, row_address, later_toks, kind_toks, origin_toks, row_line, lines_in, Lows}

module _ (ls ks t : List ℕ) (low : List Line) (held : Lows ls ks t low) where
  row_closer : (w : ℕ) → eqb (kind_of w) CLOSE ≡ true → row_line ls ks t w ≡ line_of low w
  unfolding row_line row_address kind_toks line_of
  row_closer w e = rw e

  row_other : (w : ℕ) → eqb (kind_of w) CLOSE ≡ false → origin_of w < length low → row_line ls ks t w ≡ line_of low w
  unfolding row_line row_address kind_toks later_toks line_of toks_of address_in origin_toks count_of line_in
  row_other w e h =
      rw e (ap (λ (x : Line). record { addr = x.addr; indent = indent_of w; toks = toks_of (kind_of w) x.toks }) (held.each (origin_of w) h))

  row_agrees : (w : ℕ) → ((kind_of w ≡ CLOSE → ⊥) → origin_of w < length low) → row_line ls ks t w ≡ line_of low w
  row_agrees w h = by_test (eqb (kind_of w) CLOSE) (row_closer w) (λ e. row_other w e (h (eqb-false (kind_of w) CLOSE e)))

  module _ (rows : List ℕ) where
    part_agrees : (n k : ℕ) → k + n ≤ length rows → ((i : ℕ) → i < k + n → (kind_of (at rows i) ≡ CLOSE → ⊥) → origin_of (at rows i) < length low)
        → map (λ i. row_line ls ks t (at rows i)) (range k n) ≡ map (line_of low) (take n (drop k rows))
    unfolding range at
    part_agrees zero k h o = refl
    part_agrees (suc n) k h o =
        let p : k + 1 ≡ suc k = omega arith in
        let q = drop-cons rows k 0 (omega arith) in
        let i = part_agrees n (k + 1) (omega arith) (λ j g. o j (omega arith)) in
        rw q (ap₂ ◌∷◌ (row_agrees (at rows k) (o k (omega arith))) (i ∙ ap (λ (j : ℕ). map (line_of low) (take n (drop j rows))) p))

    -- the first n rows, each of a lowered line unless it closes
    pub agrees : (n : ℕ) → n ≤ length rows → ((i : ℕ) → i < n → (kind_of (at rows i) ≡ CLOSE → ⊥) → origin_of (at rows i) < length low)
        → lines_in ls ks t rows n ≡ lines_of low (take n rows)
    unfolding lines_in lines_of
    agrees n h o = part_agrees n 0 (omega arith) (λ i g. o i (omega arith))
