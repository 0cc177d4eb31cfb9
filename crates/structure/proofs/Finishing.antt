-- The finished lines are merged, of tokens whose kinds are below 8, as the lowered ones are: what the passes write is merged, and its tokens that are
-- not new keep the kinds that they had.
use mathlib.Core.Path.{◌≡◌, refl}
use mathlib.Core.Bool.{Bool, true, false, not}
use mathlib.Core.Option.{none}
use mathlib.Core.List.{List, [], ◌∷◌}
use Prim.Native.Nat.{ℕ, ◌<◌}
use native.Mathlib.Omega.{arith}
use lib.Dec.{eqb}
use lib.ListN.{length}
use Rattle.definition.specs.Texts.{txt, is_empty}
use Rattle.definition.specs.Tokens.{Token, Line, keyword, punct, joins, join, merge, line}
use Rattle.definition.specs.Sorts.{is_tok}
use Rattle.definition.specs.Negate.{before_goto, tail, trim_first, cut_last, cond_of, comparisons, flip_at, flippable, negate, open_tokens, close_tokens, do_tokens, while_tokens}
use Rattle.definition.specs.Passes.{closer}
use Rattle.definition.proofs.Bools.{by_cond}
use Rattle.definition.proofs.ListLaws.{Each, end, ◌▸◌, each_append, each_only}
use Rattle.room.proofs.Proper.{Kind8, Proper, line_proper}
use Rattle.outline.specs.Rows.{IF-OPEN, CLOSE, DO-OPEN, WHILE-CLOSE, kind_of, origin_of, toks_of, line_at, line_of, lines_of}
use Rattle.sorts.proofs.Once.{each_at}
use Rattle.structure.proofs.Origins.{Below}

-- ---- kinds
abbrev Kinds : List Token → Type 0
Kinds ts = Each Kind8 ts

kinds_before : {ts : List Token} → Kinds ts → Kinds (before_goto ts)
unfolding before_goto
kinds_before end = end
kinds_before (◌▸◌ {x = t} {xs = ts} k h) = by_cond Kinds (is_tok (keyword (txt "goto")) t) (λ e. end) (λ e. k ▸ kinds_before h)

kinds_tail : {ts : List Token} → Kinds ts → Kinds (tail ts)
unfolding tail
kinds_tail end = end
kinds_tail (k ▸ h) = h

kinds_trim : {ts : List Token} → Kinds ts → Kinds (trim_first ts)
unfolding trim_first
kinds_trim end = end
kinds_trim (k ▸ h) = k ▸ h

kinds_cut : {ts : List Token} → Kinds ts → Kinds (cut_last ts)
unfolding cut_last
kinds_cut end = end
kinds_cut (k ▸ end) = k ▸ end
kinds_cut (k ▸ (j ▸ h)) = k ▸ kinds_cut (j ▸ h)

kinds_cond : {ts : List Token} → Kinds ts → Kinds (cond_of ts)
unfolding cond_of
kinds_cond h = each_only (λ t. not (is_empty t.text)) (kinds_cut (kinds_trim (kinds_tail (kinds_before h))))

kinds_flip : (bs : List Bool) {ts : List Token} → Kinds ts → Kinds (flip_at bs ts)
unfolding flip_at
kinds_flip [] h = h
kinds_flip (b ∷ bs) end = end
kinds_flip (true ∷ bs) (k ▸ h) = k ▸ h
kinds_flip (false ∷ bs) (k ▸ h) = k ▸ kinds_flip bs h

new : {t : Token} → t.kind < 8 → Kinds (t ∷ [])
new k = k ▸ end

kinds_negate : {ts : List Token} → Kinds ts → Kinds (negate ts)
unfolding negate
kinds_negate {ts} h = by_cond Kinds (flippable ts) (λ e. kinds_flip (comparisons 0 0 ts) h) (λ e. omega arith ▸ each_append h (new (omega arith)))

-- ---- tokens of a proper line
abbrev Fine : List Token → Type 0
Fine ts = (merge ts ≡ ts) × Kinds ts

merged : {ts : List Token} → Kinds ts → Fine (merge ts)
unfolding line
merged h = let p = line_proper 0 none h in (p.once, p.kinds)

open_fine : {ts : List Token} → Kinds ts → Fine (open_tokens ts)
unfolding open_tokens
open_fine h = merged (omega arith ▸ omega arith ▸ each_append (kinds_negate (kinds_cond h)) (new (omega arith)))

while_fine : {ts : List Token} → Kinds ts → Fine (while_tokens ts)
unfolding while_tokens
while_fine h = merged (omega arith ▸ omega arith ▸ omega arith ▸ each_append (kinds_cond h) (new (omega arith)))

do_fine : Fine do_tokens
unfolding do_tokens merge join joins
do_fine = (refl, ◌▸◌ {x = keyword (txt "do")} (omega arith) (new {t = punct (txt " {")} (omega arith)))

close_fine : Fine close_tokens
unfolding close_tokens merge join
close_fine = (refl, new {t = punct (txt "}")} (omega arith))

toks_fine : (k : ℕ) {ts : List Token} → Fine ts → Fine (toks_of k ts)
unfolding toks_of
toks_fine k f =
    by_cond Fine (eqb k IF-OPEN) (λ e. open_fine f.1)
    (λ e. by_cond Fine (eqb k DO-OPEN) (λ g. do_fine) (λ g. by_cond Fine (eqb k WHILE-CLOSE) (λ i. while_fine f.1) (λ i. f)))

-- ---- lines
module _ (low : List Line) (proper : Each Proper low) where
  row_proper : (w : ℕ) → origin_of w < length low → Proper (line_of low w)
  unfolding line_of line_at
  row_proper w h =
      let p = each_at proper (origin_of w) (closer 0) h in
      by_cond Proper (eqb (kind_of w) CLOSE) (λ e. record { once = close_fine.0; kinds = close_fine.1 })
      (λ e. let f = toks_fine (kind_of w) (p.once, p.kinds) in record { once = f.0; kinds = f.1 })

  pub rows_proper : {ws : List ℕ} → Each (Below (length low)) ws → Each Proper (lines_of low ws)
  unfolding lines_of Below
  rows_proper end = end
  rows_proper (◌▸◌ {x = w} h r) = row_proper w h ▸ rows_proper r
