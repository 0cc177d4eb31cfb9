-- Finished lines read back from their words. Each region forms proper lines of proper ones, as the rows of `structure` do, so the lines of a listing are proper.
use mathlib.Core.Path.{◌≡◌, sym, subst}
use mathlib.Core.List.{List, [], ◌∷◌, ◌++◌}
use Prim.Native.Nat.{ℕ, suc, ◌<◌}
use native.Mathlib.Omega.{arith}
use lib.ListN.{length}
use Rattle.definition.specs.Tokens.{Line, text_of}
use Rattle.definition.specs.Passes.{raise, opened, closer, do_line, while_line, drop_unused_labels}
use Rattle.definition.specs.Listing.{Listing, line_words, token_words, tokens_of, padded, structure}
use Rattle.definition.specs.Listing.Outcome.{listed}
use Rattle.definition.proofs.ListLaws.{Each, end, ◌▸◌, each_append, each_left, each_right, each_map, each_only, each_head, each_tail}
use Rattle.definition.proofs.Plain.{Plain}
use Rattle.definition.proofs.Steps.{run, KeptByIf, KeptByDo, if_steps_keep, do_steps_keep}
use Rattle.definition.proofs.Drop.{keep}
use Rattle.room.proofs.Proper.{Proper}
use Rattle.sheet.specs.Buffers.{line_in}
use Rattle.sheet.proofs.Held.{held}
use Rattle.outline.specs.Rows.{IF-OPEN, CLOSE, DO-OPEN, WHILE-CLOSE, origin_of, toks_of, line_at, line_of, lines_of}
use Rattle.sorts.specs.Sorted.{lines_in}
use Rattle.sorts.proofs.Ranges.{below_is}
use Rattle.structure.proofs.Origins.{Below}
use Rattle.structure.proofs.Finishing.{rows_proper}

-- the lines that a region has in place of x
module _ (x : Line) (p : Proper x) where
  remade : (w : ℕ) → origin_of w < 1 → Proper (line_of (x ∷ []) w)
  unfolding lines_of Below
  remade w h = each_head (rows_proper (x ∷ []) (p ▸ end) {ws = w ∷ []} (h ▸ end))

  raise_proper : Proper (raise x)
  raise_proper = record { once = p.once; kinds = p.kinds }

  opened_proper : Proper (opened x)
  unfolding line_of line_at toks_of
  opened_proper = let q = remade IF-OPEN (omega arith) in record { once = q.once; kinds = q.kinds }

  closer_proper : (d : ℕ) → Proper (closer d)
  unfolding line_of line_at
  closer_proper d = let q = remade CLOSE (omega arith) in record { once = q.once; kinds = q.kinds }

  do_proper : Proper (do_line x)
  unfolding line_of line_at toks_of
  do_proper = let q = remade DO-OPEN (omega arith) in record { once = q.once; kinds = q.kinds }

  while_proper : (d : ℕ) → Proper (while_line d x)
  unfolding line_of line_at toks_of
  while_proper d = let q = remade WHILE-CLOSE (omega arith) in record { once = q.once; kinds = q.kinds }

kept_if : KeptByIf (Each Proper)
kept_if pre l mid goal rest t i f d h =
    let r = each_right pre (l ∷ (mid ++ goal ∷ rest)) h in
    let p = each_head r in
    each_append (each_left pre _ h) (opened_proper l p
    ▸ each_append (each_map raise raise_proper (each_left mid _ (each_tail r))) (closer_proper l p l.indent ▸ each_right mid (goal ∷ rest) (each_tail r)))

kept_do : KeptByDo (Each Proper)
kept_do pre l mid b post t i f d h =
    let r = each_right pre (l ∷ (mid ++ b ∷ post)) h in
    let s = each_right mid (b ∷ post) (each_tail r) in
    each_append (each_left pre _ h) (do_proper l (each_head r)
    ▸ each_append (each_map raise raise_proper (each_left mid _ (each_tail r))) (while_proper b (each_head s) (suc l.indent) ▸ each_tail s))

-- finished lines are proper
pub finished_proper : (low : List Line) (L : Listing) → Plain low → Each Proper low → structure low ≡ listed L → Each Proper L.lines
unfolding drop_unused_labels
finished_proper low L plain proper e =
    let r = run low L plain.fits e in
    let i = if_steps_keep (Each Proper) kept_if r.if_steps plain.fits proper in
    subst (Each Proper) (sym r.lines_are) (each_only (keep r.fin) (do_steps_keep (Each Proper) kept_do r.do_steps i.0 i.1).1)

-- and read back
pub read_back : (l d x : ℕ) (xs : List Line) → Each Proper xs
    → lines_in (padded l (line_words 0 xs)) (padded d (token_words 0 (tokens_of xs))) (padded x (text_of (tokens_of xs))) (length xs) ≡ xs
unfolding lines_in
read_back l d x xs p =
    below_is (line_in (padded l (line_words 0 xs)) (padded d (token_words 0 (tokens_of xs))) (padded x (text_of (tokens_of xs)))) xs (closer 0)
    (λ i h. held l d x xs p (closer 0) i h)
