-- A block's first and last line: the table of labels says of a block whether the definition labels it, and each test of the closing goto is the
-- definition's.
use mathlib.Core.Path.{sym, ◌≡◌, refl, ap, ap₂, ◌∙◌}
use mathlib.Core.Bool.{Bool, true, false, not, cond, ◌||◌}
use mathlib.Core.Option.{Option, none, some}
use mathlib.Core.List.{List, [], ◌∷◌, ◌++◌, map}
use Rattle.std.specs.Prelude.{Option as Answer, Some, None}
use Rattle.std.specs.Option.{option_or}
use Prim.Native.Nat.{ℕ, ◌-◌, ◌<◌}
use native.Mathlib.Omega.{arith}
use lib.ListN.{length, replicate}
use Rattle.definition.specs.Edition.{Edition, blocks}
use Rattle.definition.specs.Texts.{txt}
use Rattle.definition.specs.Lists.{among, or_else, range, at}
use Rattle.definition.specs.Contents.{size, block_long}
use Rattle.definition.specs.Ssa.{Block}
use Rattle.definition.specs.Read.{all_trees, block_at, read}
use Rattle.definition.specs.Numbers.{label}
use Rattle.definition.specs.Lookup.{order, is_next, jumps_from}
use Rattle.definition.specs.Tokens.{Line, symbol, punct, line}
use Rattle.definition.specs.Lower.{goto_tokens}
use Rattle.definition.specs.Blocks.{lowering, closing, label_line}
use Rattle.definition.specs.Listing.{padded}
use Rattle.records.proofs.Ranges.{map-map}
use Rattle.ssa.specs.Block.{block_record}
use Rattle.ssa.specs.View.{option_of as view_edge}
use Rattle.ssa.specs.declared.block.Block.{Block as BlockS}
use Rattle.values.proofs.Ranges.{at_left, map_length, at_below}
use Rattle.labels.specs.Labels.{start_at, next_at, Labels}
use Rattle.room.specs.declared.out.Out.{Out}
use Rattle.std.specs.Prelude.{Some, None}
use Rattle.room.specs.Room.{Room, Sheet, sheet_of, room_of, emit, emit_all, seen, write_all, seen_sheet, option_of}
use Rattle.room.specs.Ending.{Ended}
use Rattle.room.proofs.Laws.{next, one, line_ends, written_none}
use Rattle.lowering.specs.Lowered.{lowering_of, here_at}
use Rattle.lowering.proofs.Lines.{left_out, not_out}
use Rattle.gotos.proofs.Edges.{edges_are, or_viewed}

-- the same lines, named otherwise
pub lines_are : (s s₀ : Sheet) (xs ls : List Line) → ls ≡ xs → seen_sheet s ≡ seen_sheet (write_all s₀ xs) → seen_sheet s ≡ seen_sheet (write_all s₀ ls)
lines_are s s₀ xs ls p h = rw p h

-- the front of a table
at_front : (xs ys : List ℕ) (n b : ℕ) → length xs ≡ n → b < n → at (xs ++ ys) b ≡ at xs b
at_front xs ys n b e h = at_left xs ys b (omega arith)

-- ---- labels
module _ (E : Edition) (f labels : List ℕ) (b : ℕ) (all : Labels f (length labels) labels) (here : b < size f blocks) (w : ℕ) (says : w ≡ at labels b) where
  label_says : w ≡ cond (among (block_long f b 0) (lowering_of E f).jumps) 1 0
  unfolding padded read lowering_of lowering block_at
  label_says =
      let mark : Block → ℕ = (λ (c : Block). cond (among c.start (jumps_from (read E f).blocks)) 1 0) in
      let B : ℕ → Block = (λ (i : ℕ). block_at E f (all_trees E f) i) in
      let xs = map mark (read E f).blocks in
      let same : xs ≡ map (λ (i : ℕ). mark (B i)) (range 0 (size f blocks)) = map-map mark B (range 0 (size f blocks)) in
      let len : length xs ≡ size f blocks = ap length same ∙ map_length (λ (i : ℕ). mark (B i)) 0 (size f blocks) in
      says ∙ ap (λ (l : List ℕ). at l b) (all E)
      ∙ at_front xs (replicate (length labels - length xs) 0) (size f blocks) b len here
      ∙ ap (λ (l : List ℕ). at l b) same ∙ at_below (λ (i : ℕ). mark (B i)) (size f blocks) b here

  -- a mark of 1 is a test that holds
  marked_so : (c : Bool) → w ≡ cond c 1 0 → w ≡ 1 → c ≡ true
  marked_so true e h = refl
  marked_so false e h = absurd (omega arith)

  marked_not : (c : Bool) → w ≡ cond c 1 0 → (w ≡ 1 → ⊥) → c ≡ false
  marked_not true e h = absurd (h e)
  marked_not false e h = refl

  pub label_none : (s : Sheet) → (w ≡ 1 → ⊥) → seen_sheet s ≡ seen_sheet (write_all s (label_line (lowering_of E f) (block_long f b 0)))
  unfolding label_line
  label_none s h = rw (marked_not (among (block_long f b 0) (lowering_of E f).jumps) label_says h) (written_none s)

  pub label_put : (a : ℕ) (l l' : List ℕ) (r₁ r₀ : Room) (ks ts : List ℕ) (o₁ o : Out) → w ≡ 1 → a ≡ block_long f b 0
      → r₁ ≡ emit r₀ (symbol (label a)) → room_of ks ts o₁ ≡ emit r₁ (punct (txt ":")) → Ended l o₁ 0 (option_of (Some a)) l' o
      → seen_sheet (sheet_of l' ks ts o) ≡ seen_sheet (write_all (record { lines = l; room = r₀ }) (label_line (lowering_of E f) (block_long f b 0)))
  unfolding label_line
  label_put a l l' r₁ r₀ ks ts o₁ o h p e c d =
      let room = room_of ks ts o₁ in
      rw (marked_so (among (block_long f b 0) (lowering_of E f).jumps) label_says h, ← p) (line_ends l l' r₀ room o 0 (some a) _ (next room r₀ _ _ e (one room r₁ _ c)) d)

-- ---- the closing goto
pub out_next : (b c d : Bool) → d ≡ b → d ≡ true → d ≡ (b || c)
out_next b c d p h = rw (← p, h)

pub out_other : (b c d x : Bool) → d ≡ b → d ≡ false → x ≡ c → not x ≡ (b || not c)
out_other b c d x p h q = rw (← p, h, q)

module _ (E : Edition) (f : List ℕ) (b : ℕ) where
  closing_is : (a : ℕ) → closing (lowering_of E f) (here_at E f b) (some a)
      ≡ cond (is_next (next_at f b) a || not (among a (order (read E f)))) [] (line 1 none (goto_tokens (symbol (label a))) ∷ [])
  unfolding closing lowering_of lowering here_at next_at start_at
  closing_is a = refl

  module _ (a : ℕ) (d : Bool) (says : d ≡ (is_next (next_at f b) a || not (among a (order (read E f))))) where
    pub closing_out : (s : Sheet) → d ≡ true → seen_sheet s ≡ seen_sheet (write_all s (closing (lowering_of E f) (here_at E f b) (some a)))
    closing_out = left_out _ _ _ d (closing_is a) says

    pub closing_put : (l l' : List ℕ) (r₀ : Room) (ks ts : List ℕ) (o₁ o : Out) → d ≡ false
        → seen (room_of ks ts o₁) ≡ seen (emit_all r₀ (goto_tokens (symbol (label a)))) → Ended l o₁ 1 (option_of None) l' o
        → seen_sheet (sheet_of l' ks ts o) ≡ seen_sheet (write_all (record { lines = l; room = r₀ }) (closing (lowering_of E f) (here_at E f b) (some a)))
    closing_put l l' r₀ ks ts o₁ o h e k =
        lines_are (sheet_of l' ks ts o) (record { lines = l; room = r₀ }) _ _ (not_out _ _ _ d (closing_is a) says h) (line_ends l l' r₀ (room_of ks ts o₁) o 1 none _ e k)

  abbrev edge : Option ℕ
  edge = or_else (here_at E f b).block.fall (here_at E f b).block.taken

  abbrev closed : Bool → List Line
  closed leaves = cond leaves [] (closing (lowering_of E f) (here_at E f b) edge)

  pub closing_leaves : (s : Sheet) (leaves : Bool) → leaves ≡ true → seen_sheet s ≡ seen_sheet (write_all s (closed leaves))
  closing_leaves s leaves h = rw h (written_none s)

  module _ (leaves : Bool) (on : leaves ≡ false) (x : BlockS) (is : x ≡ block_record f b) where
    -- by where it goes
    abbrev Closes : Option ℕ → Type 0
    Closes o = (s s₀ : Sheet) → seen_sheet s ≡ seen_sheet (write_all s₀ (closing (lowering_of E f) (here_at E f b) o)) → seen_sheet s ≡ seen_sheet (write_all s₀ (closed leaves))

    closing_by : (o : Option ℕ) → edge ≡ o → Closes o
    closing_by o p s s₀ e =
        lines_are s s₀ (closing (lowering_of E f) (here_at E f b) o) (closed leaves)
        (ap (λ (c : Bool). cond c [] (closing (lowering_of E f) (here_at E f b) edge)) on ∙ ap (closing (lowering_of E f) (here_at E f b)) p) e

    module _ (o : Answer ℕ) (first : o ≡ option_or x.fall x.taken) where
      edge_by : edge ≡ view_edge o
      unfolding here_at block_at
      edge_by =
          ap₂ (λ (o p : Option ℕ). or_else o p) (edges_are f b x is).1 (edges_are f b x is).0
          ∙ sym (or_viewed x.fall x.taken) ∙ ap (λ (q : Answer ℕ). view_edge q) (sym first)

      pub closing_goes : (a : ℕ) → o ≡ Some a → Closes (some a)
      closing_goes a h = closing_by (some a) (edge_by ∙ ap (λ (q : Answer ℕ). view_edge q) h)

      pub closing_none : (s : Sheet) → o ≡ None → seen_sheet s ≡ seen_sheet (write_all s (closed leaves))
      unfolding closing
      closing_none s h = closing_by none (edge_by ∙ ap (λ (q : Answer ℕ). view_edge q) h) s s (written_none s)
