-- Each public contract fixes an answer, a line's end, or what is seen of the room or the sheet that is left, for every edition with the text's section;
-- so no second outcome meets it that differs in what may be seen, which is all of it unless it is full.
use mathlib.Core.Path.{◌≡◌, sym, ◌∙◌}
use mathlib.Core.Bool.{Bool, cond}
use mathlib.Core.List.{List, []}
use Prim.Native.Nat.{ℕ}
use Rattle.definition.specs.Edition.{Edition}
use Rattle.definition.specs.Contents.{text, block_long}
use Rattle.definition.specs.Lists.{or_else}
use Rattle.definition.specs.Owners.{stmt_field}
use Rattle.definition.specs.Numbers.{label as label_of}
use Rattle.definition.specs.Tokens.{Token, Line, tok, symbol}
use Rattle.definition.specs.Lower.{goto_tokens}
use Rattle.definition.specs.Blocks.{closing as closing_of, label_line}
use Rattle.room.specs.Room.{Room, Sheet, emit_all, seen, write_all, seen_sheet}
use Rattle.lowering.specs.Lowered.{lowering_of, here_at}
use Rattle.gotos.specs.Written.{uses_of, name_of, stmt_line, to_block, computed_tokens, leave_of}

pub put_goto : (a : ℕ) (r s entry : Room) → seen r ≡ seen (emit_all entry (goto_tokens (symbol (label_of a)))) → seen s ≡ seen (emit_all entry (goto_tokens (symbol (label_of a)))) → seen r ≡ seen s
put_goto a r s entry p q = p ∙ sym q

pub to_block_lem : (f : List ℕ) (b i a : ℕ) (r s entry : Sheet) → seen_sheet r ≡ seen_sheet (write_all entry (to_block f b i a)) → seen_sheet s ≡ seen_sheet (write_all entry (to_block f b i a))
    → seen_sheet r ≡ seen_sheet s
to_block_lem f b i a r s entry p q = p ∙ sym q

-- ---- for every edition
-- these pieces
abbrev Pieces : ℕ → Room → Room → (Edition → List Token) → Type 0
Pieces t r entry ps = (E : Edition) → text E ≡ t → seen r ≡ seen (emit_all entry (ps E))

-- these lines
abbrev Lines : ℕ → Sheet → Sheet → (Edition → List Line) → Type 0
Lines t r entry ls = (E : Edition) → text E ≡ t → seen_sheet r ≡ seen_sheet (write_all entry (ls E))

module _ (E : Edition) (t : ℕ) (section : text E ≡ t) (f : List ℕ) where
  module _ (r s entry : Room) where
    room_one : (ps : Edition → List Token) → Pieces t r entry ps → Pieces t s entry ps → seen r ≡ seen s
    room_one ps p q = p E section ∙ sym (q E section)

    pub put_goto_name : (kind a : ℕ) → Pieces t r entry (λ D. goto_tokens (tok kind (name_of D f a))) → Pieces t s entry (λ D. goto_tokens (tok kind (name_of D f a))) → seen r ≡ seen s
    put_goto_name kind a = room_one (λ D. goto_tokens (tok kind (name_of D f a)))

  module _ (r s entry : Sheet) where
    sheet_one : (ls : Edition → List Line) → Lines t r entry ls → Lines t s entry ls → seen_sheet r ≡ seen_sheet s
    sheet_one ls p q = p E section ∙ sym (q E section)

    pub computed : (i item : ℕ) → Lines t r entry (λ D. stmt_line f i (computed_tokens D f item (stmt_field f i 6))) → Lines t s entry (λ D. stmt_line f i (computed_tokens D f item (stmt_field f i 6)))
        → seen_sheet r ≡ seen_sheet s
    computed i item = sheet_one (λ D. stmt_line f i (computed_tokens D f item (stmt_field f i 6)))

    pub name_line : (kind i a : ℕ) → Lines t r entry (λ D. stmt_line f i (goto_tokens (tok kind (name_of D f a)))) → Lines t s entry (λ D. stmt_line f i (goto_tokens (tok kind (name_of D f a))))
        → seen_sheet r ≡ seen_sheet s
    name_line kind i a = sheet_one (λ D. stmt_line f i (goto_tokens (tok kind (name_of D f a))))

    pub leave : (i a item n : ℕ) → Lines t r entry (λ D. leave_of D f i a (uses_of D f item n)) → Lines t s entry (λ D. leave_of D f i a (uses_of D f item n)) → seen_sheet r ≡ seen_sheet s
    leave i a item n = sheet_one (λ D. leave_of D f i a (uses_of D f item n))

    pub label : (b : ℕ) → ((D : Edition) → seen_sheet r ≡ seen_sheet (write_all entry (label_line (lowering_of D f) (block_long f b 0))))
        → ((D : Edition) → seen_sheet s ≡ seen_sheet (write_all entry (label_line (lowering_of D f) (block_long f b 0)))) → seen_sheet r ≡ seen_sheet s
    label b p q = p E ∙ sym (q E)

    pub closing : (b : ℕ) (leaves : Bool)
        → ((D : Edition) → seen_sheet r ≡ seen_sheet (write_all entry (cond leaves [] (closing_of (lowering_of D f) (here_at D f b) (or_else (here_at D f b).block.fall (here_at D f b).block.taken)))))
        → ((D : Edition) → seen_sheet s ≡ seen_sheet (write_all entry (cond leaves [] (closing_of (lowering_of D f) (here_at D f b) (or_else (here_at D f b).block.fall (here_at D f b).block.taken)))))
        → seen_sheet r ≡ seen_sheet s
    closing b leaves p q = p E ∙ sym (q E)
