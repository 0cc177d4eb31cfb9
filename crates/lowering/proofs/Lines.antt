-- The lines of a statement: none where a test holds, and else one at its address.
use mathlib.Core.Path.{◌≡◌, sym, ap, ◌∙◌}
use mathlib.Core.Bool.{Bool, true, false, cond}
use mathlib.Core.Option.{Option, some}
use mathlib.Core.List.{List, [], ◌∷◌}
use Prim.Native.Nat.{ℕ}
use Rattle.definition.specs.Contents.{stmt_long}
use Rattle.definition.specs.Tokens.{Token, Line, line}
use Rattle.room.specs.declared.out.Out.{Out}
use Rattle.std.specs.Prelude.{Some}
use Rattle.room.specs.Room.{Room, Sheet, room_of, sheet_of, emit_all, seen, seen_sheet, write_all, option_of}
use Rattle.room.specs.Ending.{Ended}
use Rattle.room.proofs.Laws.{line_ends, written_none}

-- ---- lines that a test leaves out, which the code has as d
module _ (ls xs : List Line) (b d : Bool) (are : ls ≡ cond b [] xs) (says : d ≡ b) where
  pub left_out : (s : Sheet) → d ≡ true → seen_sheet s ≡ seen_sheet (write_all s ls)
  left_out s h = written_none s ∙ ap (λ (l : List Line). seen_sheet (write_all s l)) (sym (are ∙ rw (sym says ∙ h)))

  pub not_out : d ≡ false → ls ≡ xs
  not_out h = are ∙ rw (sym says ∙ h)

-- a statement's line ends at its address
pub ends_at : (l l' : List ℕ) (o r : Out) (f : List ℕ) (i a : ℕ) → a ≡ stmt_long f i 0 → Ended l o 1 (option_of (Some a)) l' r → Ended l o 1 (some (stmt_long f i 0)) l' r
ends_at l l' o r f i a e d = rw (← e) d

-- one line
pub line_put : (ls : List Line) (l l' : List ℕ) (r₀ : Room) (ks ts : List ℕ) (o₁ o : Out) (a : Option ℕ) (ps : List Token) → ls ≡ line 1 a ps ∷ []
    → seen (room_of ks ts o₁) ≡ seen (emit_all r₀ ps) → Ended l o₁ 1 a l' o
    → seen_sheet (sheet_of l' ks ts o) ≡ seen_sheet (write_all (record { lines = l; room = r₀ }) ls)
line_put ls l l' r₀ ks ts o₁ o a ps are e d =
    line_ends l l' r₀ (room_of ks ts o₁) o 1 a ps e d ∙ ap (λ (x : List Line). seen_sheet (write_all (record { lines = l; room = r₀ }) x)) (sym are)
