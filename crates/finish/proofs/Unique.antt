-- Each contract of this crate is an equation for the answer, or for what is seen of the sheet or the room, so no second result says otherwise.
use mathlib.Core.Path.{◌≡◌}
use mathlib.Core.Option.{Option}
use mathlib.Core.List.{List}
use Prim.Native.Nat.{ℕ}
use Rattle.definition.specs.Tokens.{Token}
use Rattle.definition.proofs.Unique.{equation}
use Rattle.room.specs.Room.{Room, Sheet, emit_all, seen, write_all, seen_sheet}
use Rattle.outline.specs.Rows.{indent_of, origin_of}
use Rattle.finish.specs.Finishing.{count_of, row_address, kind_toks, lines_in}

pub finish : (x : Sheet) (ls ks t rows : List ℕ) (n : ℕ) (r s : Option Sheet) → r ≡ seen_sheet (write_all x (lines_in ls ks t rows n))
    → s ≡ seen_sheet (write_all x (lines_in ls ks t rows n)) → r ≡ s
finish x ls ks t rows n = equation (seen_sheet (write_all x (lines_in ls ks t rows n)))

pub put_row : (x : Room) (k : ℕ) (ts : List Token) (r s : Option Room) → r ≡ seen (emit_all x (kind_toks k ts)) → s ≡ seen (emit_all x (kind_toks k ts)) → r ≡ s
put_row x k ts = equation (seen (emit_all x (kind_toks k ts)))

pub origin_of_lem : (w r s : ℕ) → r ≡ origin_of w → s ≡ origin_of w → r ≡ s
origin_of_lem w = equation (origin_of w)

pub count_of_lem : (ls : List ℕ) (i r s : ℕ) → r ≡ count_of ls i → s ≡ count_of ls i → r ≡ s
count_of_lem ls i = equation (count_of ls i)

-- of the address as an option
pub row_address_lem : (ls : List ℕ) (w : ℕ) (r s : Option ℕ) → r ≡ row_address ls w → s ≡ row_address ls w → r ≡ s
row_address_lem ls w = equation (row_address ls w)

pub row_indent : (w r s : ℕ) → r ≡ indent_of w → s ≡ indent_of w → r ≡ s
row_indent w = equation (indent_of w)
