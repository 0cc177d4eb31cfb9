-- Which piece a number and its operands mean: a constant by its bits, a slot by its offset and 2^63, the label and the address outside, a pointer by its
-- size, a register by width and number; anything else is the global at an address, by the section of texts and its size.
use Rattle.std.specs.Prelude.{cond, ℕ, eqb}
use Rattle.pieces.specs.declared.piece.Piece.{Piece}
use Rattle.pieces.specs.declared.piece.Piece.TheVariants.{Made, Global}
use Rattle.pieces.specs.declared.piece.Made.TheVariants.{Num, Slot, Label, Outward, Pointer, Register}

unfoldable pub piece_of : ℕ → ℕ → ℕ → ℕ → Piece
piece_of which a b c =
    cond (eqb which 0) (Made (Num a))
    (cond (eqb which 1) (Made (Slot a))
    (cond (eqb which 2) (Made (Label a))
    (cond (eqb which 3) (Made (Outward a))
    (cond (eqb which 4) (Made (Pointer b))
    (cond (eqb which 5) (Made (Register (record { bits = b; reg = c })))
    (Global (record { t = b; c = a; size = c })))))))
