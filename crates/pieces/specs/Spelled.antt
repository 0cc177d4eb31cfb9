-- What each piece spells, by the definition's texts; f is what is lent with it.
use Rattle.std.specs.Prelude.{Bool, cond, List, [], ◌∷◌, ◌++◌, ℕ}
use Rattle.definition.specs.Texts.{txt}
use Rattle.definition.specs.Words.{part}
use Rattle.definition.specs.Numbers.{decimal, num, slot, label, outward}
use Rattle.definition.specs.Registers.{reg_name}
use Rattle.definition.specs.Tokens.{Token}
use Rattle.definition.specs.Render.{pointer}
use Rattle.text.specs.Supplied.{name_text, global_text}
use Rattle.pieces.specs.declared.piece.Made.{Made}
use Rattle.pieces.specs.declared.piece.Made.TheVariants.{Num, Slot, Label, Outward, Pointer, Register, Param, Local}
use Rattle.pieces.specs.declared.piece.Piece.{Piece}
use Rattle.pieces.specs.declared.piece.Piece.TheVariants.{Made as MadeOf, Whole, Part, Name, Global, Flags}

abbrev pub made : Made → List ℕ
made (Num c) = num c
made (Slot s) = slot s
made (Label a) = label a
made (Outward a) = outward a
made (Pointer n) = (pointer n).text
made (Register x) = reg_name x.bits x.reg
made (Param k) = txt "a" ++ decimal k
made (Local k) = txt "v" ++ decimal k

abbrev pub spelled : List ℕ → Piece → List ℕ
spelled f (MadeOf m) = made m
spelled f Whole = f
spelled f (Part x) = part f x.at x.n
spelled f (Name x) = name_text f x.t x.i
spelled f (Global x) = global_text f x.t x.c x.size
spelled f (Flags x) = txt "__flags_" ++ part f x.at x.n

-- the one piece p, or none
unfoldable pub piece_if : Bool → Token → List Token
piece_if there p = cond there (p ∷ []) []
