-- The comparison that a sign stands for, and the first of a list whose sign a text contains.
use Rattle.std.specs.Prelude.{cond, List, [], ◌∷◌, ℕ, Option as Answer, Some, None}
use Rattle.std.proofs.Math.Option.{Option, none, some}
use Rattle.definition.specs.Texts.{txt, contains}
use Rattle.definition.specs.Negate.{Flip}
use Rattle.comparisons.specs.declared.signs.Sign.{Sign}
use Rattle.comparisons.specs.declared.signs.Sign.TheVariants.{Equal, Unequal, Less, NotLess, Greater, NotGreater}

-- a sign's text
abbrev pub text_of : Sign → List ℕ
text_of Equal = txt " == "
text_of Unequal = txt " != "
text_of Less = txt " < "
text_of NotLess = txt " >= "
text_of Greater = txt " > "
text_of NotGreater = txt " <= "

-- the sign that holds exactly where it does not
abbrev pub opposite_of : Sign → Sign
opposite_of Equal = Unequal
opposite_of Unequal = Equal
opposite_of Less = NotLess
opposite_of NotLess = Less
opposite_of Greater = NotGreater
opposite_of NotGreater = Greater

-- the definition's comparison
abbrev pub flip_by : Sign → Flip
flip_by k = record { from = text_of k; to = text_of (opposite_of k) }

abbrev pub flip_of : Answer Sign → Option Flip
flip_of (Some k) = some (flip_by k)
flip_of None = none

-- the first whose sign s contains
unfoldable pub first_in : List Flip → List ℕ → Option Flip
first_in [] s = none
first_in (p ∷ ps) s = cond (contains p.from s) (some p) (first_in ps s)
