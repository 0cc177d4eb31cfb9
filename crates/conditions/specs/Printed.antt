-- A comparison's parts, read as the definition's.
use Rattle.std.specs.Prelude.{List, [], ◌∷◌, ◌++◌, ℕ}
use Rattle.definition.specs.Texts.{txt}
use Rattle.definition.specs.Tokens.{Token, punct}
use Rattle.definition.specs.Condition as D
use Rattle.flags.specs.declared.comparison.Sign.{Sign}
use Rattle.flags.specs.declared.comparison.Sign.TheVariants.{Equal, Unequal, Under, NotUnder, Over, NotOver}
use Rattle.flags.specs.declared.comparison.Side.{Side}
use Rattle.flags.specs.declared.comparison.Side.TheVariants.{Left, Right, Difference, Both, Nought}
use Rattle.flags.specs.declared.comparison.Shown.{Shown}

unfoldable pub view_side : Side → D.Side
view_side Left = D.Side.left
view_side Right = D.Side.right
view_side Difference = D.Side.difference
view_side Both = D.Side.both
view_side Nought = D.Side.nought

unfoldable pub view_sign : Sign → D.Sign
view_sign Equal = D.Sign.equal
view_sign Unequal = D.Sign.unequal
view_sign Under = D.Sign.under
view_sign NotUnder = D.Sign.not_under
view_sign Over = D.Sign.over
view_sign NotOver = D.Sign.not_over

unfoldable pub view_shown : Shown → D.Shown
view_shown c = record { unsigned = c.unsigned; lhs = view_side c.lhs; sign = view_sign c.sign; rhs = view_side c.rhs }

-- `(x op y)`
unfoldable pub between : List Token → List Token → List ℕ → List Token
between x y op = punct (txt "(") ∷ (x ++ (punct op ∷ (y ++ (punct (txt ")") ∷ []))))
