-- What Intel's manual says of CMP, TEST and the condition codes (SDM volume 1, "Status Flags"; volume 2, CMP, TEST, Jcc), and what a printed comparison means.
-- Operands have w bits: they are the numbers below 2^w, of which those from 2^(w - 1) on are negative when read as signed.
use Rattle.std.specs.Prelude.{◌≡◌, Bool, true, false, not, cond, ◌&&◌, ◌||◌, ℕ, ◌+◌, ◌-◌, ◌^◌, eqb, ltb, leb}
use Rattle.std.specs.Bool.{beq}
use Rattle.std.proofs.Math.Option.{Option, none, some}
use Rattle.std.specs.Int.Bits.{bit_and}
use Rattle.definition.specs.Condition.{Code, Setter, Sign, Side, Shown}
use Rattle.definition.specs.Condition.Code.{e, ne, l, ge, g, le, b, ae, a, be, s, ns}
use Rattle.definition.specs.Condition.Setter.{cmp, test, self, result}
use Rattle.definition.specs.Condition.Sign.{equal, unequal, under, not_under, over, not_over}
use Rattle.definition.specs.Condition.Side.{left, right, difference, both, nought}

-- the weight of the most significant bit
unfoldable pub half : ℕ → ℕ
half w = 2 ^ (w - 1)

-- the signed value of x, which is x below half and x - 2^w from there on, and half more: so it is never less than 0
unfoldable pub signed : ℕ → ℕ → ℕ
signed w x = cond (ltb x (half w)) (x + half w) (x - half w)

-- x - y, and 2^w more where that is negative
unfoldable pub wrapped : ℕ → ℕ → ℕ → ℕ
wrapped w x y = cond (leb y x) (x - y) (x + 2 ^ w - y)

-- ---- the flags
pub record Status : Type 0 where
  pub CF : Bool  -- "a carry or a borrow out of the most-significant bit of the result"
  pub ZF : Bool  -- "the result is zero"
  pub SF : Bool  -- "equal to the most-significant bit of the result"
  pub OF : Bool  -- "too large a positive number or too small a negative number .. to fit in the destination operand"

-- x - y does not fit as a signed number: it is less than -half, or half or more
unfoldable pub misfits : ℕ → ℕ → ℕ → Bool
misfits w x y = ltb (signed w x + half w) (signed w y) || leb (signed w y + half w) (signed w x)

-- CMP: "subtracting the second operand from the first operand and then setting the status flags in the same manner as the SUB instruction"
unfoldable pub after_cmp : ℕ → ℕ → ℕ → Status
after_cmp w x y = record {
  CF = ltb x y;
  ZF = eqb (wrapped w x y) 0;
  SF = leb (half w) (wrapped w x y);
  OF = misfits w x y;
}

-- TEST: "the bit-wise logical AND .. sets the SF, ZF, and PF status flags according to the result"; "CF := 0; OF := 0"
unfoldable pub after_test : ℕ → ℕ → ℕ → Status
after_test w x y = record {
  CF = false;
  ZF = eqb (bit_and x y) 0;
  SF = leb (half w) (bit_and x y);
  OF = false;
}

-- either of them, as a statement `Flags` says which
unfoldable pub after_flags : ℕ → Bool → ℕ → ℕ → Status
after_flags w is_test x y = cond is_test (after_test w x y) (after_cmp w x y)

-- after what set them: `self` is TEST of an operand and itself; which arithmetic gave a result the file does not say
unfoldable pub after : ℕ → Setter → ℕ → ℕ → Option Status
after w cmp x y = some (after_cmp w x y)
after w test x y = some (after_test w x y)
after w self x y = some (after_test w x x)
after w result x y = none

-- ---- the condition codes: the manual's table
unfoldable pub intel : Code → Status → Bool
intel e f = f.ZF  -- equal (ZF=1)
intel ne f = not f.ZF  -- not equal (ZF=0)
intel l f = not (beq f.SF f.OF)  -- less (SF≠OF)
intel ge f = beq f.SF f.OF  -- greater or equal (SF=OF)
intel g f = not f.ZF && beq f.SF f.OF  -- greater (ZF=0 and SF=OF)
intel le f = f.ZF || not (beq f.SF f.OF)  -- less or equal (ZF=1 or SF≠OF)
intel b f = f.CF  -- below (CF=1)
intel ae f = not f.CF  -- above or equal (CF=0)
intel a f = not f.CF && not f.ZF  -- above (CF=0 and ZF=0)
intel be f = f.CF || f.ZF  -- below or equal (CF=1 or ZF=1)
intel s f = f.SF  -- sign (SF=1)
intel ns f = not f.SF  -- not sign (SF=0)

-- ---- what a printed comparison means
unfoldable pub relates : Sign → ℕ → ℕ → Bool
relates equal x y = eqb x y
relates unequal x y = not (eqb x y)
relates under x y = ltb x y
relates not_under x y = leb y x
relates over x y = ltb y x
relates not_over x y = leb x y

-- the value of a side: `(x - y)` is the wrapped difference, `(x & y)` the bitwise and
unfoldable pub side_value : ℕ → ℕ → ℕ → Side → ℕ
side_value w x y left = x
side_value w x y right = y
side_value w x y difference = wrapped w x y
side_value w x y both = bit_and x y
side_value w x y nought = 0

-- `(unsigned)` compares both sides as they are, all else as signed numbers
unfoldable pub reading : ℕ → Bool → ℕ → ℕ
reading w true x = x
reading w false x = signed w x

unfoldable pub holds : ℕ → ℕ → ℕ → Shown → Bool
holds w x y p =
    relates p.sign (reading w p.unsigned (side_value w x y p.lhs)) (reading w p.unsigned (side_value w x y p.rhs))

-- the opposite sign, and the comparison with it
unfoldable pub opposite : Sign → Sign
opposite equal = unequal
opposite unequal = equal
opposite under = not_under
opposite not_under = under
opposite over = not_over
opposite not_over = over

unfoldable pub flipped : Shown → Shown
flipped p = record { unsigned = p.unsigned; lhs = p.lhs; sign = opposite p.sign; rhs = p.rhs }

-- the comparison says this of the operands, and its opposite the contrary
pub record Says (w x y : ℕ) (p : Shown) (is : Bool) : Type 0 where
  pub itself : holds w x y p ≡ is
  pub negated : holds w x y (flipped p) ≡ not is
