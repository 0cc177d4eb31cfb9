-- Each contract of this crate is an equation for the answer, so no second answer meets it; two places that `place` may give read the same.
use mathlib.Core.Path.{◌≡◌, sym, ◌∙◌}
use mathlib.Core.Bool.{Bool}
use mathlib.Core.List.{List}
use Prim.Native.Nat.{ℕ, ◌+◌, ◌*◌}
use Rattle.definition.specs.Texts.{same, is_empty, begins, contains}
use Rattle.definition.specs.Tokens.{tok}
use Rattle.definition.specs.Sorts.{is_tok}
use Rattle.definition.specs.Lists.{at}
use Rattle.definition.proofs.Unique.{equation}
use Rattle.sheet.specs.Buffers.{start_at, end_at, first_of, last_of, kind_at, token_at}
use Rattle.sheet.specs.Ranges.{between, SamePlace}

pub kind_at_lem : (ks : List ℕ) (j r s : ℕ) → r ≡ kind_at ks j → s ≡ kind_at ks j → r ≡ s
kind_at_lem ks j = equation (kind_at ks j)

-- the bytes of a token, and the tokens of a line
pub start_at_lem : (ks : List ℕ) (j r s : ℕ) → r ≡ start_at ks j → s ≡ start_at ks j → r ≡ s
start_at_lem ks j = equation (start_at ks j)

pub end_at_lem : (ks : List ℕ) (j r s : ℕ) → r ≡ end_at ks j → s ≡ end_at ks j → r ≡ s
end_at_lem ks j = equation (end_at ks j)

pub first_of_lem : (l : List ℕ) (i r s : ℕ) → r ≡ first_of l i → s ≡ first_of l i → r ≡ s
first_of_lem l i = equation (first_of l i)

pub last_of_lem : (l : List ℕ) (i r s : ℕ) → r ≡ last_of l i → s ≡ last_of l i → r ≡ s
last_of_lem l i = equation (last_of l i)

pub token_is : (ks t : List ℕ) (j k : ℕ) (w : List ℕ) (r s : Bool) → r ≡ is_tok (tok k w) (token_at ks t j) → s ≡ is_tok (tok k w) (token_at ks t j) → r ≡ s
token_is ks t j k w = equation (is_tok (tok k w) (token_at ks t j))

pub place : (ks : List ℕ) (p r s : ℕ) → SamePlace ks r p → SamePlace ks s p → SamePlace ks r s
place ks p r s a b = record { number = a.number ∙ sym b.number; start = a.start ∙ sym b.start }

pub line_number : (l : List ℕ) (i k r s : ℕ) → r ≡ at l (5 * i + k) → s ≡ at l (5 * i + k) → r ≡ s
line_number l i k = equation (at l (5 * i + k))

pub is_between : (t : List ℕ) (f e : ℕ) (w : List ℕ) (r s : Bool) → r ≡ same (between t f e) w → s ≡ same (between t f e) w → r ≡ s
is_between t f e w = equation (same (between t f e) w)

pub begins_between : (t : List ℕ) (f e : ℕ) (w : List ℕ) (r s : Bool) → r ≡ begins w (between t f e) → s ≡ begins w (between t f e) → r ≡ s
begins_between t f e w = equation (begins w (between t f e))

pub none_between : (t : List ℕ) (f e : ℕ) (r s : Bool) → r ≡ is_empty (between t f e) → s ≡ is_empty (between t f e) → r ≡ s
none_between t f e = equation (is_empty (between t f e))

pub contains_between : (t : List ℕ) (f e : ℕ) (w : List ℕ) (r s : Bool) → r ≡ contains w (between t f e) → s ≡ contains w (between t f e) → r ≡ s
contains_between t f e w = equation (contains w (between t f e))

pub part : (t : List ℕ) (f e : ℕ) (r s : List ℕ) → r ≡ between t f e → s ≡ between t f e → r ≡ s
part t f e = equation (between t f e)
