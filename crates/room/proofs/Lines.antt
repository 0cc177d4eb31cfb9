-- Lines: the five numbers of a line as one paste, and the returns of the function that ends a line.
use mathlib.Core.Path.{◌≡◌, refl, ◌∙◌}
use mathlib.Core.Bool.{Bool, true, false}
use mathlib.Core.Option.{Option}
use mathlib.Core.List.{List, [], ◌∷◌}
use Prim.Native.Nat.{ℕ, ◌+◌, ◌-◌, ◌*◌, ◌≤◌, ◌<◌}
use native.Mathlib.Omega.{arith}
use borrow.Author.Tests.{le-leb, lt-leb}
use lib.ListN.{length}
use lib.Seq.{drop-drop}
use mir.Val.{bool_byte}
use borrow.Rule.Slice.PartMut.{put_mid}
use Rattle.std.specs.Prelude.{Option as Answer, Some, None}
use Rattle.std.specs.Option.{is_some, unwrap_or}
use Rattle.definition.specs.Listing.{has_address, address_of}
use Rattle.room.specs.declared.out.Out.{Out}
use Rattle.room.specs.Room.{stopped, is_full, paste, line_row, ended, end_line, option_of}
use Rattle.room.specs.Ending.{Ended}

module _ (l : List ℕ) (o : Out) (n : ℕ) (a : Option ℕ) where
  -- full already
  pub end_full : o.full ≡ true → Ended l o n a l o
  unfolding end_line is_full
  end_full f = record { whole = λ ks t. rw f }

  -- no room for the line
  pub end_stops : (r : Out) → o.full ≡ false → length l < 5 * (o.lines + 1) → r ≡ stopped o → Ended l o n a l r
  unfolding end_line is_full
  end_stops r f h e = record { whole = λ ks t. rw (f, lt-leb _ _ h, e) }

-- the row's numbers, over those that stood in its place
row_put : (l s x : List ℕ) (i k : ℕ) → x ≡ s → k ≡ length s → put_mid i k l x ≡ paste l i s
unfolding paste
row_put l s x i k e h = rw (e, h, drop-drop (length s) i l)

has_is : (at : Answer ℕ) → bool_byte (is_some at) ≡ has_address (option_of at)
has_is None = refl
has_is (Some a) = refl

address_is : (at : Answer ℕ) → unwrap_or at 0 ≡ address_of (option_of at)
address_is None = refl
address_is (Some a) = refl

pub end_fits : (l : List ℕ) (o : Out) (n : ℕ) (at : Answer ℕ) (x : List ℕ) (b : Bool) (has y : ℕ) → o.full ≡ false → 5 * (o.lines + 1) ≤ length l
    → b ≡ is_some at → has ≡ bool_byte b → y ≡ unwrap_or at 0 → x ≡ has ∷ y ∷ n ∷ o.tokens ∷ 0 ∷ []
    → Ended l o n (option_of at) (put_mid (5 * o.lines) (5 * o.lines + 5 - 5 * o.lines) l x)
    (record { lines = o.lines + 1; tokens = o.tokens; bytes = o.bytes; start = o.tokens; full = o.full })
unfolding end_line is_full line_row ended
end_fits l o n at x b has y f h p q r e =
    let five : 5 * o.lines + 5 - 5 * o.lines ≡ 5 = omega arith in
    let row = has_address (option_of at) ∷ address_of (option_of at) ∷ n ∷ o.tokens ∷ 0 ∷ [] in
    let k : x ≡ row = e ∙ rw (q, p, r, has_is at, address_is at) in
    let w : put_mid (5 * o.lines) (5 * o.lines + 5 - 5 * o.lines) l x ≡ paste l (5 * o.lines) row = row_put l row x _ _ k five in
    record { whole = λ ks t. rw (w, f, le-leb _ _ h) }
