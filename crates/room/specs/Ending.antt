-- A line's end as its caller has it: the tokens and the text are not lent, so whatever they are.
use Rattle.std.specs.Prelude.{◌≡◌, List, ℕ}
use Rattle.std.proofs.Math.Option.{Option}
use Rattle.room.specs.declared.out.Out.{Out}
use Rattle.room.specs.Room.{sheet_of, end_line}

-- from the lines l and out o, at indent n and address a, to the lines l' and out r
pub record Ended (l : List ℕ) (o : Out) (n : ℕ) (a : Option ℕ) (l' : List ℕ) (r : Out) : Type 0 where
  pub whole : (ks t : List ℕ) → sheet_of l' ks t r ≡ end_line (sheet_of l ks t o) n a
