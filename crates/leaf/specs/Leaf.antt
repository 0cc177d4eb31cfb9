-- What a writer does with a text and the buffer that it is lent: the one contract of every writer.
use Rattle.std.specs.Prelude.{◌≡◌, cond, List, ◌++◌, ℕ, leb, length, drop}
use Rattle.std.specs.Prelude.{Result, Ok, Err}
use Rattle.leaf.specs.declared.NoRoom.{NoRoom}

-- a writer's answer, as the code's type has it
abbrev pub Wrote : Type 0
Wrote = Result ℕ NoRoom

abbrev pub no_room : Wrote
no_room = Err (record {})

-- the answer: how many bytes the text t has, where it fits into d
unfoldable pub answer : List ℕ → List ℕ → Wrote
answer t d = cond (leb (length t) (length d)) (Ok (length t)) no_room

-- what it leaves: the text and what stood behind it, or else all as it was
unfoldable pub written : List ℕ → List ℕ → List ℕ
written t d = cond (leb (length t) (length d)) (t ++ drop (length t) d) d

pub record Leaf (t d : List ℕ) (r : Wrote) (d' : List ℕ) : Type 0 where
  pub says : r ≡ answer t d
  pub left : d' ≡ written t d
