-- A token's number set for a text that was just written, or not: what a writer's answer does to the tokens and to how far the room is written.
use Rattle.std.specs.Prelude.{false, List, ℕ, ◌+◌, ◌*◌, ◌≤◌, ◌<◌, length, set}
use Rattle.std.specs.Prelude.{Ok, Err}
use Rattle.leaf.specs.Leaf.{Wrote}
use Rattle.room.specs.declared.out.Out.{Out}
use Rattle.room.specs.Room.{text_most, slot_at, stopped}

-- the tokens then
unfoldable pub with_token : List ℕ → Out → ℕ → Wrote → List ℕ
with_token ks o k (Err x) = ks
with_token ks o k (Ok n) = set ks (slot_at ks o k) (8 * (o.bytes + n) + k)

-- how far the room is written then
unfoldable pub after_token : List ℕ → Out → ℕ → Wrote → Out
after_token ks o k (Err x) = stopped o
after_token ks o k (Ok n) = record {
  lines = o.lines;
  tokens = slot_at ks o k + 1;
  bytes = o.bytes + n;
  start = o.start;
  full = false;
}

-- where the text ends
unfoldable pub end_of : Out → Wrote → ℕ
end_of o (Err x) = o.bytes
end_of o (Ok n) = o.bytes + n

-- a token of kind k has its place, and its text ends where its number can say it
pub record Placeable (ks : List ℕ) (o : Out) (k : ℕ) (w : Wrote) : Type 0 where
  pub tokens : o.tokens ≤ length ks
  pub place : slot_at ks o k < length ks
  pub end : end_of o w ≤ text_most
