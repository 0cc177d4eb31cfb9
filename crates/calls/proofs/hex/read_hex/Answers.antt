-- Of no bytes there is no number; else the first byte is in the file, and if it is a plus the digits are read behind it.
use native.Mathlib.Omega.{arith}
use Rattle.calls.proofs.Digits.{hex_empty, hex_room, hex_plus, hex_plain}
use Rattle.calls.proofs.hex.read_hex.Goals as goal

pub returns-then-m-eq0 : goal.returns-then-m-eq0
returns-then-m-eq0 c = hex_empty _ _ _ _ c.part_size-m.ensures c.if-m-eq0.true

pub bounds-f-at : goal.bounds-f-at
bounds-f-at c = omega (arith, hex_room _ _ _ _ c.part_size-m.ensures c.if-m-eq0.false)

pub overflow_add-at : goal.overflow_add-at
overflow_add-at c = omega (arith, hex_room _ _ _ _ c.part_size-m.ensures c.if-m-eq0.false)

pub read_some-requires : goal.read_some-requires
read_some-requires c = omega (arith, hex_room _ _ _ _ c.part_size-m.ensures c.if-m-eq0.false)

pub returns-then-f-at-eq43 : goal.returns-then-f-at-eq43
returns-then-f-at-eq43 c = hex_plus _ _ _ _ c.part_size-m.ensures c.if-m-eq0.false _ c.if-f-at-eq43.true c.read_some.ensures

pub read_some-requires-2 : goal.read_some-requires-2
read_some-requires-2 c = hex_room _ _ _ _ c.part_size-m.ensures c.if-m-eq0.false

pub returns : goal.returns
returns c = hex_plain _ _ _ _ c.part_size-m.ensures c.if-m-eq0.false _ c.if-f-at-eq43.false c.read_some-2.ensures
