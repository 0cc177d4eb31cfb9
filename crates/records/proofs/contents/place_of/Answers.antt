-- With at most 16 words in a record and 32-bit numbers no product or sum leaves 64 bits, so the place is the definition's.
use Rattle.records.proofs.Laws.{scaled, place_at}
use native.Mathlib.Omega.{arith}
use Rattle.records.proofs.contents.place_of.Goals as goal

pub overflow_mul-result : goal.overflow_mul-result
overflow_mul-result c = let a = c.args in omega (arith, scaled a.w a.i c.requires (omega arith))

pub overflow_add-result : goal.overflow_add-result
overflow_add-result c = let a = c.args in omega (arith, scaled a.w a.i c.requires (omega arith))

pub overflow_mul-result-2 : goal.overflow_mul-result-2
overflow_mul-result-2 c = let a = c.args in omega (arith, scaled a.w a.i c.requires (omega arith))

pub overflow_add-result-2 : goal.overflow_add-result-2
overflow_add-result-2 c = let a = c.args in omega (arith, scaled a.w a.i c.requires (omega arith))

pub returns : goal.returns
returns c = place_at _ _ _ _ _ _ c.offset_of.ensures
