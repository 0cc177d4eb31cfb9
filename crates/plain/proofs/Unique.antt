-- Each public function's contract says what is seen of the sheet that comes out, for every edition with the text's section; so no second outcome meets
-- it that differs in what may be seen, which is all of the sheet unless it is full.
use mathlib.Core.Path.{◌≡◌, sym, ◌∙◌}
use mathlib.Core.List.{List}
use Prim.Native.Nat.{ℕ}
use Rattle.definition.specs.Edition.{Edition}
use Rattle.definition.specs.Ssa.{Stmt}
use Rattle.definition.specs.Lower.{Here}
use Rattle.room.specs.Room.{Sheet, seen_sheet, write_all}
use Rattle.lowering.specs.Lowered.{lowered}

-- assign, store, returns, other
pub lines : (E : Edition) (f : List ℕ) (H : Here) (pend : List Stmt) (set : List ℕ) (end i : ℕ) (s r q : Sheet)
    → seen_sheet r ≡ seen_sheet (write_all s (lowered E f H pend set end i)) → seen_sheet q ≡ seen_sheet (write_all s (lowered E f H pend set end i)) → seen_sheet r ≡ seen_sheet q
lines E f H pend set end i s r q a b = a ∙ sym b
