-- Each contract of this crate fixes what is seen of the room that is left, so no second one meets it; that of end_stmt is a line's end, of which room
-- says it.
use mathlib.Core.Path.{◌≡◌, sym, ◌∙◌}
use mathlib.Core.Option.{some}
use mathlib.Core.List.{List}
use Prim.Native.Nat.{ℕ}
use Rattle.definition.specs.Edition.{Edition}
use Rattle.definition.specs.Contents.{text, stmt_long}
use Rattle.definition.specs.Tokens.{Token}
use Rattle.room.specs.declared.out.Out.{Out}
use Rattle.room.specs.Room.{Room, emit_all, seen}
use Rattle.room.specs.Ending.{Ended}
use Rattle.room.proofs.Unique.{end_line}

-- put_expr, put_within, put_arg, put_items: the pieces that an edition has
pub pieces : (ps : Edition → List Token) (E : Edition) (t : ℕ) → text E ≡ t → (r s entry : Room)
    → ((D : Edition) → text D ≡ t → seen r ≡ seen (emit_all entry (ps D))) → ((D : Edition) → text D ≡ t → seen s ≡ seen (emit_all entry (ps D))) → seen r ≡ seen s
pieces ps E t section r s entry p q = p E section ∙ sym (q E section)

pub end_stmt : (f : List ℕ) (i : ℕ) (l : List ℕ) (o : Out) (m m' : List ℕ) (r s : Out) → Ended l o 1 (some (stmt_long f i 0)) m r → Ended l o 1 (some (stmt_long f i 0)) m' s → (m ≡ m') × (r ≡ s)
end_stmt f i l o = end_line l o 1 (some (stmt_long f i 0))
