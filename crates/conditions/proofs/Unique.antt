-- Each public contract fixes what is seen of the room, or what the definition reads in the answer, for every edition with that text.
use mathlib.Core.Path.{◌≡◌, sym, ◌∙◌}
use mathlib.Core.List.{List}
use Prim.Native.Nat.{ℕ}
use Rattle.std.specs.Prelude.{Option as Answer}
use Rattle.definition.specs.Edition.{Edition}
use Rattle.definition.specs.Contents.{text, text_at}
use Rattle.definition.specs.Tokens.{Token}
use Rattle.room.specs.Room.{Room, emit_all, seen}
use Rattle.conditions.specs.declared.operands.Pair.{Pair}
use Rattle.conditions.specs.declared.operands.Operand.{Operand}
use Rattle.conditions.specs.Pairs.{view_found, operand_tokens, found_tokens, Set}

module _ (f : List ℕ) (t : ℕ) (E : Edition) (section : text E ≡ t) where
  pub operands : (first count : ℕ) (r s : Answer Pair) → Set f t first count r → Set f t first count s → view_found E f r ≡ view_found E f s
  operands first count r s p q = p.says E section ∙ sym (q.says E section)

  -- these pieces, for every edition
  abbrev Pieces : Room → Room → (Edition → List Token) → Type 0
  Pieces r entry ps = (D : Edition) → text D ≡ t → seen r ≡ seen (emit_all entry (ps D))

  module _ (r s entry : Room) where
    pub put_operand : (x : Operand) → Pieces r entry (λ D. operand_tokens D f x) → Pieces s entry (λ D. operand_tokens D f x) → seen r ≡ seen s
    put_operand x p q = p E section ∙ sym (q E section)

    pub put_condition : (x : Answer Pair) (start len : ℕ) → Pieces r entry (λ D. found_tokens D f x (text_at D f start len)) → Pieces s entry (λ D. found_tokens D f x (text_at D f start len))
        → seen r ≡ seen s
    put_condition x start len p q = p E section ∙ sym (q E section)
