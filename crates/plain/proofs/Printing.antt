-- What the pieces of an Other come to: its text between two others is one token, and with or without a name before it the definition's list.
use mathlib.Core.Path.{◌≡◌, refl, ◌∙◌}
use mathlib.Core.List.{List, [], ◌∷◌, ◌++◌}
use Prim.Native.Nat.{ℕ, ◌+◌}
use Rattle.definition.specs.Edition.{Edition}
use Rattle.definition.specs.Texts.{txt}
use Rattle.definition.specs.Words.{part}
use Rattle.definition.specs.Contents.{offset, text, text_at}
use Rattle.definition.specs.Owners.{stmt_field}
use Rattle.definition.specs.Meaning.{bits}
use Rattle.definition.specs.Registers.{reg_name}
use Rattle.definition.specs.Lookup.{name_or}
use Rattle.definition.specs.Tokens.{tok}
use Rattle.ssa.specs.declared.parts.Text.{Text}
use Rattle.names.specs.Codes.{name_text}
use Rattle.room.specs.Room.{Room, emit, emit_all, seen}
use Rattle.room.proofs.Laws.{next, joined, one}
use Rattle.plain.specs.declared.sets.Named.{Named}
use Rattle.plain.specs.declared.sets.Sets.{Sets}
use Rattle.plain.specs.Asm.{asm_call, asm_of, other_of}

pub between_put : (r₃ r₂ r₁ r₀ : Room) (E : Edition) (f : List ℕ) (t o : ℕ) (x : Text) (l r : List ℕ) → text E ≡ t → o ≡ offset f t → r₁ ≡ emit r₀ (tok 0 l)
    → r₂ ≡ emit r₁ (tok 0 (part f (o + x.start) x.len)) → r₃ ≡ emit r₂ (tok 0 r)
    → seen r₃ ≡ seen (emit_all r₀ (tok 0 (l ++ text_at E f x.start x.len ++ r) ∷ []))
unfolding text_at
between_put r₃ r₂ r₁ r₀ E f t o x l r section off a b c =
    let w = part f (o + x.start) x.len in
    rw (section, ← off)
    (next r₃ r₀ _ _ a (next r₃ r₁ _ _ b (one r₃ r₂ _ c)) ∙ joined r₀ 0 l w (tok 0 r ∷ []) refl ∙ joined r₀ 0 (l ++ w) r [] refl)

pub call_put : (r₄ r₃ r₂ r₁ r₀ : Room) (f : List ℕ) (w : ℕ) (n : Named) (x : List ℕ) → w ≡ bits f
    → r₁ ≡ emit r₀ (tok 1 (name_or (reg_name w n.reg) (name_text w n.reg n.code))) → r₂ ≡ emit r₁ (tok 6 (txt " = ")) → r₃ ≡ emit r₂ (tok 3 (txt "__asm"))
    → seen r₄ ≡ seen (emit_all r₃ (tok 0 (txt "(\"" ++ x ++ txt "\");") ∷ [])) → seen r₄ ≡ seen (emit_all r₀ (asm_call (bits f) n x))
unfolding asm_call
call_put r₄ r₃ r₂ r₁ r₀ f w n x width a b c d = rw (← width) (next r₄ r₀ _ _ a (next r₄ r₁ _ _ b (next r₄ r₂ _ _ c d)))

-- by what is set
pub asm_put : (r₁ r₀ : Room) (b : ℕ) (s k : Sets) (x : List ℕ) → s ≡ k → seen r₁ ≡ seen (emit_all r₀ (asm_of b k x)) → seen r₁ ≡ seen (emit_all r₀ (asm_of b s x))
asm_put r₁ r₀ b s k x e p = rw e p

-- by the definition, as the search says
pub other_put : (r₁ r₀ : Room) (E : Edition) (f : List ℕ) (i a n : ℕ) (s : Sets) → a ≡ stmt_field f i 0 → n ≡ stmt_field f i 1
    → asm_of (bits f) s (text_at E f (stmt_field f i 0) (stmt_field f i 1)) ≡ other_of E f i
    → seen r₁ ≡ seen (emit_all r₀ (asm_of (bits f) s (text_at E f a n))) → seen r₁ ≡ seen (emit_all r₀ (other_of E f i))
other_put r₁ r₀ E f i a n s p q are e = rw (← are, ← p, ← q) e
