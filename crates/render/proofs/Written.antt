-- What each writer's calls put one behind the other is the list of pieces that its contract says, by `next`, `more` and `done`.
use mathlib.Core.Path.{◌≡◌, refl, sym, ◌∙◌}
use mathlib.Core.List.{List, [], ◌∷◌, ◌++◌}
use Prim.Native.Nat.{ℕ, ◌+◌}
use Rattle.definition.specs.Edition.{Edition}
use Rattle.definition.specs.Texts.{txt, trim_end}
use Rattle.definition.specs.Words.{part}
use Rattle.definition.specs.Contents.{offset, text, text_at}
use Rattle.definition.specs.Numbers.{num, slot}
use Rattle.definition.specs.Tokens.{Token, tok}
use Rattle.definition.specs.Render.{pointer, operator}
use Rattle.text.specs.Supplied.{global_text}
use Rattle.ssa.specs.declared.parts.Text.{Text}
use Rattle.room.specs.Room.{Room, emit, emit_all, seen}
use Rattle.room.proofs.Laws.{next, joined, one}
use Rattle.render.specs.declared.form.Leaf.{Leaf}
use Rattle.render.specs.declared.form.Leaf.TheVariants.{Number, Address, Global, Slot, Opaque}
use Rattle.render.specs.declared.form.Global.{Global as GlobalS}
use Rattle.render.specs.Forms.{address_tokens, cast_tokens, leaf_tokens}

two : (r₂ r₁ r₀ : Room) (p q : Token) → r₁ ≡ emit r₀ p → r₂ ≡ emit r₁ q → seen r₂ ≡ seen (emit_all r₀ (p ∷ q ∷ []))
two r₂ r₁ r₀ p q d e = next r₂ r₀ p (q ∷ []) d (one r₂ r₁ q e)

module _ (r₁ r₀ : Room) where
  -- a text of the file
  pub text_put : (f : List ℕ) (k t o : ℕ) (x : Text) → o ≡ offset f t → r₁ ≡ emit r₀ (tok k (part f (o + x.start) x.len))
      → r₁ ≡ emit r₀ (tok k (part f (offset f t + x.start) x.len))
  text_put f k t o x e p = rw (← e) p

  -- ---- leaves
  module _ (E : Edition) (f : List ℕ) (t : ℕ) (section : text E ≡ t) (l : Leaf) where
    pub leaf_number : (c : ℕ) → l ≡ Number c → r₁ ≡ emit r₀ (tok 2 (num c)) → seen r₁ ≡ seen (emit_all r₀ (leaf_tokens E f l))
    unfolding leaf_tokens
    leaf_number c e p = rw e (one r₁ r₀ _ p)

    pub leaf_address : (s : ℕ) → l ≡ Address s → seen r₁ ≡ seen (emit_all r₀ (address_tokens s)) → seen r₁ ≡ seen (emit_all r₀ (leaf_tokens E f l))
    unfolding leaf_tokens
    leaf_address s e p = rw e p

    pub leaf_global : (g : GlobalS) → l ≡ Global g → r₁ ≡ emit r₀ (tok 4 (global_text f t g.address g.size)) → seen r₁ ≡ seen (emit_all r₀ (leaf_tokens E f l))
    unfolding leaf_tokens
    leaf_global g e p = rw (e, section) (one r₁ r₀ _ p)

    pub leaf_slot : (s : ℕ) → l ≡ Slot s → r₁ ≡ emit r₀ (tok 1 (slot s)) → seen r₁ ≡ seen (emit_all r₀ (leaf_tokens E f l))
    unfolding leaf_tokens
    leaf_slot s e p = rw e (one r₁ r₀ _ p)

    pub leaf_opaque : (x : Text) → l ≡ Opaque x → r₁ ≡ emit r₀ (tok 0 (part f (offset f t + x.start) x.len)) → seen r₁ ≡ seen (emit_all r₀ (leaf_tokens E f l))
    unfolding leaf_tokens text_at
    leaf_opaque x e p = rw (e, section) (one r₁ r₀ _ p)

module _ (r₂ r₁ r₀ : Room) where
  pub address_put : (s : ℕ) → r₁ ≡ emit r₀ (tok 6 (txt "&")) → r₂ ≡ emit r₁ (tok 1 (slot s)) → seen r₂ ≡ seen (emit_all r₀ (address_tokens s))
  unfolding address_tokens
  address_put s d e = two r₂ r₁ r₀ _ _ d e

  pub cast_put : (n : ℕ) → r₁ ≡ emit r₀ (pointer n) → r₂ ≡ emit r₁ (tok 6 (txt "(")) → seen r₂ ≡ seen (emit_all r₀ (cast_tokens n))
  unfolding cast_tokens
  cast_put n d e = two r₂ r₁ r₀ _ _ d e

  -- a space, an operator and a space are one piece
  pub operator_put : (r₃ : Room) (f : List ℕ) (t o n : ℕ) (x : Text) → o ≡ offset f t → part f (o + x.start) n ≡ trim_end 115 (part f (o + x.start) x.len)
      → r₁ ≡ emit r₀ (tok 6 (txt " ")) → r₂ ≡ emit r₁ (tok 6 (part f (o + x.start) n)) → r₃ ≡ emit r₂ (tok 6 (txt " "))
      → (E : Edition) → text E ≡ t → seen r₃ ≡ seen (emit_all r₀ (operator (text_at E f x.start x.len) ∷ []))
  unfolding operator text_at
  operator_put r₃ f t o n x p q a b d E section =
      let w = part f (o + x.start) n in
      let e : trim_end 115 (part f (offset f (text E) + x.start) x.len) ≡ w = rw (section, ← p) (sym q) in
      rw e
      (next r₃ r₀ _ _ a (two r₃ r₂ r₁ _ _ b d)
      ∙ joined r₀ 6 (txt " ") w (tok 6 (txt " ") ∷ []) refl ∙ joined r₀ 6 (txt " " ++ w) (txt " ") [] refl)
