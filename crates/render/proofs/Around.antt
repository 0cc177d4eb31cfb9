-- What is written around an expression's children is the expression, by its form; where the room is full nothing more is seen.
use mathlib.Core.Path.{◌≡◌, sym, ap, ◌∙◌}
use mathlib.Core.Bool.{Bool, true, false, not}
use mathlib.Core.List.{List, [], ◌∷◌, ◌++◌, append-nil, append_assoc}
use Prim.Native.Nat.{ℕ, ◌+◌, ◌≤◌, ◌<◌}
use native.Mathlib.Omega.{arith}
use lib.ListN.{length, get_or}
use mir.Syntax.{w8}
use mir.Val.{Fits}
use Rattle.definition.specs.Edition.{Edition, expressions}
use Rattle.definition.specs.Texts.{txt}
use Rattle.definition.specs.Words.{part}
use Rattle.definition.specs.Contents.{size, offset, text, text_at, expr_word}
use Rattle.definition.specs.Values.{Value, value}
use Rattle.definition.specs.Tokens.{Token, tok, punct}
use Rattle.definition.specs.Render.{nested, through, operator}
use Rattle.definition.specs.Lists.{at}
use Rattle.places.specs.declared.Places.{Places}
use Rattle.places.specs.Keys.{value_of, keyed}
use Rattle.sums.specs.Ground.{Ground}
use Rattle.sums.proofs.Naming.{some_edition, expr_inside}
use Rattle.ssa.specs.declared.node.Bin.{Bin as BinS}
use Rattle.ssa.specs.declared.node.Un.{Un as UnS}
use Rattle.ssa.specs.declared.node.Load.{Load as LoadS}
use Rattle.room.specs.declared.out.Out.{Out}
use Rattle.room.specs.Room.{Room, room_of, is_full, emit, emit_all, seen}
use Rattle.room.proofs.Laws.{next, more, full_stays, one}
use Rattle.pieces.specs.Spelled.{piece_if}
use Rattle.render.specs.declared.form.Leaf.{Leaf as LeafS}
use Rattle.render.specs.declared.form.Form.{Form}
use Rattle.render.specs.declared.form.Form.TheVariants.{Leaf, Use, Bin, Un, Through}
use Rattle.render.specs.Gens.{rendered, used}
use Rattle.render.specs.Told.{NamedAt}
use Rattle.render.specs.Forms.{rendered_below, cast_tokens, leaf_tokens, form_tokens, form_of}
use Rattle.render.proofs.Formed.{below_past, below_in, below_all, form_is, use_form_lem}
use Rattle.render.proofs.Valued.{use_value_lem, use_named}

pub stays : (k b : List ℕ) (o : Out) (ps : List Token) → o.full ≡ true → seen (room_of k b o) ≡ seen (emit_all (room_of k b o) ps)
unfolding is_full
stays k b o ps e = full_stays (room_of k b o) ps e

-- ---- the form's own pieces and its children's
parted : (top : Bool) (a b : List Token) (o : Token) → piece_if (not top) (punct (txt "(")) ++ (a ++ ((o ∷ []) ++ (b ++ piece_if (not top) (punct (txt ")"))))) ≡ nested top (a ++ (o ∷ b))
unfolding piece_if nested
parted true a b o = ap (λ (l : List Token). a ++ (o ∷ l)) (append-nil b)
parted false a b o = ap (λ (l : List Token). punct (txt "(") ∷ l) (sym (append_assoc a (o ∷ b) (punct (txt ")") ∷ [])))

module _ (f : List ℕ) (t pos n : ℕ) where
  -- the child x is written from one room to the next
  abbrev Child : Bool → ℕ → Room → Room → Type 0
  Child top x r₀ r₁ = (E : Edition) → text E ≡ t → seen r₁ ≡ seen (emit_all r₀ (rendered_below E f pos n top x))

  pub binary_is : (r₅ r₄ r₃ r₂ r₁ r₀ : Room) (top : Bool) (s : BinS) → r₁ ≡ emit_all r₀ (piece_if (not top) (punct (txt "("))) → Child false s.left r₁ r₂
      → ((E : Edition) → text E ≡ t → seen r₃ ≡ seen (emit_all r₂ (operator (text_at E f s.op.start s.op.len) ∷ [])))
      → Child false s.right r₃ r₄ → r₅ ≡ emit_all r₄ (piece_if (not top) (punct (txt ")")))
      → (E : Edition) → text E ≡ t → seen r₅ ≡ seen (emit_all r₀ (form_tokens E f pos n top (Bin s)))
  unfolding form_tokens
  binary_is r₅ r₄ r₃ r₂ r₁ r₀ top s a b o d e E z =
      more r₅ r₁ r₀ _ _ (ap seen a) (more r₅ r₂ r₁ _ _ (b E z) (more r₅ r₃ r₂ _ _ (o E z) (more r₅ r₄ r₃ _ _ (d E z) (ap seen e))))
      ∙ ap (λ (ts : List Token). seen (emit_all r₀ ts)) (parted top (rendered_below E f pos n false s.left) (rendered_below E f pos n false s.right) (operator (text_at E f s.op.start s.op.len)))

  pub unary_is : (r₂ r₁ r₀ : Room) (top : Bool) (s : UnS) → r₁ ≡ emit r₀ (tok 6 (part f (offset f t + s.op.start) s.op.len)) → Child false s.child r₁ r₂
      → (E : Edition) → text E ≡ t → seen r₂ ≡ seen (emit_all r₀ (form_tokens E f pos n top (Un s)))
  unfolding form_tokens text_at
  unary_is r₂ r₁ r₀ top s a b E z = rw z (next r₂ r₀ _ _ a (b E z))

  pub through_is : (r₃ r₂ r₁ r₀ : Room) (top : Bool) (s : LoadS) → seen r₁ ≡ seen (emit_all r₀ (cast_tokens s.size)) → Child true s.child r₁ r₂
      → r₃ ≡ emit r₂ (punct (txt ")"))
      → (E : Edition) → text E ≡ t → seen r₃ ≡ seen (emit_all r₀ (form_tokens E f pos n top (Through s)))
  unfolding form_tokens cast_tokens through
  through_is r₃ r₂ r₁ r₀ top s a b d E z = more r₃ r₁ r₀ _ _ a (more r₃ r₂ r₁ _ _ (b E z) (one r₃ r₂ _ d))

-- ---- an expression, by its form x
pub below_nothing : (f : List ℕ) (t pos b n : ℕ) (top : Bool) (r₁ r₀ : Room) → b ≤ n → r₁ ≡ emit r₀ (tok 0 [])
    → (E : Edition) → text E ≡ t → seen r₁ ≡ seen (emit_all r₀ (rendered_below E f pos b top n))
below_nothing f t pos b n top r₁ r₀ h e E z = one r₁ r₀ _ e ∙ ap (λ (ts : List Token). seen (emit_all r₀ ts)) (sym (below_past E f pos b n top h))

-- the form of a value is that of a Use node
is_use : (f : List ℕ) (t n : ℕ) (x : Form) → ((E : Edition) → text E ≡ t → x ≡ form_of E f n) → (r : ℕ) → x ≡ Use r → (expr_word f n 0 ≡ 2) × (r ≡ expr_word f n 1)
is_use f t n x is r e = let m = some_edition t in use_form_lem m.0 f n r (sym e ∙ is m.0 m.1)

-- what a node that is below b may count on
module _ (f : List ℕ) (b n : ℕ) (inside : b ≤ size f expressions) (low : n < b) where
  pub below_within : n ≤ size f expressions
  below_within = omega arith

  module _ (numbers : List ℕ) (P : Places) (g : Ground f numbers P) where
    pub below_place : P.exprs + n < length numbers
    below_place = expr_inside f numbers P g n (omega arith)

    pub below_named : (t : ℕ) (x : Form) → ((E : Edition) → text E ≡ t → x ≡ form_of E f n) → (r : ℕ) → x ≡ Use r
        → ((k : ℕ) → Fits w8 (get_or f k 0)) → NamedAt f (length numbers) (P.exprs + n) r
    below_named t x is r e bytes = let u = is_use f t n x is r e in use_named f numbers P g bytes n (omega arith) u.0 r u.1

module _ (f : List ℕ) (t pos b n : ℕ) (top : Bool) (inside : b ≤ size f expressions) (low : n < b) (x : Form)
    (is : (E : Edition) → text E ≡ t → x ≡ form_of E f n) where
  module _ (r₁ r₀ : Room) where
    -- it is written where its form is
    abbrev Written : Type 0
    Written = (E : Edition) → text E ≡ t → seen r₁ ≡ seen (emit_all r₀ (rendered_below E f pos b top n))

    pub below_form : (y : Form) → x ≡ y → ((E : Edition) → text E ≡ t → seen r₁ ≡ seen (emit_all r₀ (form_tokens E f pos n top y))) → Written
    below_form y e w E z =
        w E z
        ∙ ap (λ (ts : List Token). seen (emit_all r₀ ts))
        (ap (form_tokens E f pos n top) (sym e ∙ is E z) ∙ sym (below_in E f pos b n top low ∙ form_is E f pos n (omega arith) top))

    pub below_leaf : (l : LeafS) → x ≡ Leaf l → ((E : Edition) → text E ≡ t → seen r₁ ≡ seen (emit_all r₀ (leaf_tokens E f l))) → Written
    unfolding form_tokens
    below_leaf l e w = below_form (Leaf l) e w

  -- a value, which stands at its own place
  pub below_use : (r : ℕ) → x ≡ Use r → (numbers : List ℕ) (P : Places) → Ground f numbers P → ((k : ℕ) → Fits w8 (get_or f k 0)) → (r₁ r₀ : Room)
      → ((E : Edition) → text E ≡ t → seen r₁ ≡ seen (emit_all r₀ (used E f pos top (value_of (at (keyed f (length numbers)) (P.exprs + n))))))
      → Written r₁ r₀
  unfolding form_tokens
  below_use r e numbers P g bytes r₁ r₀ w =
      let u = is_use f t n x is r e in
      let own : value_of (at (keyed f (length numbers)) (P.exprs + n)) ≡ value r (expr_word f n 2) =
      use_value_lem f numbers P g bytes n (omega arith) u.0 ∙ rw u.1 in
      below_form r₁ r₀ (Use r) e (λ E z. w E z ∙ ap (λ (v : Value). seen (emit_all r₀ (used E f pos top v))) own)

-- ---- all expressions are below their number
pub expr_is : (f : List ℕ) (t pos b n : ℕ) (top : Bool) (r₁ r₀ : Room) → b ≡ size f expressions
    → ((E : Edition) → text E ≡ t → seen r₁ ≡ seen (emit_all r₀ (rendered_below E f pos b top n)))
    → (E : Edition) → text E ≡ t → seen r₁ ≡ seen (emit_all r₀ (rendered E f pos top n))
expr_is f t pos b n top r₁ r₀ e w E z = w E z ∙ ap (λ (ts : List Token). seen (emit_all r₀ ts)) (rw e (below_all E f pos n top))
