-- What the tests on a line's tokens come to in the buffers: its first tokens stand at its first places, and the recursion of the definition over the
-- tokens ends at the first place that the search finds.
use mathlib.Core.Path.{◌≡◌, refl, sym, ap, ◌∙◌}
use mathlib.Core.Bool.{Bool, true, false, ◌&&◌, and-false, and-true}
use mathlib.Core.Option.{Option, none}
use mathlib.Core.List.{List, [], ◌∷◌}
use Prim.Native.Nat.{ℕ, zero, suc, ◌+◌, ◌-◌, ◌≤◌, ◌<◌}
use native.Mathlib.Decide.{dec_lt}
use native.Mathlib.Omega.{arith}
use borrow.Author.Tests.{eq-eqb, ne_eqb}
use lib.Dec.{eqb}
use Rattle.definition.specs.Texts.{txt, same}
use Rattle.definition.specs.Lists.{range}
use Rattle.definition.specs.Tokens.{Token}
use Rattle.definition.specs.Sorts.{is_tok, first_is, first_text, is_label, first_symbol, goto_target}
use Rattle.definition.proofs.Bools.{by_test}
use Rattle.sheet.specs.Buffers.{kind_at, start_at, end_at, text_at, token_at, tokens_in}
use Rattle.sheet.specs.Ranges.{between}
use Rattle.std.specs.Prelude.{Option as Place, Some, None}
use Rattle.sorts.specs.Places.{found, first_place, goto_at, symbol_at, target_text}
use Rattle.sorts.proofs.Searches.{place_within, found_in, found_out}

module _ (ks t : List ℕ) where
  tokens_none : (a n : ℕ) → n ≡ 0 → tokens_in ks t a n ≡ []
  unfolding tokens_in range
  tokens_none a n z = rw z

  tokens_cons : (a n : ℕ) → tokens_in ks t a (suc n) ≡ token_at ks t a ∷ tokens_in ks t (a + 1) n
  unfolding tokens_in range
  tokens_cons a n = refl

  -- ---- a label
  label_count : (n a : ℕ) → (n ≡ 2 → ⊥) → false ≡ is_label (tokens_in ks t a n)
  unfolding tokens_in range is_label
  label_count zero a h = refl
  label_count (suc zero) a h = refl
  label_count (suc (suc zero)) a h = absurd (h refl)
  label_count (suc (suc (suc n))) a h = refl

  label_two : (n a : ℕ) → n ≡ 2 → is_label (tokens_in ks t a n) ≡ (same (text_at ks t (a + 1)) (txt ":") && eqb (kind_at ks a) 4)
  unfolding tokens_in range is_label token_at
  label_two n a z = rw z

  module _ (a e : ℕ) where
    pub label_none : (e - a ≡ 2 → ⊥) → false ≡ is_label (tokens_in ks t a (e - a))
    label_none h = label_count (e - a) a h

    module _ (z : e - a ≡ 2) (x : ℕ) (k : x ≡ kind_at ks a) where
      pub label_other : (x ≡ 4 → ⊥) → false ≡ is_label (tokens_in ks t a (e - a))
      label_other n = sym (label_two (e - a) a z ∙ rw (← k, ne_eqb x 4 n) (and-false (same (text_at ks t (a + 1)) (txt ":"))))

      pub label_colon : x ≡ 4 → (s f : ℕ) (b : Bool) → s ≡ start_at ks (a + 1) → f ≡ end_at ks (a + 1) → b ≡ same (between t s f) (txt ":")
          → b ≡ is_label (tokens_in ks t a (e - a))
      unfolding text_at between
      label_colon q s f b p r h = sym (label_two (e - a) a z ∙ rw (← k, eq-eqb x 4 q, ← p, ← r, ← h) (and-true b))

    -- ---- the first token
    pub if_none : e ≤ a → (u : Token) → false ≡ first_is u (tokens_in ks t a (e - a))
    unfolding first_is
    if_none h u = sym (ap (first_is u) (tokens_none a (e - a) (omega arith)))

    module _ (h : a < e) where
      tokens_first : tokens_in ks t a (e - a) ≡ token_at ks t a ∷ tokens_in ks t (a + 1) (e - (a + 1))
      tokens_first = let s : e - a ≡ suc (e - (a + 1)) = omega arith in ap (tokens_in ks t a) s ∙ tokens_cons a (e - (a + 1))

      pub if_first : (u : Token) (b : Bool) → b ≡ is_tok u (token_at ks t a) → b ≡ first_is u (tokens_in ks t a (e - a))
      unfolding first_is
      if_first u b q = q ∙ sym (ap (first_is u) tokens_first)

      pub text_first : first_text (tokens_in ks t a (e - a)) ≡ text_at ks t a
      unfolding first_text token_at
      text_first = ap first_text tokens_first

  -- ---- a recursion over the tokens that goes on where a test of their place does not hold
  module _ (f : List Token → Option (List ℕ)) (p : ℕ → Bool) (nil : f [] ≡ none) (on : (a : ℕ) (ts : List Token) → p a ≡ false → f (token_at ks t a ∷ ts) ≡ f ts) where
    seek_none : (n a : ℕ) → a + n ≤ first_place p a n → f (tokens_in ks t a n) ≡ none
    unfolding first_place tokens_in range
    seek_none zero a h = nil
    seek_none (suc n) a h =
        by_test (p a) (λ q. absurd (omega (arith, rw q at h))) (λ q. on a (tokens_in ks t (a + 1) n) q ∙ seek_none n (a + 1) (omega (arith, rw q at h)))

    -- it comes to the place i that the search finds, of those up to b
    seek_some : (n a i b : ℕ) → i ≡ first_place p a n → a + n ≡ b → i < b
        → (p i ≡ true) × (f (tokens_in ks t a n) ≡ f (token_at ks t i ∷ tokens_in ks t (i + 1) (b - (i + 1))))
    unfolding first_place tokens_in range
    seek_some zero a i b e s h = absurd (omega arith)
    seek_some (suc n) a i b e s h =
        let y : b - (a + 1) ≡ n = omega arith in
        by_test (p a) (λ q. let z : i ≡ a = rw q at e in rw (z, y) (q, refl))
        (λ q. let r = seek_some n (a + 1) i b (rw q at e) (omega arith) h in (r.0, on a (tokens_in ks t (a + 1) n) q ∙ r.1))

  symbol_on : (a : ℕ) (ts : List Token) → symbol_at ks a ≡ false → first_symbol (token_at ks t a ∷ ts) ≡ first_symbol ts
  unfolding first_symbol symbol_at token_at
  symbol_on a ts q = rw q

  goto_on : (a : ℕ) (ts : List Token) → goto_at ks t a ≡ false → goto_target (token_at ks t a ∷ ts) ≡ goto_target ts
  unfolding goto_target goto_at
  goto_on a ts q = rw q

  module _ (a e g : ℕ) (at : g ≡ first_place (goto_at ks t) a (e - a)) where
    pub target_none : e ≤ g → target_text ks t None ≡ goto_target (tokens_in ks t a (e - a))
    unfolding target_text goto_target
    target_none h = sym (seek_none goto_target (goto_at ks t) refl goto_on (e - a) a (omega (arith, (place_within (goto_at ks t) (e - a) a).0)))

    module _ (h : g < e) (s : ℕ) (next : s ≡ first_place (symbol_at ks) (g + 1) (e - (g + 1))) where
      behind : goto_target (tokens_in ks t a (e - a)) ≡ first_symbol (tokens_in ks t (g + 1) (e - (g + 1)))
      unfolding goto_target goto_at
      behind =
          let w = (place_within (goto_at ks t) (e - a) a).0 in
          let r = seek_some goto_target (goto_at ks t) refl goto_on (e - a) a g e at (omega arith) h in
          r.1 ∙ rw r.0

      pub target_ended : e ≤ s → target_text ks t None ≡ goto_target (tokens_in ks t a (e - a))
      unfolding target_text first_symbol
      target_ended k = sym (behind ∙ seek_none first_symbol (symbol_at ks) refl symbol_on (e - (g + 1)) (g + 1) (omega arith))

      pub target_at : s < e → target_text ks t (Some s) ≡ goto_target (tokens_in ks t a (e - a))
      unfolding target_text first_symbol symbol_at token_at
      target_at k =
          let r = seek_some first_symbol (symbol_at ks) refl symbol_on (e - (g + 1)) (g + 1) s e next (omega arith) k in
          sym (behind ∙ r.1 ∙ rw r.0)

      pub target_found : (r : Place ℕ) → r ≡ found e s → target_text ks t r ≡ goto_target (tokens_in ks t a (e - a))
      target_found r q = ap (target_text ks t) q ∙ go (dec_lt s e)
        where
          go : Dec (s < e) → target_text ks t (found e s) ≡ goto_target (tokens_in ks t a (e - a))
          go (yes k) = ap (target_text ks t) (found_in e s k) ∙ target_at k
          go (no k) = ap (target_text ks t) (found_out e s (omega arith)) ∙ target_ended (omega arith)
