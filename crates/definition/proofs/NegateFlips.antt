-- What `negate` does to a comparison of calm tokens: it flips the comparison's own sign, or wraps the whole. The sign's token, merged, is the only
-- one that `negate` can mark, since the tokens around it are quiet; it is marked unless a parenthesis opens beside the sign.
use mathlib.Core.Path.{◌≡◌, refl, sym, ap, ap₂, subst⁻¹, ◌∙◌}
use mathlib.Core.Bool.{Bool, true, false, not, cond, ◌&&◌}
use mathlib.Core.List.{List, [], ◌∷◌, ◌++◌, append-nil}
use Prim.Native.Nat.{ℕ, ◌+◌}
use native.Mathlib.Omega.{arith}
use borrow.Author.Tests.{eq-eqb, ne_eqb, eqb-true, eqb-false}
use lib.Dec.{eqb}
use Rattle.definition.specs.Texts.{txt, contains}
use Rattle.definition.specs.Lists.{any, count}
use Rattle.definition.specs.Tokens.{Token, punct, join, merge, text_of}
use Rattle.definition.specs.Condition.{Sign, Side, Shown, sign_text, side_tokens, unsigned_tokens, shown_tokens}
use Rattle.definition.specs.Condition.Sign.{equal, unequal, under, not_under, over, not_over}
use Rattle.definition.specs.Condition.Side.{left, right, difference, both, nought}
use Rattle.definition.specs.Intel.{opposite, flipped}
use Rattle.definition.specs.Negate.{compares, comparisons, flip_at, flippable, negate}
use Rattle.definition.proofs.Bools.{by_test}
use Rattle.definition.proofs.ListLaws.{count_append}
use Rattle.definition.proofs.Merge.{text_merge}
use Rattle.definition.proofs.NegateGrowth.{wrap}
use Rattle.definition.proofs.Signs.{sharp, Dull, compares_own, flip_own}
use Rattle.definition.proofs.Calm.{Depth, cold, hot, lost, cool, byte, bytes, pass, walk, Calm, Live, depth, live_bytes, live_walk, dull_outside, counted, nothing, Quiet, quiet}
use Rattle.definition.proofs.Operands.{word_calm, pair_calm}
use Rattle.definition.proofs.Neighbours.{before, lead, rest, merge_around, walk_before, walk_behind}

-- no parenthesis stays open in the Punct that these tokens, merged, begin with
unfoldable pub shut : List Token → Bool
shut R = eqb (count (eqb 40) (lead (merge R))) (count (eqb 41) (lead (merge R)))

-- ---- counts and marks over lists
count_skip : (A : List Token) (bs : List Bool) → count (λ b. b) (nothing A ++ bs) ≡ count (λ b. b) bs
unfolding count nothing
count_skip [] bs = refl
count_skip (t ∷ A) bs = count_skip A bs

flip_skip : (A Z : List Token) (bs : List Bool) → flip_at (nothing A ++ bs) (A ++ Z) ≡ A ++ flip_at bs Z
unfolding flip_at nothing
flip_skip [] Z bs = refl
flip_skip (t ∷ A) Z bs = ap (λ (ts : List Token). t ∷ ts) (flip_skip A Z bs)

-- a sign has no parentheses
parenless : (o : Sign) → (count (eqb 40) (sign_text o) ≡ 0) × (count (eqb 41) (sign_text o) ≡ 0)
unfolding count sign_text
parenless equal = (refl, refl)
parenless unequal = (refl, refl)
parenless under = (refl, refl)
parenless not_under = (refl, refl)
parenless over = (refl, refl)
parenless not_over = (refl, refl)

-- ---- a sign's token between quiet tokens
outside : (s : Depth) → Live s → depth s ≡ 0 → s ≡ cold 0
unfolding depth
outside (cold d) l h = ap cold h
outside (hot d) l h = absurd (omega arith)
outside lost l h = absurd l

module _ (A : List Token) (u v : List ℕ) (B : List Token) (eu : bytes (walk (cold 0) A) u ≡ cold 0) (eb : walk (bytes (cold 0) v) B ≡ cold 0) where
  -- is the comparison at depth 0 behind its token
  abbrev flat : Bool
  flat = eqb (count (eqb 40) v) (count (eqb 41) v)

  live_front : Live (walk (cold 0) A)
  live_front = live_bytes (walk (cold 0) A) u (subst⁻¹ Live eu tt)

  live_lead : Live (bytes (cold 0) v)
  live_lead = live_walk (bytes (cold 0) v) B (subst⁻¹ Live eb tt)

  -- the depth there is that of the text behind the sign
  level : (n m : ℕ) → n ≡ m → n + count (eqb 40) v ≡ m + count (eqb 41) v + depth (bytes (cold 0) v)
  unfolding depth
  level n m h = counted (cold 0) v n m live_lead (omega arith)

  -- and is 0 only where that has no comparison of its own
  flat_dull : flat ≡ true → Dull v
  flat_dull f =
      let q = eqb-true (count (eqb 40) v) (count (eqb 41) v) f in
      dull_outside (cold 0) v (outside (bytes (cold 0) v) live_lead (omega (arith, level 0 0 refl)))

  module _ (o : Sign) where
    abbrev text : List ℕ
    text = u ++ (sign_text o ++ v)

    mark : (n m : ℕ) → n ≡ m + depth (bytes (cold 0) v) → (eqb n m && compares text) ≡ flat
    mark n m h =
        by_test flat
        (λ f.
        let q = eqb-true (count (eqb 40) v) (count (eqb 41) v) f in
        rw (f, eq-eqb n m (omega (arith, level 0 0 refl)), compares_own o u v (dull_outside (walk (cold 0) A) u eu) (flat_dull f)))
        (λ f. let q = eqb-false (count (eqb 40) v) (count (eqb 41) v) f in rw (f, ne_eqb n m (λ e. q (omega (arith, level 0 0 refl)))))

    text_level : (n m : ℕ) → n ≡ m + depth (walk (cold 0) A) → n + count (eqb 40) text ≡ m + count (eqb 41) text + depth (bytes (cold 0) v)
    unfolding depth
    text_level n m h =
        let k = counted (walk (cold 0) A) u n m (subst⁻¹ Live eu tt) h in
        let z : depth (bytes (walk (cold 0) A) u) ≡ 0 = ap depth eu in
        let e = level (n + count (eqb 40) u) (m + count (eqb 41) u) (omega arith) in
        let s = parenless o in
        rw (count_append (eqb 40) u (sign_text o ++ v), count_append (eqb 41) u (sign_text o ++ v), count_append (eqb 40) (sign_text o) v, count_append (eqb 41) (sign_text o) v)
        (omega arith)

    marks : comparisons 0 0 (A ++ (punct text ∷ B)) ≡ nothing A ++ (flat ∷ nothing B)
    unfolding comparisons depth
    marks = go (quiet A (cold 0) 0 0 live_front refl)
      where
        go : Quiet A (cold 0) 0 0 → comparisons 0 0 (A ++ (punct text ∷ B)) ≡ nothing A ++ (flat ∷ nothing B)
        go Q =
            let n = Q.opened + count (eqb 40) text in
            let m = Q.closed + count (eqb 41) text in
            let h = text_level Q.opened Q.closed Q.level in
            let behind : comparisons n m B ≡ nothing B = simp append-nil at ((quiet B (bytes (cold 0) v) n m (subst⁻¹ Live eb tt) h).marks []) in
            Q.marks (punct text ∷ B) ∙ ap₂ (λ (b : Bool) (bs : List Bool). nothing A ++ (b ∷ bs)) (mark n m h) behind

-- ---- a comparison, from what stands on either side of its sign
module _ (L R : List Token) (l : walk (cold 0) L ≡ cold 0) (r : walk (cold 0) R ≡ cold 0) (o : Sign) where
  abbrev compared : Sign → List Token
  compared q = L ++ (punct (sign_text q) ∷ R)

  tail_ends : bytes (walk (cold 0) (before L).front) (before L).tail ≡ cold 0
  tail_ends = walk_before (cold 0) L ∙ l

  rest_ends : walk (bytes (cold 0) (lead (merge R))) (rest (merge R)) ≡ cold 0
  rest_ends = walk_behind (cold 0) R ∙ r

  compared_marks : comparisons 0 0 (merge (compared o)) ≡ nothing (before L).front ++ (shut R ∷ nothing (rest (merge R)))
  unfolding shut
  compared_marks =
      ap (comparisons 0 0) (merge_around L R (sign_text o))
      ∙ marks (before L).front (before L).tail (lead (merge R)) (rest (merge R)) tail_ends rest_ends o

  sign_flippable : flippable (merge (compared o)) ≡ (shut R && not (contains (txt "&&") (text_of (compared o))) && not (contains (txt "||") (text_of (compared o))))
  unfolding flippable count
  sign_flippable =
      rw (compared_marks, count_skip (before L).front (shut R ∷ nothing (rest (merge R))), once (shut R), text_merge (compared o))
    where
      none : count (λ x. x) (nothing (rest (merge R))) ≡ 0
      none = rw append-nil at (count_skip (rest (merge R)) [])

      once : (b : Bool) → eqb (count (λ x. x) (b ∷ nothing (rest (merge R)))) 1 ≡ b
      once true = rw none
      once false = rw none

  sign_flipped : shut R ≡ true → flip_at (comparisons 0 0 (merge (compared o))) (merge (compared o)) ≡ merge (compared (opposite o))
  unfolding flip_at shut
  sign_flipped f =
      let A = (before L).front in
      let u = (before L).tail in
      let v = lead (merge R) in
      let B = rest (merge R) in
      ap₂ flip_at (compared_marks ∙ ap (λ (b : Bool). nothing A ++ (b ∷ nothing B)) f) (merge_around L R (sign_text o))
      ∙ flip_skip A (punct (u ++ (sign_text o ++ v)) ∷ B) (true ∷ nothing B)
      ∙ ap (λ (s : List ℕ). A ++ (punct s ∷ B)) (flip_own o u v (dull_outside (walk (cold 0) A) u tail_ends) (flat_dull A u v B tail_ends rest_ends f))
      ∙ sym (merge_around L R (sign_text (opposite o)))

  sign_negated : negate (merge (compared o)) ≡ cond (flippable (merge (compared o))) (merge (compared (opposite o))) (wrap (merge (compared o)))
  unfolding negate
  sign_negated =
      by_test (shut R) (λ f. ap (λ (ts : List Token). cond (flippable (merge (compared o))) ts (wrap (merge (compared o)))) (sign_flipped f))
      (λ f. let n : flippable (merge (compared o)) ≡ false = rw (sign_flippable, f) in rw n)

-- ---- the theorem, of calm operands
module _ (X Y : List Token) (calm_x : Calm X) (calm_y : Calm Y) where
  side_ends : (z : Side) → walk (cold 0) (side_tokens X Y z) ≡ cold 0
  unfolding side_tokens walk pass bytes byte sharp cool any
  side_ends left = calm_x (cold 0)
  side_ends right = calm_y (cold 0)
  side_ends difference = pair_calm X Y (txt " - ") calm_x calm_y refl (cold 0)
  side_ends both = pair_calm X Y (txt " & ") calm_x calm_y refl (cold 0)
  side_ends nought = refl

  front_ends : (b : Bool) (z : Side) → walk (cold 0) (unsigned_tokens b ++ side_tokens X Y z) ≡ cold 0
  unfolding unsigned_tokens walk pass cool
  front_ends true z = side_ends z
  front_ends false z = side_ends z

  module _ (p : Shown) where
    -- `negate` flips the comparison's own sign, or wraps it all
    pub negates : negate (merge (shown_tokens X Y p)) ≡ cond (flippable (merge (shown_tokens X Y p))) (merge (shown_tokens X Y (flipped p))) (wrap (merge (shown_tokens X Y p)))
    unfolding shown_tokens flipped
    negates = sign_negated (unsigned_tokens p.unsigned ++ side_tokens X Y p.lhs) (side_tokens X Y p.rhs) (front_ends p.unsigned p.lhs) (side_ends p.rhs) p.sign

    -- it flips where no parenthesis opens beside the sign, and the text has no `&&` and no `||`
    pub flips_when : flippable (merge (shown_tokens X Y p))
        ≡ (shut (side_tokens X Y p.rhs) && not (contains (txt "&&") (text_of (shown_tokens X Y p))) && not (contains (txt "||") (text_of (shown_tokens X Y p))))
    unfolding shown_tokens
    flips_when = sign_flippable (unsigned_tokens p.unsigned ++ side_tokens X Y p.lhs) (side_tokens X Y p.rhs) (front_ends p.unsigned p.lhs) (side_ends p.rhs) p.sign

-- operands of one word each, as registers and numbers are: the sign is flipped wherever the text has no `&&` and no `||`
abbrev pub OneWord : Side → Type 0
OneWord left = Unit
OneWord right = Unit
OneWord difference = ⊥
OneWord both = ⊥
OneWord nought = Unit

module _ (x y : Token) (word_x : eqb x.kind 6 ≡ false) (word_y : eqb y.kind 6 ≡ false) where
  word_shut : (z : Side) → OneWord z → shut (side_tokens (x ∷ []) (y ∷ []) z) ≡ true
  unfolding side_tokens shut merge join lead count
  word_shut left h = rw word_x
  word_shut right h = rw word_y
  word_shut difference h = absurd h
  word_shut both h = absurd h
  word_shut nought h = refl

  pub words_flip : (p : Shown) → OneWord p.rhs → flippable (merge (shown_tokens (x ∷ []) (y ∷ []) p))
      ≡ (not (contains (txt "&&") (text_of (shown_tokens (x ∷ []) (y ∷ []) p))) && not (contains (txt "||") (text_of (shown_tokens (x ∷ []) (y ∷ []) p))))
  words_flip p h = rw (flips_when (x ∷ []) (y ∷ []) (word_calm x word_x) (word_calm y word_y) p, word_shut p.rhs h)
