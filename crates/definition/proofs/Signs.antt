-- What `negate` makes of the text around a sign. Each sign is a word between two spaces, with a `<`, `=` or `>` in it; so in a text that has
-- none of these but in the sign, no other sign stands, and flipping changes the sign and nothing else.
use mathlib.Core.Path.{◌≡◌, refl, sym, ap, ◌∙◌}
use mathlib.Core.Bool.{Bool, true, false, ◌&&◌, false≢true, and-false, or-false}
use mathlib.Core.List.{List, [], ◌∷◌, ◌++◌, map, append-nil, append_assoc}
use Prim.Native.Nat.{ℕ}
use borrow.Author.Tests.{ne_eqb}
use lib.Dec.{eqb, leb}
use lib.Seq.{drop-append_seam}
use Rattle.definition.specs.Texts.{txt, same, begins, contains, replace}
use Rattle.definition.specs.Lists.{any}
use Rattle.definition.specs.Condition.{Sign, sign_text}
use Rattle.definition.specs.Condition.Sign.{equal, unequal, under, not_under, over, not_over}
use Rattle.definition.specs.Intel.{opposite}
use Rattle.definition.specs.Negate.{Flip, flips, flip_in, compares}
use Rattle.definition.proofs.Bools.{both_false, eqb_swap, by_test}
use Rattle.definition.proofs.TextLaws.{same_eq, begins_self}

-- ---- the table
unfoldable pub signs : List Sign
signs = equal ∷ unequal ∷ under ∷ not_under ∷ over ∷ not_over ∷ []

abbrev pub pair : Sign → Flip
pair o = record { from = sign_text o; to = sign_text (opposite o) }

-- `flips` has each sign with its opposite, and the opposite of the opposite is the sign
pub flips_are : flips ≡ map pair signs
unfolding flips signs sign_text opposite
flips_are = refl

pub opposite_twice : map (λ o. opposite (opposite o)) signs ≡ signs
unfolding signs opposite
opposite_twice = refl

-- ---- a sign: a word between spaces
-- `<`, `=`, `>`
unfoldable pub sharp : ℕ → Bool
sharp b = leb 60 b && leb b 62

abbrev pub Dull : List ℕ → Type 0
Dull s = any sharp s ≡ false

abbrev spaced : List ℕ → List ℕ
spaced k = 32 ∷ (k ++ (32 ∷ []))

record Word (k : List ℕ) : Type 0 where
  spaceless : any (eqb 32) k ≡ false
  pointed : any sharp k ≡ true

inner : Sign → List ℕ
inner equal = txt "=="
inner unequal = txt "!="
inner under = txt "<"
inner not_under = txt ">="
inner over = txt ">"
inner not_over = txt "<="

sign_is : (o : Sign) → sign_text o ≡ spaced (inner o)
unfolding sign_text inner
sign_is equal = refl
sign_is unequal = refl
sign_is under = refl
sign_is not_under = refl
sign_is over = refl
sign_is not_over = refl

word : (o : Sign) → Word (inner o)
unfolding inner any sharp
word equal = record { spaceless = refl; pointed = refl }
word unequal = record { spaceless = refl; pointed = refl }
word under = record { spaceless = refl; pointed = refl }
word not_under = record { spaceless = refl; pointed = refl }
word over = record { spaceless = refl; pointed = refl }
word not_over = record { spaceless = refl; pointed = refl }

-- ---- texts without a sign
pub sharp_apart : (x y : ℕ) → sharp x ≡ true → sharp y ≡ false → x ≡ y → ⊥
sharp_apart x y p q r = false≢true (sym q ∙ ap sharp (sym r) ∙ p)

-- what follows a text: nothing, or a space
abbrev Stops : List ℕ → Type 0
Stops z = (c : ℕ) (k : List ℕ) → eqb 32 c ≡ false → begins (c ∷ k) z ≡ false

stops_end : Stops []
unfolding begins
stops_end c k h = refl

stops_space : (z : List ℕ) → Stops (32 ∷ z)
unfolding begins
stops_space z c k h = rw (eqb_swap c 32, h)

-- no sign's word begins in a dull text
misses : (k r z : List ℕ) → any (eqb 32) k ≡ false → any sharp k ≡ true → Dull r → Stops z → begins (k ++ (32 ∷ [])) (r ++ z) ≡ false
unfolding begins any
misses [] r z n h d st = absurd (false≢true h)
misses (a ∷ k) [] z n h d st = st a (k ++ (32 ∷ [])) (both_false (eqb 32 a) (any (eqb 32) k) n).0
misses (a ∷ k) (b ∷ r) z n h d st =
    let d₂ = both_false (sharp b) (any sharp r) d in
    let i : any sharp k ≡ true → begins (k ++ (32 ∷ [])) (r ++ z) ≡ false = λ q. misses k r z (both_false (eqb 32 a) (any (eqb 32) k) n).1 q d₂.1 st in
    by_test (sharp a) (λ q. rw (ne_eqb a b (sharp_apart a b q d₂.0))) (λ q. rw (i (rw q at h)) (and-false (eqb a b)))

begins_word : (k m v : List ℕ) → any (eqb 32) k ≡ false → any (eqb 32) m ≡ false → begins (k ++ (32 ∷ [])) (m ++ (32 ∷ v)) ≡ same k m
unfolding begins same any
begins_word [] [] v p q = refl
begins_word [] (b ∷ m) v p q = rw (both_false (eqb 32 b) (any (eqb 32) m) q).0
begins_word (a ∷ k) [] v p q = stops_space v a (k ++ (32 ∷ [])) (both_false (eqb 32 a) (any (eqb 32) k) p).0
begins_word (a ∷ k) (b ∷ m) v p q =
    ap (λ (t : Bool). eqb a b && t) (begins_word k m v (both_false (eqb 32 a) (any (eqb 32) k) p).1 (both_false (eqb 32 b) (any (eqb 32) m) q).1)

module _ (k : List ℕ) (W : Word k) where
  begins_dull : (v : List ℕ) → Dull v → begins (k ++ (32 ∷ [])) v ≡ false
  begins_dull v d = rw append-nil at (misses k v [] W.spaceless W.pointed d stops_end)

  contains_dull : (v : List ℕ) → Dull v → contains (spaced k) v ≡ false
  unfolding contains begins any
  contains_dull [] d = refl
  contains_dull (b ∷ v) d =
      let d₂ = both_false (sharp b) (any sharp v) d in
      rw (begins_dull v d₂.1, and-false (eqb 32 b)) (contains_dull v d₂.1)

  -- behind the space of another word
  contains_word : (m v : List ℕ) → any (eqb 32) m ≡ false → Dull v → contains (spaced k) (m ++ (32 ∷ v)) ≡ false
  unfolding contains begins any
  contains_word [] v n d = rw (begins_dull v d) (contains_dull v d)
  contains_word (b ∷ m) v n d =
      let n₂ = both_false (eqb 32 b) (any (eqb 32) m) n in
      rw n₂.0 (contains_word m v n₂.1 d)

  contains_sign : (u m v : List ℕ) → Dull u → any (eqb 32) m ≡ false → Dull v → contains (spaced k) (u ++ (32 ∷ (m ++ (32 ∷ v)))) ≡ same k m
  unfolding contains begins any
  contains_sign [] m v du n dv = rw (begins_word k m v W.spaceless n, contains_word m v n dv) (or-false (same k m))
  contains_sign (b ∷ u) m v du n dv =
      let d₂ = both_false (sharp b) (any sharp u) du in
      rw (misses k u (32 ∷ (m ++ (32 ∷ v))) W.spaceless W.pointed d₂.1 (stops_space (m ++ (32 ∷ v))), and-false (eqb 32 b))
      (contains_sign u m v d₂.1 n dv)

  replace_sign : (u v t : List ℕ) → Dull u → replace (spaced k) t (u ++ (spaced k ++ v)) ≡ u ++ (t ++ v)
  unfolding replace begins any
  replace_sign [] v t d = rw (begins_self (k ++ (32 ∷ [])) v, drop-append_seam (k ++ (32 ∷ [])) v)
  replace_sign (b ∷ u) v t d =
      let d₂ = both_false (sharp b) (any sharp u) d in
      let z = (k ++ (32 ∷ [])) ++ v in
      rw (misses k u (32 ∷ z) W.spaceless W.pointed d₂.1 (stops_space z), and-false (eqb 32 b)) (ap (λ (s : List ℕ). b ∷ s) (replace_sign u v t d₂.1))

-- ---- a sign in a dull text
module _ (u v : List ℕ) (du : Dull u) (dv : Dull v) (o : Sign) where
  -- it is the only sign there
  contains_around : (q : Sign) → contains (sign_text q) (u ++ (sign_text o ++ v)) ≡ same (inner q) (inner o)
  contains_around q =
      rw (sign_is q, sign_is o, append_assoc (inner o) (32 ∷ []) v)
      (contains_sign (inner q) (word q) u (inner o) v du (word o).spaceless dv)

  replace_around : (q : Sign) (t : List ℕ) → same (inner q) (inner o) ≡ true → replace (sign_text q) t (u ++ (sign_text o ++ v)) ≡ u ++ (t ++ v)
  replace_around q t h = rw (sign_is q, sign_is o, ← same_eq (inner q) (inner o) h) (replace_sign (inner q) (word q) u v t du)

  compares_around : (os : List Sign) → any (λ p. contains p.from (u ++ (sign_text o ++ v))) (map pair os) ≡ any (λ q. same (inner q) (inner o)) os
  unfolding any
  compares_around [] = refl
  compares_around (q ∷ os) = rw (contains_around q, compares_around os)

module _ (o : Sign) where
  flip_around : (u v : List ℕ) → Dull u → Dull v → (os : List Sign)
      → flip_in (map pair os) (u ++ (sign_text o ++ v)) ≡ u ++ (flip_in (map pair os) (sign_text o) ++ v)
  unfolding flip_in any
  flip_around u v du dv [] = refl
  flip_around u v du dv (q ∷ os) = go (same (inner q) (inner o)) refl (flip_around u v du dv os)
    where
      alone : contains (sign_text q) (sign_text o) ≡ same (inner q) (inner o)
      alone = rw append-nil at (contains_around [] [] refl refl o q)

      go : (t : Bool) → same (inner q) (inner o) ≡ t
          → flip_in (map pair os) (u ++ (sign_text o ++ v)) ≡ u ++ (flip_in (map pair os) (sign_text o) ++ v)
          → flip_in (map pair (q ∷ os)) (u ++ (sign_text o ++ v)) ≡ u ++ (flip_in (map pair (q ∷ os)) (sign_text o) ++ v)
      go true h ih =
          let r : replace (sign_text q) (sign_text (opposite q)) (sign_text o) ≡ sign_text (opposite q) =
          simp append-nil at (replace_around [] [] refl refl o q (sign_text (opposite q)) h) in
          rw (contains_around u v du dv o q, alone, h, r) (replace_around u v du dv o q (sign_text (opposite q)) h)
      go false h ih = rw (contains_around u v du dv o q, alone, h) ih

-- ---- what `negate` finds and writes
pub compares_dull : (s : List ℕ) → Dull s → compares s ≡ false
unfolding compares any
compares_dull s d = rw flips_are (go signs)
  where
    none : (q : Sign) → contains (sign_text q) s ≡ false
    none q = rw (sign_is q) (contains_dull (inner q) (word q) s d)

    go : (os : List Sign) → any (λ p. contains p.from s) (map pair os) ≡ false
    go [] = refl
    go (q ∷ os) = rw (none q) (go os)

pub compares_own : (o : Sign) (u v : List ℕ) → Dull u → Dull v → compares (u ++ (sign_text o ++ v)) ≡ true
unfolding compares any same inner signs
compares_own o u v du dv = rw (flips_are, compares_around u v du dv o signs) (own o)
  where
    own : (o : Sign) → any (λ q. same (inner q) (inner o)) signs ≡ true
    own equal = refl
    own unequal = refl
    own under = refl
    own not_under = refl
    own over = refl
    own not_over = refl

flip_sign : (o : Sign) → flip_in (map pair signs) (sign_text o) ≡ sign_text (opposite o)
unfolding flip_in contains begins replace signs sign_text opposite
flip_sign equal = refl
flip_sign unequal = refl
flip_sign under = refl
flip_sign not_under = refl
flip_sign over = refl
flip_sign not_over = refl

pub flip_own : (o : Sign) (u v : List ℕ) → Dull u → Dull v → flip_in flips (u ++ (sign_text o ++ v)) ≡ u ++ (sign_text (opposite o) ++ v)
flip_own o u v du dv = rw flips_are (flip_around o u v du dv signs ∙ ap (λ (s : List ℕ). u ++ (s ++ v)) (flip_sign o))
