-- `negate`: flipping puts at most one byte more and changes punctuation only, wrapping puts three bytes.
-- So no `goto` is made, and the head of an if has at most two tokens more than the condition.
use mathlib.Core.Path.{◌≡◌, refl, ap}
use mathlib.Core.Bool.{Bool, true, false, ◌&&◌}
use mathlib.Core.List.{List, [], ◌∷◌, ◌++◌, append_assoc}
use Prim.Native.Nat.{ℕ, suc, ◌+◌, ◌≤◌}
use native.Mathlib.Omega.{arith}
use borrow.Author.Tests.{eqb-true, leb-true}
use lib.Dec.{eqb, leb}
use lib.ListN.{length, drop, length-append, length-drop}
use Rattle.definition.specs.Texts.{txt, begins, contains, replace}
use Rattle.definition.specs.Lists.{all, count}
use Rattle.definition.specs.Tokens.{Token, tok, punct, joins, join, merge, text_of}
use Rattle.definition.specs.Sorts.{is_tok}
use Rattle.definition.specs.Negate.{Flip, flips, flip_in, compares, comparisons, flip_at, flippable, negate}
use Rattle.definition.proofs.Bools.{by_cond}
use Rattle.definition.proofs.TextLaws.{begins_length}
use Rattle.definition.proofs.ListLaws.{Each, each_append, ◌▸◌, end, all_each, each_to}
use Rattle.definition.proofs.Merge.{size, NoGoto, no_keyword, size_cons, size_append, join_length, merge_length, join_two}

-- ---- a text flipped
replace_length : (w v s : List ℕ) → length v ≤ length w + 1 → length (replace w v s) ≤ length s + 1
unfolding replace
replace_length w v [] h = omega arith
replace_length w v (c ∷ s) h =
    let i = replace_length w v s h in
    by_cond (λ z. length z ≤ length (c ∷ s) + 1) (begins w (c ∷ s)) {x = v ++ drop (length w) (c ∷ s)} {y = c ∷ replace w v s}
    (λ e. omega (arith, length-append v (drop (length w) (c ∷ s)), length-drop (length w) (c ∷ s), begins_length w (c ∷ s) e)) (λ e. omega arith)

-- no opposite is longer by more than one byte
abbrev Short : List Flip → Type 0
Short ps = Each (λ p. length p.to ≤ length p.from + 1) ps

flips_short : Short flips
unfolding flips all
flips_short = each_to (λ p. leb-true _ _) (all_each (λ p. leb (length p.to) (length p.from + 1)) flips refl)

flip_in_length : (ps : List Flip) (s : List ℕ) → Short ps → length (flip_in ps s) ≤ length s + 1
unfolding flip_in
flip_in_length [] s h = omega arith
flip_in_length (p ∷ ps) s (q ▸ h) =
    let i = flip_in_length ps s h in
    by_cond (λ (z : List ℕ). length z ≤ length s + 1) (contains p.from s) (λ e. replace_length p.from p.to s q) (λ e. i)

-- ---- tokens flipped
flip_at_size : (bs : List Bool) (ts : List Token) → size (flip_at bs ts) ≤ size ts + 1
unfolding flip_at
flip_at_size [] ts = omega arith
flip_at_size (b ∷ bs) [] = omega arith
flip_at_size (true ∷ bs) (t ∷ ts) = omega (arith, size_cons (tok t.kind (flip_in flips t.text)) ts, size_cons t ts, flip_in_length flips t.text flips_short)
flip_at_size (false ∷ bs) (t ∷ ts) = omega (arith, size_cons t (flip_at bs ts), size_cons t ts, flip_at_size bs ts)

flip_at_length : (bs : List Bool) (ts : List Token) → length (flip_at bs ts) ≡ length ts
unfolding flip_at
flip_at_length [] ts = refl
flip_at_length (b ∷ bs) [] = refl
flip_at_length (true ∷ bs) (t ∷ ts) = refl
flip_at_length (false ∷ bs) (t ∷ ts) = ap suc (flip_at_length bs ts)

-- a flagged token is punctuation
flip_at_nogoto : (ts : List Token) (o c : ℕ) → NoGoto ts → NoGoto (flip_at (comparisons o c ts) ts)
unfolding flip_at comparisons
flip_at_nogoto [] o c h = end
flip_at_nogoto (t ∷ ts) o c (q ▸ h) =
    let o' = o + count (eqb 40) t.text in
    let c' = c + count (eqb 41) t.text in
    let i = flip_at_nogoto ts o' c' h in
    let j = flip_at_nogoto ts o c h in
    by_cond (λ z. NoGoto (flip_at z (t ∷ ts))) (eqb t.kind 6) (λ e. flag (eqb o' c' && compares t.text) (comparisons o' c' ts) e i) (λ e. q ▸ j)
  where
    flag : (f : Bool) (bs : List Bool) → eqb t.kind 6 ≡ true → NoGoto (flip_at bs ts) → NoGoto (flip_at (f ∷ bs) (t ∷ ts))
    flag true bs e i = no_keyword _ (ap (λ (n : ℕ). eqb n 3) (eqb-true t.kind 6 e)) ▸ h
    flag false bs e i = q ▸ i

-- ---- negate
-- all of it between `!(` and `)`
abbrev pub wrap : List Token → List Token
wrap c = punct (txt "!(") ∷ (c ++ (punct (txt ")") ∷ []))

by_negate {ℓ} : (P : List Token → Type ℓ) (c : List Token) → P (flip_at (comparisons 0 0 c) c) → P (wrap c) → P (negate c)
unfolding negate
by_negate P c h k = by_cond P (flippable c) (λ e. h) (λ e. k)

pub negate_nogoto : (c : List Token) → NoGoto c → NoGoto (negate c)
unfolding is_tok
negate_nogoto c h = by_negate NoGoto c (flip_at_nogoto c 0 0 h) (refl ▸ each_append h (refl ▸ end))

pub negate_size : (c : List Token) → size (negate c) ≤ size c + 3
unfolding text_of
negate_size c =
    by_negate (λ z. size z ≤ size c + 3) c (omega (arith, flip_at_size (comparisons 0 0 c) c))
    (omega (arith, size_cons (punct (txt "!(")) (c ++ (punct (txt ")") ∷ [])), size_append c (punct (txt ")") ∷ [])))

-- ` (`, the negation, `) {`
abbrev pub headed : List Token → List Token
headed n = punct (txt " (") ∷ (n ++ (punct (txt ") {") ∷ []))

pub negate_length : (c : List Token) → length (merge (headed (negate c))) ≤ length c + 2
unfolding merge join joins
negate_length c =
    let brace : List Token = punct (txt ") {") ∷ [] in
    let paren : List Token = punct (txt ")") ∷ [] in
    let flipped : List Token = flip_at (comparisons 0 0 c) c in
    by_negate (λ z. length (merge (headed z)) ≤ length c + 2) c
    (omega (arith, join_length (punct (txt " (")) (merge (flipped ++ brace)), merge_length flipped brace, flip_at_length (comparisons 0 0 c) c))
    (omega (
      arith,
      join_two (txt " (") (txt "!(") (merge (c ++ paren ++ brace)),
      ap (λ (l : List Token). length (merge l)) (append_assoc c paren brace),
      merge_length c (paren ++ brace),
    ))
