-- The condition taken out of ` (C) `: a leading ` (` and a trailing `) ` go, so it has no more text than C, no more tokens and no `goto`.
use mathlib.Core.Path.{◌≡◌, refl, sym, ap, ◌∙◌}
use mathlib.Core.Bool.{Bool, not, cond, and-false}
use mathlib.Core.List.{List, [], ◌∷◌, ◌++◌, append_assoc}
use Prim.Native.Nat.{ℕ, zero, suc, ◌+◌, ◌≤◌}
use native.Mathlib.Omega.{arith}
use lib.Dec.{eqb}
use lib.ListN.{length, drop, length-append, length-drop}
use Rattle.definition.specs.Texts.{txt, same, is_empty, begins, shed, trim_start, cut_end}
use Rattle.definition.specs.Lists.{only}
use Rattle.definition.specs.Tokens.{Token, tok, keyword, punct, join, merge}
use Rattle.definition.specs.Sorts.{is_tok}
use Rattle.definition.specs.Negate.{before_goto, trim_first, cut_last}
use Rattle.definition.proofs.Bools.{by_cond}
use Rattle.definition.proofs.TextLaws.{cut_end_lem}
use Rattle.definition.proofs.ListLaws.{◌▸◌, end}
use Rattle.definition.proofs.Merge.{size, NoGoto, no_keyword, by_join, size_cons}

-- ---- before the `goto`
pub before_goto_lem : {m : List Token} (r : List Token) → NoGoto m → before_goto (m ++ keyword (txt "goto") ∷ r) ≡ m
unfolding before_goto is_tok same
before_goto_lem r end = refl
before_goto_lem r (◌▸◌ {x = t} {xs = m} c h) =
    ap (λ (b : Bool). cond b [] (t ∷ before_goto (m ++ keyword (txt "goto") ∷ r))) c ∙ ap (λ (l : List Token). t ∷ l) (before_goto_lem r h)

-- ---- the two ends
abbrev pub Starts : List Token → Type 0
Starts [] = ⊥
Starts (t ∷ ts) = (t.kind ≡ 6) × ((r : List ℕ) × (t.text ≡ txt " (" ++ r))

abbrev pub Finishes : List Token → Type 0
Finishes [] = ⊥
Finishes (t ∷ []) = (t.kind ≡ 6) × ((r : List ℕ) × (t.text ≡ r ++ txt ") "))
Finishes (t ∷ u ∷ us) = Finishes (u ∷ us)

pub starts_join : (us : List Token) → Starts (join (punct (txt " (")) us)
unfolding join
starts_join [] = (refl, ([], refl))
starts_join (u ∷ us) = by_join Starts (punct (txt " (")) u us (λ j. (refl, (u.text, refl))) (refl, ([], refl))

ends_join : (t : Token) (us : List Token) → Finishes us → Finishes (join t us)
ends_join t [] h = absurd h
ends_join t (u ∷ []) h =
    by_join Finishes t u [] (λ j. (j.alike ∙ h.0, (t.text ++ h.1.0, ap (λ (z : List ℕ). t.text ++ z) h.1.1 ∙ sym (append_assoc t.text h.1.0 (txt ") "))))) h
ends_join t (u ∷ v ∷ vs) h = by_join Finishes t u (v ∷ vs) (λ j. h) h

pub ends_merge : (xs : List Token) → Finishes (merge (xs ++ (punct (txt ") ") ∷ [])))
unfolding merge join
ends_merge [] = (refl, ([], refl))
ends_merge (x ∷ xs) = ends_join x (merge (xs ++ (punct (txt ") ") ∷ []))) (ends_merge xs)

-- ---- the texts cut
shed_ends : (n : ℕ) (x : List ℕ) → (y : List ℕ) × (shed n (txt " (") (x ++ txt ") ") ≡ y ++ txt ") ")
unfolding shed begins
shed_ends zero x = (x, refl)
shed_ends (suc n) [] = ([], refl)
shed_ends (suc n) (a ∷ []) = (a ∷ [], ap (λ (b : Bool). cond b (shed n (txt " (") (txt " ")) (a ∷ txt ") ")) (and-false (eqb 32 a)))
shed_ends (suc n) (a ∷ b ∷ r) =
    let i = shed_ends n r in
    by_cond (λ z. (y : List ℕ) × (z ≡ y ++ txt ") ")) (begins (txt " (") (a ∷ b ∷ (r ++ txt ") "))) (λ e. i) (λ e. (a ∷ b ∷ r, refl))

shed_length : (n : ℕ) (w s : List ℕ) → length (shed n w s) ≤ length s
unfolding shed
shed_length zero w s = omega arith
shed_length (suc n) w s =
    by_cond (λ z. length z ≤ length s) (begins w s) {x = shed n w (drop (length w) s)}
    (λ e. omega (arith, shed_length n w (drop (length w) s), length-drop (length w) s)) (λ e. omega arith)

-- ---- the tokens cut
pub ends_trim : (m : List Token) → Finishes m → Finishes (trim_first m)
unfolding trim_first trim_start
ends_trim [] h = h
ends_trim (t ∷ []) h =
    let y = shed_ends (length t.text) h.1.0 in
    (h.0, (y.0, ap (shed (length t.text) (txt " (")) h.1.1 ∙ y.1))
ends_trim (t ∷ u ∷ us) h = h

pub trim_size : (m : List Token) → Starts m → size (trim_first m) + 2 ≤ size m
unfolding trim_first trim_start shed begins
trim_size [] h = absurd h
trim_size (t ∷ ts) h =
    let r = h.1.0 in
    let e : length (trim_start (txt " (") t.text) ≡ length (shed (suc (length r)) (txt " (") r) = ap (λ (z : List ℕ). length (trim_start (txt " (") z)) h.1.1 in
    omega (arith, size_cons (tok t.kind (trim_start (txt " (") t.text)) ts, size_cons t ts, ap length h.1.1, shed_length (suc (length r)) (txt " (") r)

pub cut_size : (m : List Token) → Finishes m → size (cut_last m) + 2 ≡ size m
unfolding cut_last
cut_size [] h = absurd h
cut_size (t ∷ []) h =
    let r = h.1.0 in
    omega (
      arith,
      size_cons (tok t.kind (cut_end (txt ") ") t.text)) [],
      size_cons t [],
      ap (λ (z : List ℕ). length (cut_end (txt ") ") z)) h.1.1,
      ap length (cut_end_lem 41 (32 ∷ []) r),
      ap length h.1.1,
      length-append r (txt ") "),
    )
cut_size (t ∷ u ∷ us) h = omega (arith, size_cons t (cut_last (u ∷ us)), size_cons t (u ∷ us), cut_size (u ∷ us) h)

pub trim_length : (m : List Token) → length (trim_first m) ≡ length m
unfolding trim_first
trim_length [] = refl
trim_length (t ∷ ts) = refl

pub cut_length : (m : List Token) → length (cut_last m) ≡ length m
unfolding cut_last
cut_length [] = refl
cut_length (t ∷ []) = refl
cut_length (t ∷ u ∷ us) = ap suc (cut_length (u ∷ us))

pub trim_nogoto : (m : List Token) → Starts m → NoGoto m → NoGoto (trim_first m)
unfolding trim_first
trim_nogoto [] h k = k
trim_nogoto (t ∷ ts) h (c ▸ k) = no_keyword _ (ap (λ (n : ℕ). eqb n 3) h.0) ▸ k

pub cut_nogoto : (m : List Token) → Finishes m → NoGoto m → NoGoto (cut_last m)
unfolding cut_last
cut_nogoto [] h k = k
cut_nogoto (t ∷ []) h k = no_keyword _ (ap (λ (n : ℕ). eqb n 3) h.0) ▸ end
cut_nogoto (t ∷ u ∷ us) h (c ▸ k) = c ▸ cut_nogoto (u ∷ us) h k

-- ---- the tokens with a text
abbrev pub filled : Token → Bool
filled t = not (is_empty t.text)

pub filled_size : (m : List Token) → size (only filled m) ≡ size m
unfolding only is_empty
filled_size [] = refl
filled_size (t ∷ ts) = go t.text refl (filled_size ts)
  where
    go : (x : List ℕ) → t.text ≡ x → size (only filled ts) ≡ size ts → size (cond (not (is_empty x)) (t ∷ only filled ts) (only filled ts)) ≡ size (t ∷ ts)
    go [] e i = omega (arith, size_cons t ts, ap length e)
    go (a ∷ x) e i = omega (arith, size_cons t ts, size_cons t (only filled ts))
