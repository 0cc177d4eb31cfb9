-- A Punct among other tokens, merged, takes in the Punct texts beside it, and the tokens further off do not depend on it.
-- So a walk over what stands before it, its own text and what stands behind it is the walk over the tokens as they were.
use mathlib.Core.Path.{◌≡◌, refl, sym, ap, ◌∙◌}
use mathlib.Core.Bool.{cond}
use mathlib.Core.List.{List, [], ◌∷◌, ◌++◌, append-nil, append_assoc}
use Prim.Native.Nat.{ℕ}
use borrow.Author.Tests.{eqb-true}
use lib.Dec.{eqb}
use Rattle.definition.specs.Tokens.{Token, punct, joins, join, merge}
use Rattle.definition.proofs.Bools.{eqb_swap, by_test}
use Rattle.definition.proofs.Merge.{join_further}
use Rattle.definition.proofs.Calm.{Depth, bytes, pass, walk, walk_append, walk_merge}

-- tokens before a Punct, merged: those that stay before it, and the text that it takes in
pub record Before : Type 0 where
  pub front : List Token
  pub tail : List ℕ

before_by : Token → List Token → List ℕ → Before
before_by t [] u = cond (eqb t.kind 6) (record { front = []; tail = t.text ++ u }) (record { front = t ∷ []; tail = u })
before_by t (f ∷ fs) u = record { front = join t (f ∷ fs); tail = u }

pub before : List Token → Before
before [] = record { front = []; tail = [] }
before (t ∷ ts) = before_by t (before ts).front (before ts).tail

-- and behind it, of tokens merged already
unfoldable pub lead : List Token → List ℕ
lead [] = []
lead (t ∷ ts) = cond (eqb t.kind 6) t.text []

unfoldable pub rest : List Token → List Token
rest [] = []
rest (t ∷ ts) = cond (eqb t.kind 6) ts (t ∷ ts)

join_before : (t : Token) (f : List Token) (u z : List ℕ) (zs : List Token)
    → join t (f ++ (punct (u ++ z) ∷ zs)) ≡ (before_by t f u).front ++ (punct ((before_by t f u).tail ++ z) ∷ zs)
unfolding join joins before_by
join_before t [] u z zs = by_test (eqb t.kind 6) (λ h. let k = eqb-true t.kind 6 h in rw (h, k, append_assoc t.text u z)) (λ h. rw h)
join_before t (f ∷ fs) u z zs = join_further t f fs (punct (u ++ z) ∷ zs)

pub merge_before : (L Z : List Token) (z : List ℕ) (zs : List Token) → merge Z ≡ punct z ∷ zs
    → merge (L ++ Z) ≡ (before L).front ++ (punct ((before L).tail ++ z) ∷ zs)
unfolding merge before
merge_before [] Z z zs e = e
merge_before (t ∷ L) Z z zs e = ap (join t) (merge_before L Z z zs e) ∙ join_before t (before L).front (before L).tail z zs

pub join_behind : (s : List ℕ) (N : List Token) → join (punct s) N ≡ punct (s ++ lead N) ∷ rest N
unfolding join joins lead rest
join_behind s [] = rw append-nil
join_behind s (t ∷ ts) = by_test (eqb t.kind 6) (λ h. rw (eqb_swap 6 t.kind, h)) (λ h. rw (eqb_swap 6 t.kind, h, append-nil s))

pub merge_around : (L R : List Token) (s : List ℕ)
    → merge (L ++ (punct s ∷ R)) ≡ (before L).front ++ (punct ((before L).tail ++ (s ++ lead (merge R))) ∷ rest (merge R))
unfolding merge
merge_around L R s = merge_before L (punct s ∷ R) (s ++ lead (merge R)) (rest (merge R)) (join_behind s (merge R))

-- ---- the walk over the parts is the walk over the whole
pub walk_before : (s : Depth) (L : List Token) → bytes (walk s (before L).front) (before L).tail ≡ walk s L
unfolding walk pass bytes merge join
walk_before s L =
    let F = (before L).front in
    let u = (before L).tail in
    let e : merge (L ++ (punct [] ∷ [])) ≡ F ++ (punct u ∷ []) = rw append-nil at (merge_before L (punct [] ∷ []) [] [] refl) in
    sym (walk_append s F (punct u ∷ [])) ∙ ap (walk s) (sym e) ∙ walk_merge s (L ++ (punct [] ∷ [])) ∙ walk_append s L (punct [] ∷ [])

pub walk_behind : (s : Depth) (R : List Token) → walk (bytes s (lead (merge R))) (rest (merge R)) ≡ walk s R
unfolding walk pass bytes merge
walk_behind s R = ap (walk s) (sym (join_behind [] (merge R))) ∙ walk_merge s (punct [] ∷ R)
