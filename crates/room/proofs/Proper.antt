-- Lines that are merged, of tokens whose kinds are below 8: no token joins the one behind it. `line` of the definition makes such lines.
use mathlib.Core.Path.{◌≡◌, sym, ap, subst, ◌∙◌}
use mathlib.Core.Bool.{false}
use mathlib.Core.Option.{Option}
use mathlib.Core.List.{List, [], ◌∷◌, ◌++◌, append-nil}
use Prim.Native.Nat.{ℕ, ◌<◌, ◌≤◌}
use native.Mathlib.Omega.{arith}
use lib.ListN.{length}
use Rattle.definition.specs.Tokens.{Token, Line, joins, join, merge, line}
use Rattle.definition.proofs.Bools.{by_test}
use Rattle.definition.proofs.ListLaws.{Each, ◌▸◌}
use Rattle.definition.proofs.Merge.{each_merge, merge_again, merge_length}

-- a kind that a token's number can tell
abbrev pub Kind8 : Token → Type 0
Kind8 t = t.kind < 8

pub record Proper (x : Line) : Type 0 where
  pub once : merge x.toks ≡ x.toks
  pub kinds : Each Kind8 x.toks

-- ---- merging keeps kinds, and is done once
pub merge_once : (ts : List Token) → merge (merge ts) ≡ merge ts
merge_once ts = ap merge (sym (append-nil (merge ts))) ∙ merge_again ts [] ∙ ap merge (append-nil ts)

pub line_proper : (n : ℕ) (a : Option ℕ) {ts : List Token} → Each Kind8 ts → Proper (line n a ts)
unfolding line
line_proper n a {ts} h = record { once = merge_once ts; kinds = each_merge (λ t u j k. k) h }

-- ---- no two neighbours join
pub data Apart : List Token → Type 0 where
  empty : Apart []
  alone : {p : Token} → p.kind < 8 → Apart (p ∷ [])
  apart : {p q : Token} {ps : List Token} → p.kind < 8 → joins p q ≡ false → Apart (q ∷ ps) → Apart (p ∷ q ∷ ps)

abbrev behind : List Token → List Token
behind [] = []
behind (t ∷ ts) = ts

-- it does not join the first of these
abbrev Free : Token → List Token → Type 0
Free t [] = Unit
Free t (u ∷ us) = joins t u ≡ false

shorter : (ts : List Token) → length (merge ts) ≤ length ts
unfolding merge
shorter ts = let q : length (merge (ts ++ [])) ≤ length ts = omega (arith, merge_length ts []) in rw append-nil at q

-- a token in front of no fewer tokens stayed, so it did not join
free : (t : Token) (ts ms : List Token) → length ms ≤ length ts → join t ms ≡ t ∷ ts → (ms ≡ ts) × Free t ts
unfolding join
free t ts [] h e = let z : [] ≡ ts = ap behind e in (z, subst (Free t) z tt)
free t ts (v ∷ vs) h e =
    by_test (joins t v)
    (λ j. let z : vs ≡ ts = ap behind (rw j at e) in absurd (omega (arith, ap length z)))
    (λ j. let z : v ∷ vs ≡ ts = ap behind (rw j at e) in (z, subst (Free t) z j))

pub is_apart : (ts : List Token) → Each Kind8 ts → merge ts ≡ ts → Apart ts
unfolding merge
is_apart [] h e = empty
is_apart (t ∷ []) (h ▸ k) e = alone h
is_apart (t ∷ u ∷ us) (h ▸ k) e =
    let f = free t (u ∷ us) (merge (u ∷ us)) (shorter (u ∷ us)) e in
    apart h f.1 (is_apart (u ∷ us) k f.0)
