-- The lines that the passes make of `if (C) goto L;`: the condition they take out of it is C, merged, so that `if (..) {` has the negation of C and
-- `} while (..);` has C itself. Merging puts ` (` and `) ` to the tokens at C's ends, and they are taken off again.
use mathlib.Core.Path.{◌≡◌, refl, sym, ap, ◌∙◌}
use mathlib.Core.Bool.{Bool, true, false, not, cond, ◌&&◌, false≢true}
use mathlib.Core.Option.{Option, some}
use mathlib.Core.Logic.{◌⊎◌, inl, inr}
use mathlib.Core.List.{List, [], ◌∷◌, ◌++◌, append-nil, append_assoc}
use Prim.Native.Nat.{ℕ}
use borrow.Author.Tests.{eqb-true, not-true}
use lib.Dec.{eqb}
use Rattle.definition.specs.Texts.{txt, is_empty, begins, shed, trim_start, cut_end}
use Rattle.definition.specs.Lists.{only, all, given, or_else}
use Rattle.definition.specs.Tokens.{Token, tok, keyword, symbol, punct, joins, join, merge, line, text_of}
use Rattle.definition.specs.Sorts.{is_tok}
use Rattle.definition.specs.Ssa.{Expr, Stmt}
use Rattle.definition.specs.Lookup.{target_name}
use Rattle.definition.specs.Render.{Gen, expr}
use Rattle.definition.specs.Condition.{Code, Shown, shown_tokens, condition}
use Rattle.definition.specs.Lower.{Lowering, Here, fall_line, branch_if}
use Rattle.definition.specs.Intel.{flipped}
use Rattle.definition.specs.Negate.{trim_first, cut_last, cond_of, flippable, open_tokens, while_tokens}
use Rattle.definition.proofs.Bools.{both_true, is_false, by_test}
use Rattle.definition.proofs.TextLaws.{begins_longer, cut_end_lem}
use Rattle.definition.proofs.ListLaws.{each_to, all_each, Each, only_each}
use Rattle.definition.proofs.Merge.{join_further, text_merge, merge_again, NoGoto, text_append, each_merge}
use Rattle.definition.proofs.TokenSorts.{if_tokens}
use Rattle.definition.proofs.Cuts.{filled}
use Rattle.definition.proofs.NegateGrowth.{wrap}
use Rattle.definition.proofs.IfGoto.{taken_is}
use Rattle.definition.proofs.Printed.{Printed}
use Rattle.definition.proofs.Calm.{Calm}
use Rattle.definition.proofs.Operands.{Tame, Settled, rests}
use Rattle.definition.proofs.Neighbours.{before, lead, rest, merge_before, join_behind}
use Rattle.definition.proofs.NegateFlips.{negates}

-- a token that the passes leave alone: it has a text, and is no `goto`
unfoldable pub spoken : Token → Bool
spoken t = filled t && not (is_tok (keyword (txt "goto")) t)

abbrev Filled : List Token → Type 0
Filled ts = Each (λ t. filled t ≡ true) ts

spoken_nogoto : (C : List Token) → all spoken C ≡ true → NoGoto C
unfolding spoken
spoken_nogoto C h = each_to (λ t e. not-true _ (both_true (filled t) _ e).1) (all_each spoken C h)

spoken_filled : (C : List Token) → all spoken C ≡ true → Filled C
unfolding spoken
spoken_filled C h = each_to (λ t e. (both_true (filled t) _ e).0) (all_each spoken C h)

-- ---- tokens with a text, merged
filled_merge : {ts : List Token} → Filled ts → Filled (merge ts)
unfolding is_empty
filled_merge = each_merge (λ t u j. longer t.text u.text)
  where
    longer : (x y : List ℕ) → not (is_empty x) ≡ true → not (is_empty (x ++ y)) ≡ true
    longer [] y h = absurd (false≢true h)
    longer (b ∷ x) y h = refl

-- ---- `) ` at the end of a condition, and its cut
cut_last_lem : (F : List Token) (s : List ℕ) → cut_last (F ++ (punct (s ++ txt ") ") ∷ [])) ≡ F ++ (punct s ∷ [])
unfolding cut_last
cut_last_lem [] s = rw (cut_end_lem 41 (32 ∷ []) s)
cut_last_lem (f ∷ []) s = rw (cut_end_lem 41 (32 ∷ []) s)
cut_last_lem (f ∷ g ∷ F) s = ap (λ (ts : List Token). f ∷ ts) (cut_last_lem (g ∷ F) s)

cut_tokens : (C : List Token) → cut_last (merge (C ++ (punct (txt ") ") ∷ []))) ≡ merge (C ++ (punct [] ∷ []))
unfolding merge join
cut_tokens C =
    ap cut_last (merge_before C (punct (txt ") ") ∷ []) (txt ") ") [] refl) ∙ cut_last_lem (before C).front (before C).tail
    ∙ sym (rw append-nil at (merge_before C (punct [] ∷ []) [] [] refl))

-- an empty Punct at the end is in the last token, or goes
end_goes : (C : List Token) → only filled (merge (C ++ (punct [] ∷ []))) ≡ only filled (merge C)
unfolding merge join only is_empty
end_goes C = gone (ended C)
  where
    Ended : List Token → List Token → Type 0
    Ended N M = (N ≡ M) ⊎ (N ≡ M ++ (punct [] ∷ []))

    joined : (t : Token) (M : List Token) → Ended (join t (M ++ (punct [] ∷ []))) (join t M)
    joined t [] = go (joins t (punct []))
      where
        go : (b : Bool) → Ended (cond b (tok t.kind (t.text ++ []) ∷ []) (t ∷ punct [] ∷ [])) (t ∷ [])
        go true = inl (rw append-nil)
        go false = inr refl
    joined t (m ∷ ms) = inr (join_further t m ms (punct [] ∷ []))

    onto : (t : Token) (N M : List Token) → Ended N M → Ended (join t N) (join t M)
    onto t N M (inl e) = inl (ap (join t) e)
    onto t N M (inr e) = rw e (joined t M)

    ended : (C : List Token) → Ended (merge (C ++ (punct [] ∷ []))) (merge C)
    ended [] = inr refl
    ended (t ∷ C) = onto t (merge (C ++ (punct [] ∷ []))) (merge C) (ended C)

    dropped : (M : List Token) → only filled (M ++ (punct [] ∷ [])) ≡ only filled M
    dropped [] = refl
    dropped (t ∷ M) = ap (λ (ts : List Token). cond (filled t) (t ∷ ts) ts) (dropped M)

    gone : Ended (merge (C ++ (punct [] ∷ []))) (merge C) → only filled (merge (C ++ (punct [] ∷ []))) ≡ only filled (merge C)
    gone (inl e) = ap (only filled) e
    gone (inr e) = ap (only filled) e ∙ dropped (merge C)

-- ---- ` (` at its beginning, and the trim
trim_first_lem : (N : List Token) → begins (txt " (") (lead N) ≡ false → trim_first (join (punct (txt " (")) N) ≡ punct (lead N) ∷ rest N
unfolding trim_first trim_start shed begins
trim_first_lem N h = ap trim_first (join_behind (txt " (") N) ∙ rw h

-- an empty Punct in front goes
front_goes : (N : List Token) → only filled (cut_last (punct (lead N) ∷ rest N)) ≡ only filled (cut_last N)
unfolding lead rest cut_last cut_end only is_empty
front_goes [] = refl
front_goes (t ∷ ts) = by_test (eqb t.kind 6) (λ h. let k = eqb-true t.kind 6 h in rw (h, ← k)) (λ h. rw h)

-- no more is taken off, unless the condition's own text begins so
lead_begins : (C : List Token) → begins (txt " (") (text_of C) ≡ false → begins (txt " (") (lead (merge (C ++ (punct (txt ") ") ∷ [])))) ≡ false
unfolding begins text_of lead rest
lead_begins C h =
    is_false (begins (txt " (") (lead N)) (λ q.
    let z = begins_longer (txt " (") (lead N) (text_of (rest N)) q in
    let e = sym (lead_text N) ∙ text_merge (C ++ (punct (txt ") ") ∷ [])) ∙ text_append C (punct (txt ") ") ∷ []) in
    false≢true (sym h ∙ sym (closing (text_of C)) ∙ ap (begins (txt " (")) (sym e) ∙ z))
  where
    N : List Token
    N = merge (C ++ (punct (txt ") ") ∷ []))

    lead_text : (M : List Token) → text_of M ≡ lead M ++ text_of (rest M)
    lead_text [] = refl
    lead_text (t ∷ ts) = pick (eqb t.kind 6)
      where
        pick : (b : Bool) → t.text ++ text_of ts ≡ cond b t.text [] ++ text_of (cond b ts (t ∷ ts))
        pick true = refl
        pick false = refl

    closing : (s : List ℕ) → begins (txt " (") (s ++ txt ") ") ≡ begins (txt " (") s
    closing [] = refl
    closing (b ∷ []) = refl
    closing (b ∷ c ∷ s) = refl

-- ---- the lines that the passes write
-- of a condition C none of whose tokens is empty or a `goto`, and whose text does not begin with ` (`
module _ (C : List Token) (said : all spoken C ≡ true) (bare : begins (txt " (") (text_of C) ≡ false) (t : Token) where
  abbrev closed : List Token
  closed = C ++ (punct (txt ") ") ∷ [])

  taken_out : cond_of (merge (if_tokens C t)) ≡ merge C
  unfolding merge
  taken_out =
      taken_is C t (spoken_nogoto C said)
      ∙ ap (λ (ts : List Token). only filled (cut_last ts)) (trim_first_lem (merge closed) (lead_begins C bare))
      ∙ front_goes (merge closed) ∙ ap (only filled) (cut_tokens C) ∙ end_goes C ∙ only_each filled (filled_merge (spoken_filled C said))

  -- `} while (C);`
  pub while_head : while_tokens (merge (if_tokens C t)) ≡ merge (punct (txt "} ") ∷ keyword (txt "while") ∷ punct (txt " (") ∷ (C ++ (punct (txt ");") ∷ [])))
  unfolding while_tokens merge
  while_head = rw (taken_out, merge_again C (punct (txt ");") ∷ []))

-- `if (D) {`: D is the comparison with the opposite sign, or C between `!(` and `)`
unfoldable pub negated : List Token → List Token → Shown → List Token
negated X Y p = cond (flippable (merge (shown_tokens X Y p))) (shown_tokens X Y (flipped p)) (wrap (shown_tokens X Y p))

pub if_head : (X Y : List Token) → Calm X → Calm Y → (p : Shown) (t : Token)
    → all spoken (shown_tokens X Y p) ≡ true → begins (txt " (") (text_of (shown_tokens X Y p)) ≡ false
    → open_tokens (merge (if_tokens (shown_tokens X Y p) t)) ≡ merge (keyword (txt "if") ∷ punct (txt " (") ∷ (negated X Y p ++ (punct (txt ") {") ∷ [])))
unfolding open_tokens negated merge
if_head X Y calm_x calm_y p t said bare =
    let C = shown_tokens X Y p in
    rw (taken_out C said bare t, negates X Y calm_x calm_y p)
    (ap (λ (ts : List Token). join (keyword (txt "if")) (join (punct (txt " (")) ts)) (go (flippable (merge C))))
  where
    go : (b : Bool) → merge (cond b (merge (shown_tokens X Y (flipped p))) (wrap (merge (shown_tokens X Y p))) ++ (punct (txt ") {") ∷ []))
        ≡ merge (cond b (shown_tokens X Y (flipped p)) (wrap (shown_tokens X Y p)) ++ (punct (txt ") {") ∷ []))
    go true = merge_again (shown_tokens X Y (flipped p)) (punct (txt ") {") ∷ [])
    go false = simp append_assoc (ap (join (punct (txt "!("))) (merge_again (shown_tokens X Y p) (punct (txt ")") ∷ punct (txt ") {") ∷ [])))

-- lowering writes such a line for a branch
pub branch_line : (L : Lowering) (H : Here) (s : Stmt) (code : List ℕ) (t : Option ℕ)
    → branch_if L H s code t
    ≡ record {
      addr = some s.address;
      indent = 1;
      toks = merge (if_tokens (condition L.gen H.block.stmts code) (symbol (target_name L.starts L.gen.supplied (given 0 (or_else H.block.taken t)))));
    }
    ∷ fall_line L H s H.block.fall
unfolding branch_if line
branch_line L H s code t = refl

-- ---- all of it: the branch behind a CMP or TEST of x and y, whose operators are tame
pub branch_head : (G : Gen) → Settled G.opened → (x y : Expr) → Tame x → Tame y
    → (ss : List Stmt) (code : List ℕ) (is_test : Bool) (c : Code) (p : Shown) (t : Token) → Printed ss code is_test x y c p
    → all spoken (condition G ss code) ≡ true → begins (txt " (") (text_of (condition G ss code)) ≡ false
    → open_tokens (merge (if_tokens (condition G ss code) t))
    ≡ merge (keyword (txt "if") ∷ punct (txt " (") ∷ (negated (expr G false x) (expr G false y) p ++ (punct (txt ") {") ∷ [])))
branch_head G settled x y tame_x tame_y ss code is_test c p t P said bare =
    let e = P.tokens G in
    rw e (if_head (expr G false x) (expr G false y) (rests G settled x tame_x).calm (rests G settled y tame_y).calm p t (rw e at said) (rw e at bare))
