-- A conditional jump as lowering writes it is one to the passes, and fits them: all that structuring needs to know of tokens.
use mathlib.Core.Path.{◌≡◌, refl, sym, ap, ◌∙◌}
use mathlib.Core.List.{List, [], ◌∷◌, ◌++◌}
use Prim.Native.Nat.{ℕ, ◌+◌, ◌≤◌}
use native.Mathlib.Omega.{arith}
use lib.ListN.{length, length-append}
use lib.Seq.{append_snoc}
use Rattle.definition.specs.Texts.{txt, same}
use Rattle.definition.specs.Lists.{only}
use Rattle.definition.specs.Tokens.{Token, textual, keyword, symbol, punct, joins, join, merge, text_of}
use Rattle.definition.specs.Lower.{goto_tokens}
use Rattle.definition.specs.Sorts.{is_tok, sort_of}
use Rattle.definition.specs.Negate.{before_goto, tail, trim_first, cut_last, cond_of, negate, open_tokens, while_tokens}
use Rattle.definition.proofs.ListLaws.{each_append, each_only, only_length, ◌▸◌, end}
use Rattle.definition.proofs.Merge.{size, NoGoto, nogoto_merge, merge_keyword, size_cons, size_append, size_merge, join_length, merge_length, lone_join}
use Rattle.definition.proofs.TokenSorts.{if_tokens, open_line, while_line_lem}
use Rattle.definition.proofs.Fits.{Fit}
use Rattle.definition.proofs.Cuts.{Starts, Finishes, starts_join, ends_merge, ends_trim, trim_size, cut_size, trim_length, cut_length, trim_nogoto, cut_nogoto, filled, filled_size, before_goto_lem}
use Rattle.definition.proofs.NegateGrowth.{negate_nogoto, negate_size, headed, negate_length}

-- ---- `if (C) goto t;`, merged, and the condition taken out of it
-- ` (`, the condition, `) `
abbrev inside : List Token → List Token
inside C = punct (txt " (") ∷ (C ++ (punct (txt ") ") ∷ []))

tokens_are : (C : List Token) (t : Token) → merge (if_tokens C t) ≡ keyword (txt "if") ∷ (merge (inside C) ++ keyword (txt "goto") ∷ merge (tail (goto_tokens t)))
unfolding merge goto_tokens tail
tokens_are C t =
    ap (λ (l : List Token). merge (keyword (txt "if") ∷ punct (txt " (") ∷ l)) (sym (append_snoc C (punct (txt ") ")) (goto_tokens t)))
    ∙ lone_join 3 (txt "if") refl (merge (inside C ++ goto_tokens t))
    ∙ ap (λ (l : List Token). keyword (txt "if") ∷ l) (merge_keyword (inside C) (txt "goto") (tail (goto_tokens t)))

nogoto_inside : {C : List Token} → NoGoto C → NoGoto (merge (inside C))
unfolding is_tok
nogoto_inside h = nogoto_merge (refl ▸ each_append h (refl ▸ end))

abbrev pub taken : List Token → List Token
taken C = only filled (cut_last (trim_first (merge (inside C))))

pub taken_is : (C : List Token) (t : Token) → NoGoto C → cond_of (merge (if_tokens C t)) ≡ taken C
unfolding cond_of before_goto is_tok same tail
taken_is C t h = ap cond_of (tokens_are C t) ∙ ap (λ (l : List Token). only filled (cut_last (trim_first l))) (before_goto_lem (merge (tail (goto_tokens t))) (nogoto_inside h))

-- ---- it fits
module _ (c : List Token) (t : List ℕ) (h : NoGoto c) where
  abbrev jump : List Token
  jump = merge (if_tokens c (symbol t))

  abbrev between : List Token
  between = merge (inside c)

  abbrev ends : List Token
  ends = keyword (txt "goto") ∷ textual (txt " ") ∷ symbol t ∷ punct (txt ";") ∷ []

  jump_is : jump ≡ keyword (txt "if") ∷ (between ++ ends)
  unfolding merge join joins goto_tokens tail
  jump_is = tokens_are c (symbol t)

  starts : Starts between
  unfolding merge
  starts = starts_join (merge (c ++ (punct (txt ") ") ∷ [])))

  finishes : Finishes (trim_first between)
  finishes = ends_trim between (ends_merge (punct (txt " (") ∷ c))

  taken_nogoto : NoGoto (taken c)
  taken_nogoto = each_only filled (cut_nogoto _ finishes (trim_nogoto between starts (nogoto_inside h)))

  taken_length : length (taken c) ≤ length between
  taken_length = omega (arith, only_length filled (cut_last (trim_first between)), cut_length (trim_first between), trim_length between)

  inside_size : size between ≡ size c + 4
  unfolding text_of
  inside_size = omega (arith, size_merge (inside c), size_cons (punct (txt " (")) (c ++ (punct (txt ") ") ∷ [])), size_append c (punct (txt ") ") ∷ []))

  taken_size : size (taken c) ≤ size c
  taken_size = omega (arith, filled_size (cut_last (trim_first between)), cut_size (trim_first between) finishes, trim_size between starts, inside_size)

  all_length : length jump ≡ length between + 5
  all_length = ap length jump_is ∙ omega (arith, length-append between ends)

  all_size : size jump ≡ size c + length t + 12
  unfolding text_of
  all_size =
      omega (
        arith,
        ap size jump_is,
        size_cons (keyword (txt "if")) (between ++ ends),
        size_append between ends,
        inside_size,
        size_cons (symbol t) (punct (txt ";") ∷ []),
      )

  abbrev ended : List Token
  ended = punct (txt " (") ∷ (taken c ++ (punct (txt ");") ∷ []))

  open_is : open_tokens jump ≡ merge (keyword (txt "if") ∷ headed (negate (taken c)))
  unfolding open_tokens
  open_is = ap (λ (k : List Token). merge (keyword (txt "if") ∷ headed (negate k))) (taken_is c (symbol t) h)

  while_is : while_tokens jump ≡ merge (punct (txt "} ") ∷ keyword (txt "while") ∷ ended)
  unfolding while_tokens
  while_is = ap (λ (k : List Token). merge (punct (txt "} ") ∷ keyword (txt "while") ∷ punct (txt " (") ∷ (k ++ (punct (txt ");") ∷ [])))) (taken_is c (symbol t) h)

  open_size : size (open_tokens jump) ≤ size c + 10
  unfolding text_of
  open_size =
      omega (
        arith,
        ap size open_is,
        size_merge (keyword (txt "if") ∷ headed (negate (taken c))),
        size_cons (keyword (txt "if")) (headed (negate (taken c))),
        size_cons (punct (txt " (")) (negate (taken c) ++ (punct (txt ") {") ∷ [])),
        size_append (negate (taken c)) (punct (txt ") {") ∷ []),
        negate_size (taken c),
        taken_size,
      )

  while_size : size (while_tokens jump) ≤ size c + 11
  unfolding text_of
  while_size =
      omega (arith, ap size while_is, size_merge (punct (txt "} ") ∷ keyword (txt "while") ∷ ended), size_append (taken c) (punct (txt ");") ∷ []), taken_size)

  -- and it fits the passes
  pub fit : 1 ≤ length t → Fit t (merge (if_tokens c (symbol t)))
  unfolding is_tok merge join
  fit n = record {
    open_sort = ap sort_of open_is ∙ open_line (headed (negate (taken c))) (refl ▸ each_append (negate_nogoto (taken c) taken_nogoto) (refl ▸ end));
    while_sort = ap sort_of while_is ∙ while_line_lem ended (refl ▸ each_append taken_nogoto (refl ▸ end));
    open_tokens_lem = omega (arith, ap length open_is, join_length (keyword (txt "if")) (merge (headed (negate (taken c)))), negate_length (taken c), taken_length, all_length);
    while_tokens_lem =
        omega (arith, ap length while_is, merge_length (punct (txt "} ") ∷ keyword (txt "while") ∷ punct (txt " (") ∷ taken c) (punct (txt ");") ∷ []), taken_length, all_length);
    open_text = omega (arith, open_size, all_size);
    while_text = omega (arith, while_size, all_size);
    nonempty = n;
  }
