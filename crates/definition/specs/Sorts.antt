-- What the passes read off a line: its sort (c.rs, `goto_target`; pseudo_opt.rs, `is_label`). Every test of the passes goes through it.
use Rattle.std.specs.Prelude.{Bool, true, false, cond, ◌&&◌, List, [], ◌∷◌, ℕ, eqb}
use Rattle.std.proofs.Math.Option.{Option, none, some}
use Rattle.definition.specs.Texts.{txt, same}
use Rattle.definition.specs.Tokens.{Token, Line, keyword, symbol, punct}

unfoldable pub is_tok : Token → Token → Bool
is_tok u t = eqb t.kind u.kind && same t.text u.text

unfoldable pub first_is : Token → List Token → Bool
first_is u [] = false
first_is u (t ∷ ts) = is_tok u t

-- `is_label`: two tokens, a Symbol and `:`
unfoldable pub is_label : List Token → Bool
is_label [] = false
is_label (t ∷ []) = false
is_label (t ∷ u ∷ []) = same u.text (txt ":") && eqb t.kind (symbol []).kind
is_label (t ∷ u ∷ v ∷ ts) = false

unfoldable pub first_text : List Token → List ℕ
first_text [] = []
first_text (t ∷ ts) = t.text

unfoldable pub first_symbol : List Token → Option (List ℕ)
first_symbol [] = none
first_symbol (t ∷ ts) = cond (eqb t.kind (symbol []).kind) (some t.text) (first_symbol ts)

-- `goto_target`: the first Symbol behind the first keyword `goto`
unfoldable pub goto_target : List Token → Option (List ℕ)
goto_target [] = none
goto_target (t ∷ ts) = cond (is_tok (keyword (txt "goto")) t) (first_symbol ts) (goto_target ts)

pub data Sort : Type 0 where
  label : List ℕ → Sort
  cond_to : List ℕ → Sort  -- the first token is `if`, and there is a goto target
  jump_to : List ℕ → Sort  -- any other line with a goto target
  plain if_open close do_open while_close : Sort

unfoldable pub sort_jump : Bool → List ℕ → Sort
sort_jump true t = cond_to t
sort_jump false t = jump_to t

unfoldable pub sort_rest : List Token → Sort
sort_rest ts =
    cond (first_is (keyword (txt "if")) ts) if_open
    (cond (first_is (keyword (txt "do")) ts) do_open
    (cond (first_is (punct (txt "}")) ts) close (cond (first_is (punct (txt "} ")) ts) while_close plain)))

unfoldable pub sort_at : Bool → Option (List ℕ) → List Token → Sort
sort_at true o ts = label (first_text ts)
sort_at false none ts = sort_rest ts
sort_at false (some t) ts = sort_jump (first_is (keyword (txt "if")) ts) t

unfoldable pub sort_of : List Token → Sort
sort_of ts = sort_at (is_label ts) (goto_target ts) ts

abbrev pub sort : Line → Sort
sort l = sort_of l.toks
