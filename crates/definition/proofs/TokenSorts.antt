-- The sort of a line before it is merged: a merge keeps the goto's target and the first Symbol, and of the first token the kind and the beginning of its text.
use mathlib.Core.Path.{◌≡◌, refl, sym, ap, ap₂, ◌∙◌}
use mathlib.Core.Bool.{Bool, false, cond, ◌&&◌, ◌||◌, and-false}
use mathlib.Core.Option.{Option, none, some}
use mathlib.Core.List.{List, [], ◌∷◌, ◌++◌}
use Prim.Native.Nat.{ℕ}
use lib.Dec.{eqb}
use Rattle.definition.specs.Texts.{txt, same}
use Rattle.definition.specs.Tokens.{Token, tok, register, keyword, symbol, punct, joins, join, merge}
use Rattle.definition.specs.Lower.{goto_tokens}
use Rattle.definition.specs.Sorts.{is_tok, first_is, is_label, first_text, first_symbol, goto_target, sort_at, sort_rest, sort_jump, sort_of}
use Rattle.definition.specs.Sorts.Sort.{label, cond_to, jump_to, plain, if_open, close, do_open, while_close}
use Rattle.definition.specs.Negate.{close_tokens, do_tokens}
use Rattle.definition.proofs.ListLaws.{end, ◌▸◌}
use Rattle.definition.proofs.Merge.{NotGoto, by_join, lone_join, NoGoto, no_keyword, merge_keyword}

-- ---- the targets that a merge keeps
past_symbol : (t : Token) (ts : List Token) → eqb t.kind 4 ≡ false → first_symbol (t ∷ ts) ≡ first_symbol ts
unfolding first_symbol
past_symbol t ts e = ap (λ (b : Bool). cond b (some t.text) (first_symbol ts)) e

past_goto : (t : Token) (ts : List Token) → NotGoto t → goto_target (t ∷ ts) ≡ goto_target ts
unfolding goto_target
past_goto t ts e = ap (λ (b : Bool). cond b (first_symbol ts) (goto_target ts)) e

symbol_join : (t : Token) (us : List Token) → first_symbol (join t us) ≡ first_symbol (t ∷ us)
unfolding join
symbol_join t [] = refl
symbol_join t (u ∷ us) =
    by_join (λ z. first_symbol z ≡ first_symbol (t ∷ u ∷ us)) t u us
    (λ j.
    past_symbol (tok t.kind (t.text ++ u.text)) us (j.unlike 4 refl)
    ∙ sym (past_symbol t (u ∷ us) (j.unlike 4 refl) ∙ past_symbol u us (rw j.alike at (j.unlike 4 refl))))
    refl

symbol_merge : (ts : List Token) → first_symbol (merge ts) ≡ first_symbol ts
unfolding merge first_symbol
symbol_merge [] = refl
symbol_merge (t ∷ ts) = symbol_join t (merge ts) ∙ ap (λ (o : Option (List ℕ)). cond (eqb t.kind 4) (some t.text) o) (symbol_merge ts)

goto_join : (t : Token) (us : List Token) → goto_target (join t us) ≡ goto_target (t ∷ us)
unfolding join
goto_join t [] = refl
goto_join t (u ∷ us) =
    by_join (λ z. goto_target z ≡ goto_target (t ∷ u ∷ us)) t u us
    (λ j.
    past_goto (tok t.kind (t.text ++ u.text)) us (no_keyword _ (j.unlike 3 refl))
    ∙ sym (past_goto t (u ∷ us) (no_keyword t (j.unlike 3 refl)) ∙ past_goto u us (no_keyword u (rw j.alike at (j.unlike 3 refl)))))
    refl

target_merge : (ts : List Token) → goto_target (merge ts) ≡ goto_target ts
unfolding merge goto_target
target_merge [] = refl
target_merge (t ∷ ts) =
    goto_join t (merge ts)
    ∙ ap₂ (λ (o p : Option (List ℕ)). cond (is_tok (keyword (txt "goto")) t) o p) (symbol_merge ts) (target_merge ts)

-- ---- the target behind tokens that are not `goto`
goto_behind : {ts : List Token} → NoGoto ts → (rest : List Token) → goto_target (ts ++ rest) ≡ goto_target rest
goto_behind end rest = refl
goto_behind (◌▸◌ {x = t} {xs = ts} c h) rest = past_goto t (ts ++ rest) c ∙ goto_behind h rest

no_target : {ts : List Token} → NoGoto ts → goto_target ts ≡ none
unfolding goto_target
no_target end = refl
no_target (◌▸◌ {x = t} {xs = ts} c h) = past_goto t ts c ∙ no_target h

-- ---- the sort of a line, by its first token
-- from whether it is a label, and its target
sort_by : (ts : List Token) (o : Option (List ℕ)) → is_label (merge ts) ≡ false → goto_target ts ≡ o → sort_of (merge ts) ≡ sort_at false o (merge ts)
unfolding sort_of
sort_by ts o l g = ap₂ (λ (b : Bool) (p : Option (List ℕ)). sort_at b p (merge ts)) l (target_merge ts ∙ g)

-- a token that is no Symbol begins no label
no_label : (t : Token) (us : List Token) → eqb t.kind 4 ≡ false → is_label (t ∷ us) ≡ false
unfolding is_label
no_label t [] e = refl
no_label t (u ∷ []) e = ap (λ (b : Bool). same u.text (txt ":") && b) e ∙ and-false (same u.text (txt ":"))
no_label t (u ∷ v ∷ us) e = refl

-- a first token that is neither Punct nor Text, nor Symbol
lone_sort : (k : ℕ) (w : List ℕ) (ts : List Token) (o : Option (List ℕ)) → (eqb k 6 || eqb k 0) ≡ false → eqb k 4 ≡ false → goto_target (tok k w ∷ ts) ≡ o
    → sort_of (merge (tok k w ∷ ts)) ≡ sort_at false o (tok k w ∷ merge ts)
unfolding merge
lone_sort k w ts o lone e g =
    let m : merge (tok k w ∷ ts) ≡ tok k w ∷ merge ts = lone_join k w lone (merge ts) in
    sort_by (tok k w ∷ ts) o (ap is_label m ∙ no_label (tok k w) (merge ts) e) g ∙ ap (sort_at false o) m

pub register_plain : (w : List ℕ) {ts : List Token} → NoGoto ts → sort_of (merge (register w ∷ ts)) ≡ plain
unfolding sort_at sort_rest first_is is_tok
register_plain w {ts} h = lone_sort 1 w ts none refl refl (past_goto (register w) ts refl ∙ no_target h)

pub keyword_plain : (w : List ℕ) {ts : List Token} → same w (txt "goto") ≡ false → same w (txt "if") ≡ false → same w (txt "do") ≡ false → NoGoto ts → sort_of (merge (keyword w ∷ ts)) ≡ plain
unfolding sort_at sort_rest first_is is_tok
keyword_plain w {ts} g i d h =
    lone_sort 3 w ts none refl refl (past_goto (keyword w) ts g ∙ no_target h)
    ∙ ap₂ (λ (b c : Bool). cond b if_open (cond c do_open plain)) i d

-- `goto` behind which the first Symbol is as `o` says
goto_sort : (ts : List Token) (o : Option (List ℕ)) → first_symbol ts ≡ o → sort_of (merge (keyword (txt "goto") ∷ ts)) ≡ sort_at false o (keyword (txt "goto") ∷ merge ts)
unfolding goto_target is_tok same
goto_sort ts o e = lone_sort 3 (txt "goto") ts o refl refl e

pub goto_plain : (ts : List Token) → first_symbol ts ≡ none → sort_of (merge (keyword (txt "goto") ∷ ts)) ≡ plain
unfolding sort_at sort_rest first_is is_tok same
goto_plain ts e = goto_sort ts none e

pub goto_jump : (ts : List Token) (t : List ℕ) → first_symbol ts ≡ some t → sort_of (merge (keyword (txt "goto") ∷ ts)) ≡ jump_to t
unfolding sort_at sort_jump first_is is_tok same
goto_jump ts t e = goto_sort ts (some t) e

-- `if (C) goto t;`
abbrev pub if_tokens : List Token → Token → List Token
if_tokens C t = keyword (txt "if") ∷ punct (txt " (") ∷ (C ++ (punct (txt ") ") ∷ goto_tokens t))

pub if_sort : (C : List Token) (t : List ℕ) → NoGoto C → sort_of (merge (if_tokens C (symbol t))) ≡ cond_to t
unfolding sort_at sort_jump first_is is_tok same goto_target goto_tokens first_symbol
if_sort C t h = lone_sort 3 (txt "if") _ (some t) refl refl (goto_behind h (punct (txt ") ") ∷ goto_tokens (symbol t)))

-- `if ..` and `} while ..` without a `goto`
pub open_line : (ts : List Token) → NoGoto ts → sort_of (merge (keyword (txt "if") ∷ ts)) ≡ if_open
unfolding sort_at sort_rest first_is is_tok same
open_line ts h = lone_sort 3 (txt "if") ts none refl refl (past_goto (keyword (txt "if")) ts refl ∙ no_target h)

pub while_line_lem : (ts : List Token) → NoGoto ts → sort_of (merge (punct (txt "} ") ∷ keyword (txt "while") ∷ ts)) ≡ while_close
unfolding merge join sort_at sort_rest first_is is_tok same
while_line_lem ts h =
    let m : merge (punct (txt "} ") ∷ keyword (txt "while") ∷ ts) ≡ punct (txt "} ") ∷ keyword (txt "while") ∷ merge ts = merge_keyword (punct (txt "} ") ∷ []) (txt "while") ts in
    sort_by _ none (ap is_label m ∙ no_label (punct (txt "} ")) (keyword (txt "while") ∷ merge ts) refl) (no_target (refl ▸ refl ▸ h)) ∙ ap (sort_at false none) m

-- Punct that an opening parenthesis begins still does when merged
by_open : (P : List Token → Type 0) (w : List ℕ) (us : List Token) → ((v : List ℕ) (us : List Token) → P (punct (40 ∷ v) ∷ us)) → P (join (punct (40 ∷ w)) us)
unfolding join
by_open P w [] f = f w []
by_open P w (u ∷ us) f = by_join P (punct (40 ∷ w)) u us (λ j. f (w ++ u.text) us) (f w (u ∷ us))

pub punct_plain : (w : List ℕ) {ts : List Token} → NoGoto ts → sort_of (merge (punct (40 ∷ w) ∷ ts)) ≡ plain
unfolding merge sort_at sort_rest first_is is_tok same
punct_plain w {ts} h =
    sort_by (punct (40 ∷ w) ∷ ts) none (by_open (λ m. is_label m ≡ false) w (merge ts) (λ v us. no_label (punct (40 ∷ v)) us refl))
    (past_goto (punct (40 ∷ w)) ts refl ∙ no_target h)
    ∙ by_open (λ m. sort_at false none m ≡ plain) w (merge ts) (λ v us. refl)

-- a Symbol before it is no label
no_colon : (n v : List ℕ) (us : List Token) → is_label (symbol n ∷ punct (40 ∷ v) ∷ us) ≡ false
unfolding is_label same
no_colon n v [] = refl
no_colon n v (u ∷ us) = refl

pub symbol_plain : (n w : List ℕ) {ts : List Token} → NoGoto ts → sort_of (merge (symbol n ∷ punct (40 ∷ w) ∷ ts)) ≡ plain
unfolding merge sort_at sort_rest first_is is_tok
symbol_plain n w {ts} h =
    let m : merge (symbol n ∷ punct (40 ∷ w) ∷ ts) ≡ symbol n ∷ merge (punct (40 ∷ w) ∷ ts) = lone_join 4 n refl (merge (punct (40 ∷ w) ∷ ts)) in
    sort_by (symbol n ∷ punct (40 ∷ w) ∷ ts) none
    (ap is_label m ∙ by_open (λ m. is_label (symbol n ∷ m) ≡ false) w (merge ts) (no_colon n))
    (no_target (refl ▸ refl ▸ h))
    ∙ ap (sort_at false none) m

-- `n:`
pub label_line_lem : (n : List ℕ) → sort_of (merge (symbol n ∷ punct (txt ":") ∷ [])) ≡ label n
unfolding merge join joins sort_of sort_at is_label same first_text
label_line_lem n = refl

-- `}` and `do {`
pub close_sort : sort_of close_tokens ≡ close
unfolding sort_of sort_at sort_rest is_label is_tok first_is goto_target same close_tokens
close_sort = refl

pub do_sort : sort_of do_tokens ≡ do_open
unfolding sort_of sort_at sort_rest is_label is_tok first_is goto_target same do_tokens
do_sort = refl
