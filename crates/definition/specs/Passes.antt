-- `structure_ifs`, `structure_do_while`, `drop_unused_labels` (c.rs): each step forms one region and begins again at the top; refusal 9 is an outcome of a step.
use Rattle.std.specs.Prelude.{Bool, true, false, not, cond, ◌&&◌, ◌||◌, List, [], ◌∷◌, ◌++◌, map, ℕ, zero, suc, eqb, ltb, leb}
use Rattle.std.proofs.Math.Option.{Option, none, some}
use Rattle.definition.specs.Texts.{same}
use Rattle.definition.specs.Lists.{any, only, count, or_else, has}
use Rattle.definition.specs.Tokens.{Line}
use Rattle.definition.specs.Sorts.{Sort, sort}
use Rattle.definition.specs.Sorts.Sort.{label, cond_to, jump_to, plain, if_open, close, do_open, while_close}
use Rattle.definition.specs.Negate.{open_tokens, close_tokens, do_tokens, while_tokens}

-- ---- what the passes ask of a sort
-- the name of a label, of the target of any goto, of a conditional one
unfoldable pub label_name : Sort → Option (List ℕ)
label_name (label t) = some t
label_name (cond_to t) = none
label_name (jump_to t) = none
label_name plain = none
label_name if_open = none
label_name close = none
label_name do_open = none
label_name while_close = none

unfoldable pub aim_name : Sort → Option (List ℕ)
aim_name (label t) = none
aim_name (cond_to t) = some t
aim_name (jump_to t) = some t
aim_name plain = none
aim_name if_open = none
aim_name close = none
aim_name do_open = none
aim_name while_close = none

unfoldable pub cond_name : Sort → Option (List ℕ)
cond_name (label t) = none
cond_name (cond_to t) = some t
cond_name (jump_to t) = none
cond_name plain = none
cond_name if_open = none
cond_name close = none
cond_name do_open = none
cond_name while_close = none

-- is it a name, and this one
unfoldable pub is : List ℕ → Option (List ℕ) → Bool
is t none = false
is t (some u) = same u t

-- the label t; a goto to t; a conditional goto to t
unfoldable pub named : List ℕ → Line → Bool
named t x = is t (label_name (sort x))

unfoldable pub aims : List ℕ → Line → Bool
aims t x = is t (aim_name (sort x))

unfoldable pub backs : List ℕ → Line → Bool
backs t x = is t (cond_name (sort x))

-- does a line of these aim at t, at a label, at one of the labels of `mid`
unfoldable pub aimed : List ℕ → List Line → Bool
aimed t ls = any (aims t) ls

unfoldable pub aimed_at : List Line → Option (List ℕ) → Bool
aimed_at ls none = false
aimed_at ls (some t) = aimed t ls

unfoldable pub reached : List Line → List Line → Bool
reached ls mid = any (λ x. aimed_at ls (label_name (sort x))) mid

-- a label one brace out from depth d; a line that ends a scan at depth d
unfoldable pub outer : ℕ → Line → Bool
outer d x = has (label_name (sort x)) && eqb (suc x.indent) d

unfoldable pub stops : ℕ → Line → Bool
stops d x = ltb x.indent d && not (outer d x)

-- ---- a region formed
abbrev pub raise : Line → Line
raise x = record { addr = x.addr; indent = suc x.indent; toks = x.toks }

abbrev pub raised : List Line → List Line
raised ls = map raise ls

-- 9: raised, the line would stand inside more than 254 open braces
unfoldable pub deep : Line → Bool
deep x = cond (has (label_name (sort x))) (leb 254 x.indent) (leb 255 x.indent)

pub record Formed : Type 0 where
  pub deep : Bool
  pub lines : List Line

-- unless the test holds, the region around `mid` is formed
unfoldable pub unless : Bool → List Line → List Line → Option Formed
unless true mid out = none
unless false mid out = some (record { deep = any deep mid; lines = out })

-- ---- structure_ifs
-- the lines up to a label, and those from it on
pub record Cut : Type 0 where
  pub mid : List Line
  pub post : List Line

unfoldable pub cons_cut : Line → Option Cut → Option Cut
cons_cut x none = none
cons_cut x (some c) = some (record { mid = x ∷ c.mid; post = c.post })

unfoldable pub scan_at : Bool → Bool → Line → List Line → Option Cut → Option Cut
scan_at true s x xs r = some (record { mid = []; post = x ∷ xs })
scan_at false true x xs r = none
scan_at false false x xs r = cons_cut x r

-- the label t at depth d - 1 that follows, with only deeper or equal lines between
unfoldable pub scan : List ℕ → ℕ → List Line → Option Cut
scan t d [] = none
scan t d (x ∷ xs) = scan_at (named t x && eqb (suc x.indent) d) (stops d x) x xs (scan t d xs)

abbrev pub opened : Line → Line
opened l = record { addr = l.addr; indent = l.indent; toks = open_tokens l.toks }

abbrev pub closer : ℕ → Line
closer d = record { addr = none; indent = d; toks = close_tokens }

abbrev pub form_if : List Line → Line → List Line → List Line → List Line
form_if pre l mid post = pre ++ opened l ∷ (raised mid ++ closer l.indent ∷ post)

unfoldable pub no_line : List Line → Bool
no_line [] = true
no_line (x ∷ xs) = false

-- no label inside may be reached from outside, and an if-goto directly before its label stays
unfoldable pub if_cut : List Line → Line → Option Cut → Option Formed
if_cut pre l none = none
if_cut pre l (some c) =
    unless (no_line c.mid || reached (pre ++ l ∷ c.post) c.mid) c.mid (form_if pre l c.mid c.post)

-- at the line l, after `pre` and before `xs`
unfoldable pub if_at : List Line → Line → List Line → Option (List ℕ) → Option Formed
if_at pre l xs none = none
if_at pre l xs (some t) = if_cut pre l (scan t l.indent xs)

-- the first line at which it goes
unfoldable pub first_formed : (List Line → Line → List Line → Option Formed) → List Line → List Line → Option Formed
first_formed try pre [] = none
first_formed try pre (l ∷ xs) = or_else (try pre l xs) (first_formed try (pre ++ (l ∷ [])) xs)

unfoldable pub if_try : List Line → Line → List Line → Option Formed
if_try pre l xs = if_at pre l xs (cond_name (sort l))

unfoldable pub if_step : List Line → Option Formed
if_step ls = first_formed if_try [] ls

-- ---- structure_do_while
pub record Back : Type 0 where
  pub mid : List Line
  pub back : Line
  pub post : List Line

unfoldable pub back_at : Bool → Bool → Line → List Line → Option Back → Option Back
back_at true h x xs r = none
back_at false h x xs (some r) = some (record { mid = x ∷ r.mid; back = r.back; post = r.post })
back_at false true x xs none = some (record { mid = []; back = x; post = xs })
back_at false false x xs none = none

-- the last conditional goto to t at depth d, before the scan ends
unfoldable pub last_back : List ℕ → ℕ → List Line → Option Back
last_back t d [] = none
last_back t d (x ∷ xs) = back_at (stops d x) (eqb x.indent d && backs t x) x xs (last_back t d xs)

abbrev pub do_line : Line → Line
do_line l = record { addr = l.addr; indent = suc l.indent; toks = do_tokens }

abbrev pub while_line : ℕ → Line → Line
while_line d b = record { addr = b.addr; indent = d; toks = while_tokens b.toks }

abbrev pub form_do : List Line → Line → List Line → Line → List Line → List Line
form_do pre l mid b post = pre ++ do_line l ∷ (raised mid ++ while_line (suc l.indent) b ∷ post)

-- only the back edge may aim at the head, and nothing outside may jump into the body
unfoldable pub do_cut : List Line → Line → List ℕ → Option Back → Option Formed
do_cut pre l t none = none
do_cut pre l t (some c) =
    unless (aimed t (pre ++ l ∷ (c.mid ++ c.post)) || reached (pre ++ c.post) c.mid) c.mid (form_do pre l c.mid c.back c.post)

unfoldable pub do_at : List Line → Line → List Line → Option (List ℕ) → Option Formed
do_at pre l xs none = none
do_at pre l xs (some t) = do_cut pre l t (last_back t (suc l.indent) xs)

unfoldable pub do_try : List Line → Line → List Line → Option Formed
do_try pre l xs = do_at pre l xs (label_name (sort l))

unfoldable pub do_step : List Line → Option Formed
do_step ls = first_formed do_try [] ls

-- ---- the passes
-- how many conditional jumps there are: more steps a pass cannot take
unfoldable pub conds : List Line → ℕ
conds ls = count (λ x. has (cond_name (sort x))) ls

-- what a pass comes to: the regions formed and the lines, or 9
pub data Passed : Type 0 where
  done : ℕ → List Line → Passed
  too_deep : Passed

unfoldable pub pass_n : (List Line → Option Formed) → ℕ → ℕ → List Line → Passed
pass_n step zero n ls = done n ls
pass_n step (suc k) n ls =
    elim (step ls) [ none ↦ done n ls | some o ↦ elim o.deep [ true ↦ too_deep | false ↦ pass_n step k (suc n) o.lines ] ]

unfoldable pub structure_ifs : List Line → Passed
structure_ifs ls = pass_n if_step (conds ls) 0 ls

unfoldable pub structure_do_while : List Line → Passed
structure_do_while ls = pass_n do_step (conds ls) 0 ls

-- ---- drop_unused_labels
unfoldable pub kept : List Line → Option (List ℕ) → Bool
kept ls none = true
kept ls (some t) = aimed t ls

unfoldable pub drop_unused_labels : List Line → List Line
drop_unused_labels ls = only (λ x. kept ls (label_name (sort x))) ls
