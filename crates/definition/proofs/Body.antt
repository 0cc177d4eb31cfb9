-- The lines that are neither labels nor conditional jumps nor a region's own: each region leaves them as they are, but for their indents.
use mathlib.Core.Path.{◌≡◌, refl, sym, ap, ap₂, ◌∙◌}
use mathlib.Core.Bool.{Bool, true, false, cond}
use mathlib.Core.List.{List, [], ◌∷◌, ◌++◌, map, map-append}
use Prim.Native.Nat.{ℕ, suc}
use Rattle.definition.specs.Lists.{only}
use Rattle.definition.specs.Tokens.{Line}
use Rattle.definition.specs.Sorts.{Sort, sort}
use Rattle.definition.specs.Sorts.Sort.{label, cond_to, jump_to, plain, if_open, close, do_open, while_close}
use Rattle.definition.specs.Passes.{raise, raised, opened, closer, do_line, while_line, form_if, form_do}
use Rattle.definition.proofs.ListLaws.{only_append}
use Rattle.definition.proofs.TokenSorts.{close_sort, do_sort}
use Rattle.definition.proofs.Fits.{Fit}

-- neither a label nor a conditional jump nor a region's own line
unfoldable pub stays : Sort → Bool
stays (label t) = false
stays (cond_to t) = false
stays (jump_to t) = true
stays plain = true
stays if_open = false
stays close = false
stays do_open = false
stays while_close = false

-- a line but for its indent
abbrev pub unindented : Line → Line
unindented x = record { addr = x.addr; indent = 0; toks = x.toks }

abbrev staying : List Line → List Line
staying ls = only (λ x. stays (sort x)) ls

abbrev pub body : List Line → List Line
body ls = map unindented (staying ls)

pub body_append : (xs ys : List Line) → body (xs ++ ys) ≡ body xs ++ body ys
body_append xs ys = ap (map unindented) (only_append (λ x. stays (sort x)) xs ys) ∙ map-append unindented (staying xs) (staying ys)

body_raised : (xs : List Line) → body (raised xs) ≡ body xs
unfolding only
body_raised [] = refl
body_raised (x ∷ xs) = go (stays (sort x)) (body_raised xs)
  where
    go : (b : Bool) → body (raised xs) ≡ body xs
        → map unindented (cond b (raise x ∷ staying (raised xs)) (staying (raised xs))) ≡ map unindented (cond b (x ∷ staying xs) (staying xs))
    go true r = ap (λ (z : List Line). unindented x ∷ z) r
    go false r = r

pub body_skip : (x : Line) (s : Sort) (xs : List Line) → sort x ≡ s → stays s ≡ false → body (x ∷ xs) ≡ body xs
unfolding only
body_skip x s xs e n = ap (λ (b : Bool). map unindented (cond b (x ∷ staying xs) (staying xs))) (ap stays e ∙ n)

-- another first line in place of x, and what follows raised
frame : (pre : List Line) (x y : Line) (mid rest rest' : List Line)
    → ((zs : List Line) → body (x ∷ zs) ≡ body zs) → ((zs : List Line) → body (y ∷ zs) ≡ body zs)
    → body rest ≡ body rest' → body (pre ++ x ∷ (mid ++ rest)) ≡ body (pre ++ y ∷ (raised mid ++ rest'))
frame pre x y mid rest rest' hx hy e =
    body_append pre (x ∷ (mid ++ rest))
    ∙ ap (λ (r : List Line). body pre ++ r)
    (hx (mid ++ rest) ∙ body_append mid rest ∙ ap₂ ◌++◌ (sym (body_raised mid)) e ∙ sym (body_append (raised mid) rest') ∙ sym (hy (raised mid ++ rest')))
    ∙ sym (body_append pre (y ∷ (raised mid ++ rest')))

pub if_body : (pre : List Line) (l : Line) (mid post : List Line) (t : List ℕ) → sort l ≡ cond_to t → Fit t l.toks
    → body (pre ++ l ∷ (mid ++ post)) ≡ body (form_if pre l mid post)
unfolding stays
if_body pre l mid post t jump f =
    frame pre l (opened l) mid post (closer l.indent ∷ post) (λ zs. body_skip l (cond_to t) zs jump refl)
    (λ zs. body_skip (opened l) if_open zs f.open_sort refl)
    (sym (body_skip (closer l.indent) close post close_sort refl))

pub do_body : (pre : List Line) (l : Line) (mid : List Line) (b : Line) (post : List Line) (t : List ℕ) → sort l ≡ label t → sort b ≡ cond_to t → Fit t b.toks
    → body (pre ++ l ∷ (mid ++ b ∷ post)) ≡ body (form_do pre l mid b post)
unfolding stays
do_body pre l mid b post t head back f =
    let w : Line = while_line (suc l.indent) b in
    frame pre l (do_line l) mid (b ∷ post) (w ∷ post) (λ zs. body_skip l (label t) zs head refl)
    (λ zs. body_skip (do_line l) do_open zs do_sort refl)
    (body_skip b (cond_to t) post back refl ∙ sym (body_skip w while_close post f.while_sort refl))
