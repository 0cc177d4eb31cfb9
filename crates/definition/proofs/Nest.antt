-- Braces nest, and each indent follows from the open braces: kept by each region, since lines that no scan ends can be put inside one more brace.
use mathlib.Core.Path.{◌≡◌, refl, sym, ap, subst, ◌∙◌}
use mathlib.Core.Bool.{false}
use mathlib.Core.List.{List, [], ◌∷◌, ◌++◌}
use Prim.Native.Nat.{ℕ, suc, ◌≤◌}
use native.Mathlib.Omega.{arith}
use borrow.Author.Tests.{ltb-false}
use lib.ListN.{length, length-append}
use Rattle.definition.specs.Lists.{has}
use Rattle.definition.specs.Tokens.{Line}
use Rattle.definition.specs.Sorts.{Sort, sort}
use Rattle.definition.specs.Sorts.Sort.{label, cond_to, jump_to, plain, if_open, close, do_open, while_close}
use Rattle.definition.specs.Passes.{label_name, named, opened, closer, raised, do_line, while_line, form_if, form_do}
use Rattle.definition.proofs.ListLaws.{◌▸◌}
use Rattle.definition.proofs.SortLaws.{is_some, label_sort}
use Rattle.definition.proofs.TokenSorts.{close_sort, do_sort}
use Rattle.definition.proofs.Fits.{Fit}
use Rattle.definition.proofs.Regions.{ScanPasses, IfHere, DoHere}
use Rattle.definition.proofs.Stops.{stops_plain}

pub data Mark : Type 0 where
  an_if a_do : Mark

-- a line of this sort at indent n, inside the open braces s, leaves s' open: a `}` closes an if, a `} while` a loop
abbrev pub Act : Sort → List Mark → ℕ → List Mark → Type 0
Act (label t) s n s' = (n ≡ length s) × (s' ≡ s)
Act (cond_to t) s n s' = (n ≡ suc (length s)) × (s' ≡ s)
Act (jump_to t) s n s' = (n ≡ suc (length s)) × (s' ≡ s)
Act plain s n s' = (n ≡ suc (length s)) × (s' ≡ s)
Act if_open s n s' = (n ≡ suc (length s)) × (s' ≡ an_if ∷ s)
Act close s n s' = (n ≡ suc (length s')) × (s ≡ an_if ∷ s')
Act do_open s n s' = (n ≡ suc (length s)) × (s' ≡ a_do ∷ s)
Act while_close s n s' = (n ≡ suc (length s')) × (s ≡ a_do ∷ s')

-- the lines, inside the open braces s, leave s' open, and each indent is as the open braces say
abbrev pub Nest : List Mark → List Line → List Mark → Type 0
Nest s [] s' = s ≡ s'
Nest s (x ∷ xs) s' = (m : List Mark) × Act (sort x) s x.indent m × Nest m xs s'

nest_append : (s : List Mark) (xs ys : List Line) (m s' : List Mark) → Nest s xs m → Nest m ys s' → Nest s (xs ++ ys) s'
nest_append s [] ys m s' e h = subst (λ (z : List Mark). Nest z ys s') (sym e) h
nest_append s (x ∷ xs) ys m s' k h = (k.0, k.1, nest_append k.0 xs ys m s' k.2 h)

nest_split : (s : List Mark) (xs ys : List Line) (s' : List Mark) → Nest s (xs ++ ys) s' → (m : List Mark) × Nest s xs m × Nest m ys s'
nest_split s [] ys s' h = (s, refl, h)
nest_split s (x ∷ xs) ys s' h =
    let r = nest_split h.0 xs ys s' h.2 in
    (r.0, (h.0, h.1, r.1), r.2)

-- ---- a run of lines that nothing ends, put inside one more brace
module _ (m : Mark) (base : List Mark) where
  longer : (a : List Mark) → length (a ++ m ∷ base) ≡ suc (length (a ++ base))
  longer [] = refl
  longer (c ∷ a) = ap suc (longer a)

  abbrev Lifted : Sort → List Mark → ℕ → List Mark → Type 0
  Lifted k a n s' = (b : List Mark) × (s' ≡ b ++ base) × Act k (a ++ m ∷ base) (suc n) (b ++ m ∷ base)

  pops : (c : Mark) (a s' : List Mark) (n : ℕ) → n ≡ suc (length s') → a ++ base ≡ c ∷ s' → suc (length base) ≤ n
      → (b : List Mark) × (s' ≡ b ++ base) × (suc n ≡ suc (length (b ++ m ∷ base))) × (a ++ m ∷ base ≡ c ∷ (b ++ m ∷ base))
  pops c [] s' n en es h = let z : length base ≡ suc (length s') = ap length es in absurd (omega arith)
  pops c (x ∷ a) s' n en es h =
      let e₁ : s' ≡ a ++ base = cc in
      (a, e₁, ap suc (en ∙ ap (λ (z : List Mark). suc (length z)) e₁ ∙ sym (longer a)), (cc))

  -- a line that is no label stands below the braces that were there
  act_lift : (k : Sort) (a s' : List Mark) (n : ℕ) → Act k (a ++ base) n s' → (has (label_name k) ≡ false → suc (length base) ≤ n) → Lifted k a n s'
  unfolding label_name has
  act_lift (label t) a s' n h w = (a, h.1, (omega (arith, h.0, longer a), refl))
  act_lift (cond_to t) a s' n h w = (a, h.1, (omega (arith, h.0, longer a), refl))
  act_lift (jump_to t) a s' n h w = (a, h.1, (omega (arith, h.0, longer a), refl))
  act_lift plain a s' n h w = (a, h.1, (omega (arith, h.0, longer a), refl))
  act_lift if_open a s' n h w = (an_if ∷ a, h.1, (omega (arith, h.0, longer a), refl))
  act_lift close a s' n h w = let p = pops an_if a s' n h.0 h.1 (w refl) in (p.0, p.1, (p.2, p.3))
  act_lift do_open a s' n h w = (a_do ∷ a, h.1, (omega (arith, h.0, longer a), refl))
  act_lift while_close a s' n h w = let p = pops a_do a s' n h.0 h.1 (w refl) in (p.0, p.1, (p.2, p.3))

  nest_lift : (mid : List Line) (a s' : List Mark) → Nest (a ++ base) mid s' → ScanPasses (suc (length base)) mid
      → (b : List Mark) × (s' ≡ b ++ base) × Nest (a ++ m ∷ base) (raised mid) (b ++ m ∷ base)
  nest_lift [] a s' h w = (a, sym h, refl)
  nest_lift (x ∷ xs) a s' h (v ▸ w) =
      let low : has (label_name (sort x)) ≡ false → suc (length base) ≤ x.indent = λ n. ltb-false x.indent (suc (length base)) (sym (stops_plain (suc (length base)) x n) ∙ v) in
      let l = act_lift (sort x) a h.0 x.indent h.1 low in
      let r = nest_lift xs l.0 s' (subst (λ (z : List Mark). Nest z xs s') l.1 h.2) w in
      (r.0, r.1, (l.0 ++ m ∷ base, l.2, r.2))

no_length : (b s : List Mark) → length (b ++ s) ≡ length s → b ≡ []
no_length [] s e = refl
no_length (c ∷ b) s e = absurd (omega (arith, length-append b s))

-- lines that leave as many braces open as they found, inside one more brace
nest_wrap : (m : Mark) (s : List Mark) (mid : List Line) (s₂ : List Mark) → Nest s mid s₂ → length s₂ ≡ length s → ScanPasses (suc (length s)) mid
    → (s₂ ≡ s) × Nest (m ∷ s) (raised mid) (m ∷ s)
nest_wrap m s mid s₂ h e w =
    let r = nest_lift m s mid [] s₂ h w in
    let z : r.0 ≡ [] = no_length r.0 s (sym (ap length r.1) ∙ e) in
    (r.1 ∙ ap (λ (b : List Mark). b ++ s) z, subst (λ (b : List Mark). Nest (m ∷ s) (raised mid) (b ++ m ∷ s)) z r.2)

act_as : (k k' : Sort) (s : List Mark) (n : ℕ) (s' : List Mark) → k ≡ k' → Act k s n s' → Act k' s n s'
act_as k k' s n s' e h = subst (λ (z : Sort). Act z s n s') e h

-- ---- a region of either pass keeps the nesting
pub nest_if : (pre : List Line) (l : Line) (mid : List Line) (x : Line) (rest : List Line) (t : List ℕ) → IfHere t l mid x → Fit t l.toks
    → Nest [] (pre ++ l ∷ (mid ++ x ∷ rest)) [] → Nest [] (form_if pre l mid (x ∷ rest)) []
unfolding named
nest_if pre l mid x rest t i f h =
    let a = nest_split [] pre _ [] h in
    let s : List Mark = a.0 in
    let al = act_as (sort l) (cond_to t) s l.indent a.2.0 i.jump a.2.1 in
    let b = nest_split s mid (x ∷ rest) [] (subst (λ (z : List Mark). Nest z (mid ++ x ∷ rest) []) al.1 a.2.2) in
    let ax = act_as (sort x) (label t) b.0 x.indent b.2.0 (label_sort (sort x) t (is_some t (label_name (sort x)) i.is_goal)) b.2.1 in
    let same : length b.0 ≡ length s = omega (arith, al.0, i.outside, ax.0) in
    let v = nest_wrap an_if s mid b.0 b.1 same (subst (λ (d : ℕ). ScanPasses d mid) al.0 i.runs) in
    nest_append [] pre _ s [] a.1 (
      an_if ∷ s,
      act_as if_open (sort (opened l)) s l.indent (an_if ∷ s) (sym f.open_sort) (al.0, refl),
      nest_append (an_if ∷ s) (raised mid) _ (an_if ∷ s) [] v.1 (
        s,
        act_as close (sort (closer l.indent)) (an_if ∷ s) l.indent s (sym close_sort) (al.0, refl),
        subst (λ (z : List Mark). Nest z (x ∷ rest) []) v.0 b.2,
      ),
    )

pub nest_do : (pre : List Line) (l : Line) (mid : List Line) (y : Line) (post : List Line) (t : List ℕ) → DoHere pre t l mid y post → Fit t y.toks
    → Nest [] (pre ++ l ∷ (mid ++ y ∷ post)) [] → Nest [] (form_do pre l mid y post) []
nest_do pre l mid y post t i f h =
    let a = nest_split [] pre _ [] h in
    let s : List Mark = a.0 in
    let al = act_as (sort l) (label t) s l.indent a.2.0 i.head a.2.1 in
    let b = nest_split s mid (y ∷ post) [] (subst (λ (z : List Mark). Nest z (mid ++ y ∷ post) []) al.1 a.2.2) in
    let ay = act_as (sort y) (cond_to t) b.0 y.indent b.2.0 i.is_back b.2.1 in
    let same : length b.0 ≡ length s = omega (arith, al.0, i.level, ay.0) in
    let v = nest_wrap a_do s mid b.0 b.1 same (subst (λ (d : ℕ). ScanPasses (suc d) mid) al.0 i.runs) in
    nest_append [] pre _ s [] a.1 (
      a_do ∷ s,
      act_as do_open (sort (do_line l)) s (suc l.indent) (a_do ∷ s) (sym do_sort) (ap suc al.0, refl),
      nest_append (a_do ∷ s) (raised mid) _ (a_do ∷ s) [] v.1 (
        s,
        act_as while_close (sort (while_line (suc l.indent) y)) (a_do ∷ s) (suc l.indent) s (sym f.while_sort) (ap suc al.0, refl),
        subst (λ (z : List Mark). Nest z post []) (ay.1 ∙ v.0) b.2.2,
      ),
    )
