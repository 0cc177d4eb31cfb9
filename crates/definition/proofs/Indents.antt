-- Each indent fits a byte: a label stands at 254 or less and any other line at 255 or less, since no region formed goes too deep.
use mathlib.Core.Path.{◌≡◌, refl, sym, ap, subst, ◌∙◌}
use mathlib.Core.Bool.{Bool, true, false, cond, true≢false}
use mathlib.Core.List.{List, ◌∷◌, ◌++◌}
use Prim.Native.Nat.{ℕ, suc, ◌≤◌, ◌<◌}
use native.Mathlib.Omega.{arith}
use borrow.Author.Tests.{leb-false}
use lib.Dec.{leb}
use Rattle.definition.specs.Lists.{any, has}
use Rattle.definition.specs.Tokens.{Line}
use Rattle.definition.specs.Sorts.{Sort, sort}
use Rattle.definition.specs.Sorts.Sort.{label, cond_to, jump_to, plain, if_open, close, do_open, while_close}
use Rattle.definition.specs.Passes.{label_name, deep, raise, raised, opened, closer, do_line, while_line, if_step, do_step, drop_unused_labels}
use Rattle.definition.specs.Listing.{Listing, structure}
use Rattle.definition.specs.Listing.Outcome.{listed}
use Rattle.definition.proofs.Bools.{by_test}
use Rattle.definition.proofs.ListLaws.{Each, each_append, each_left, each_right, each_map, each_only, any_each, each_head, ◌▸◌, each_tail, each_to}
use Rattle.definition.proofs.TokenSorts.{close_sort, do_sort}
use Rattle.definition.proofs.Steps.{Steps, run, KeptByIf, KeptByDo, if_steps_keep, do_steps_keep}
use Rattle.definition.proofs.Plain.{FlatAs, Flat, Plain}
use Rattle.definition.proofs.Drop.{keep}

pub record Low (x : Line) : Type 0 where
  pub any_line : x.indent ≤ 255
  pub a_label : has (label_name (sort x)) ≡ true → x.indent ≤ 254

-- a line of a sort that is no label
low_other : (x : Line) (s : Sort) → sort x ≡ s → has (label_name s) ≡ false → x.indent ≤ 255 → Low x
low_other x s e n w = record { any_line = w; a_label = λ h. absurd (true≢false (sym h ∙ ap (λ (s : Sort). has (label_name s)) e ∙ n)) }

-- a line that is not too deep may be raised
low_raise : (x : Line) → deep x ≡ false → Low (raise x)
unfolding deep
low_raise x h =
    let by : (b : Bool) → has (label_name (sort x)) ≡ b → cond b (leb 254 x.indent) (leb 255 x.indent) ≡ false =
    λ b e. sym (ap (λ (b : Bool). cond b (leb 254 x.indent) (leb 255 x.indent)) e) ∙ h in
    by_test (has (label_name (sort x)))
    (λ e. let w : x.indent < 254 = leb-false 254 x.indent (by true e) in record { any_line = omega arith; a_label = λ n. omega arith })
    (λ e. low_other (raise x) (sort x) refl e (leb-false 255 x.indent (by false e)))

low_raised : (mid : List Line) → any deep mid ≡ false → Each Low (raised mid)
low_raised mid d = each_map raise low_raise (any_each deep mid d)

low_if : KeptByIf (Each Low)
unfolding has label_name
low_if pre l mid goal rest t i f d h =
    let r = each_right pre (l ∷ (mid ++ goal ∷ rest)) h in
    let w = (each_head r).any_line in
    each_append (each_left pre _ h) (low_other (opened l) if_open f.open_sort refl w
    ▸ each_append (low_raised mid d) (low_other (closer l.indent) close close_sort refl w ▸ each_right mid (goal ∷ rest) (each_tail r)))

low_do : KeptByDo (Each Low)
unfolding has label_name
low_do pre l mid b post t i f d h =
    let r = each_right pre (l ∷ (mid ++ b ∷ post)) h in
    let w : l.indent ≤ 254 = (each_head r).a_label (ap (λ (s : Sort). has (label_name s)) i.head) in
    each_append (each_left pre _ h) (low_other (do_line l) do_open do_sort refl (omega arith)
    ▸ each_append (low_raised mid d)
    (low_other (while_line (suc l.indent) b) while_close f.while_sort refl (omega arith) ▸ each_tail (each_right mid (b ∷ post) (each_tail r))))

flat_low_at : (s : Sort) (n : ℕ) → FlatAs s n → n ≤ 1
flat_low_at (label t) n h = omega arith
flat_low_at (cond_to t) n h = omega arith
flat_low_at (jump_to t) n h = omega arith
flat_low_at plain n h = omega arith
flat_low_at if_open n h = absurd h
flat_low_at close n h = absurd h
flat_low_at do_open n h = absurd h
flat_low_at while_close n h = absurd h

flat_low : (ls : List Line) → Flat ls → Each Low ls
flat_low ls = each_to (λ x h. let w = flat_low_at (sort x) x.indent h in record { any_line = omega arith; a_label = λ e. omega arith })

-- after each step of either pass
pub indents_steps : (low mid fin : List Line) (n k : ℕ) → Plain low → Steps if_step low n mid → Steps do_step mid k fin → Each Low fin
indents_steps low mid fin n k p s u =
    let i = if_steps_keep (Each Low) low_if s p.fits (flat_low low p.flat) in
    (do_steps_keep (Each Low) low_do u i.0 i.1).1

pub indents : (low : List Line) (L : Listing) → Plain low → structure low ≡ listed L → Each Low L.lines
unfolding drop_unused_labels
indents low L p e =
    let r = run low L p.fits e in
    subst (Each Low) (sym r.lines_are) (each_only (keep r.fin) (indents_steps low r.mid r.fin L.ifs L.loops p r.if_steps r.do_steps))
