-- What a try that forms a region says of the lines around it, by induction on its scan; and that a step is a try at some line.
use mathlib.Core.Path.{◌≡◌, refl, sym, ap, subst, subst₂, ◌∙◌}
use mathlib.Core.Bool.{Bool, true, false, false≢true, ◌&&◌, ◌||◌}
use mathlib.Core.Option.{Option, none, some, some-injective}
use mathlib.Core.List.{List, [], ◌∷◌, ◌++◌}
use Prim.Native.Nat.{ℕ, suc}
use borrow.Author.Tests.{eqb-true}
use lib.Dec.{eqb}
use lib.Seq.{append_snoc}
use Rattle.definition.specs.Lists.{any, or_else}
use Rattle.definition.specs.Tokens.{Line}
use Rattle.definition.specs.Sorts.{sort}
use Rattle.definition.specs.Sorts.Sort.{label, cond_to}
use Rattle.definition.specs.Passes.{label_name, cond_name, named, backs, aimed, reached, stops, deep, Formed, unless, Cut, cons_cut, scan_at, scan, form_if, no_line, if_cut, if_at, if_try, Back, back_at, last_back, form_do, do_cut, do_at, do_try, first_formed, if_step, do_step}
use Rattle.definition.proofs.Bools.{none_some, both_true, both_false}
use Rattle.definition.proofs.ListLaws.{Each, ◌▸◌, end}
use Rattle.definition.proofs.SortLaws.{is_some, label_sort, cond_sort}

-- no line ends a scan at depth d
abbrev pub ScanPasses : ℕ → List Line → Type 0
ScanPasses d ls = Each (λ x. stops d x ≡ false) ls

-- a try: with a region formed at the line l, behind `pre` and before `xs`
abbrev pub Try : Type 0
Try = List Line → Line → List Line → Option Formed

-- the region around `mid`
abbrev pub formed : List Line → List Line → Formed
formed mid out = record { deep = any deep mid; lines = out }

-- what `unless` tests, and gives
unless_some : (b : Bool) (mid out : List Line) (o : Formed) → unless b mid out ≡ some o → (b ≡ false) × (o ≡ formed mid out)
unfolding unless
unless_some true mid out o e = none_some e
unless_some false mid out o e = (refl, sym (some-injective _ _ e))

pub unless_test : (b : Bool) (mid out : List Line) → unless b mid out ≡ none → b ≡ true
unfolding unless
unless_test true mid out e = refl
unless_test false mid out e = none_some (sym e)

pub unless_none : (b : Bool) (mid out : List Line) → b ≡ true → unless b mid out ≡ none
unfolding unless
unless_none true mid out e = refl
unless_none false mid out e = absurd (false≢true e)

-- ---- structure_ifs: the scan to the label
pub record Scanned (t : List ℕ) (d : ℕ) (xs : List Line) (c : Cut) : Type 0 where
  pub goal : Line
  pub rest : List Line
  pub whole : xs ≡ c.mid ++ goal ∷ rest
  pub post_is : c.post ≡ goal ∷ rest
  pub is_goal : named t goal ≡ true
  pub outside : suc goal.indent ≡ d
  pub runs : ScanPasses d c.mid

abbrev pub hits : List ℕ → ℕ → Line → Bool
hits t d x = named t x && eqb (suc x.indent) d

scan_at_lem : (t : List ℕ) (d : ℕ) (x : Line) (xs : List Line) → ((c : Cut) → scan t d xs ≡ some c → Scanned t d xs c)
    → (h : Bool) → hits t d x ≡ h → (s : Bool) → stops d x ≡ s → (r : Option Cut) → scan t d xs ≡ r → (c : Cut)
    → scan_at h s x xs r ≡ some c → Scanned t d (x ∷ xs) c
unfolding scan_at cons_cut
scan_at_lem t d x xs ih true eh s es r er c e =
    subst (Scanned t d (x ∷ xs)) (some-injective _ _ e)
    (record {
      goal = x;
      rest = xs;
      whole = refl;
      post_is = refl;
      is_goal = (both_true (named t x) (eqb (suc x.indent) d) eh).0;
      outside = eqb-true _ _ (both_true (named t x) (eqb (suc x.indent) d) eh).1;
      runs = end;
    })
scan_at_lem t d x xs ih false eh true es r er c e = none_some e
scan_at_lem t d x xs ih false eh false es none er c e = none_some e
scan_at_lem t d x xs ih false eh false es (some q) er c e =
    let i = ih q er in
    subst (Scanned t d (x ∷ xs)) (some-injective _ _ e)
    (record {
      goal = i.goal;
      rest = i.rest;
      whole = ap (λ (l : List Line). x ∷ l) i.whole;
      post_is = i.post_is;
      is_goal = i.is_goal;
      outside = i.outside;
      runs = es ▸ i.runs;
    })

pub scanned : (t : List ℕ) (d : ℕ) (xs : List Line) (c : Cut) → scan t d xs ≡ some c → Scanned t d xs c
unfolding scan
scanned t d [] c e = none_some e
scanned t d (x ∷ xs) c e = scan_at_lem t d x xs (scanned t d xs) (hits t d x) refl (stops d x) refl (scan t d xs) refl c e

-- an if that is formed at l, with `mid` inside and the label `goal` behind it
pub record IfHere (t : List ℕ) (l : Line) (mid : List Line) (goal : Line) : Type 0 where
  pub jump : sort l ≡ cond_to t
  pub is_goal : named t goal ≡ true
  pub outside : suc goal.indent ≡ l.indent
  pub runs : ScanPasses l.indent mid

module _ (pre : List Line) (l : Line) (xs : List Line) (o : Formed) (P : List Line → Formed → Type 0)
    (here : (t : List ℕ) (mid : List Line) (goal : Line) (rest : List Line) → IfHere t l mid goal → P (mid ++ goal ∷ rest) (formed mid (form_if pre l mid (goal ∷ rest)))) where
  if_cut_lem : (t : List ℕ) → cond_name (sort l) ≡ some t → (r : Option Cut) → scan t l.indent xs ≡ r → if_cut pre l r ≡ some o → P xs o
  unfolding if_cut
  if_cut_lem t ec none er e = none_some e
  if_cut_lem t ec (some c) er e =
      let s = scanned t l.indent xs c er in
      let u = (unless_some (no_line c.mid || reached (pre ++ l ∷ c.post) c.mid) c.mid (form_if pre l c.mid c.post) o e).1 in
      subst₂ P (sym s.whole) (ap (λ (z : List Line). formed c.mid (form_if pre l c.mid z)) (sym s.post_is) ∙ sym u)
      (here t c.mid s.goal s.rest (record { jump = cond_sort (sort l) t ec; is_goal = s.is_goal; outside = s.outside; runs = s.runs }))

  if_at_lem : (c : Option (List ℕ)) → cond_name (sort l) ≡ c → if_at pre l xs c ≡ some o → P xs o
  unfolding if_at
  if_at_lem none ec e = none_some e
  if_at_lem (some t) ec e = if_cut_lem t ec (scan t l.indent xs) refl e

  -- a try that forms an if
  pub if_here : if_try pre l xs ≡ some o → P xs o
  unfolding if_try
  if_here e = if_at_lem (cond_name (sort l)) refl e

-- ---- structure_do_while: the search for the last back edge
abbrev pub edge : List ℕ → ℕ → Line → Bool
edge t d x = eqb x.indent d && backs t x

pub record Backed (t : List ℕ) (d : ℕ) (xs : List Line) (c : Back) : Type 0 where
  pub whole : xs ≡ c.mid ++ c.back ∷ c.post
  pub is_back : sort c.back ≡ cond_to t
  pub level : c.back.indent ≡ d
  pub runs : ScanPasses d c.mid

pub edge_sort : (t : List ℕ) (d : ℕ) (x : Line) → edge t d x ≡ true → sort x ≡ cond_to t
unfolding backs
edge_sort t d x e = cond_sort (sort x) t (is_some t (cond_name (sort x)) (both_true (eqb x.indent d) (backs t x) e).1)

back_at_lem : (t : List ℕ) (d : ℕ) (x : Line) (xs : List Line) → ((c : Back) → last_back t d xs ≡ some c → Backed t d xs c)
    → (s : Bool) → stops d x ≡ s → (h : Bool) → edge t d x ≡ h → (r : Option Back) → last_back t d xs ≡ r → (c : Back)
    → back_at s h x xs r ≡ some c → Backed t d (x ∷ xs) c
unfolding back_at
back_at_lem t d x xs ih true es h eh r er c e = none_some e
back_at_lem t d x xs ih false es h eh (some q) er c e =
    let i = ih q er in
    subst (Backed t d (x ∷ xs)) (some-injective _ _ e)
    (record { whole = ap (λ (l : List Line). x ∷ l) i.whole; is_back = i.is_back; level = i.level; runs = es ▸ i.runs })
back_at_lem t d x xs ih false es true eh none er c e =
    subst (Backed t d (x ∷ xs)) (some-injective _ _ e)
    (record { whole = refl; is_back = edge_sort t d x eh; level = eqb-true _ _ (both_true (eqb x.indent d) (backs t x) eh).0; runs = end })
back_at_lem t d x xs ih false es false eh none er c e = none_some e

pub backed : (t : List ℕ) (d : ℕ) (xs : List Line) (c : Back) → last_back t d xs ≡ some c → Backed t d xs c
unfolding last_back
backed t d [] c e = none_some e
backed t d (x ∷ xs) c e = back_at_lem t d x xs (backed t d xs) (stops d x) refl (edge t d x) refl (last_back t d xs) refl c e

-- a loop that is formed at l, with `mid` inside and the back edge b behind it
pub record DoHere (pre : List Line) (t : List ℕ) (l : Line) (mid : List Line) (b : Line) (post : List Line) : Type 0 where
  pub head : sort l ≡ label t
  pub is_back : sort b ≡ cond_to t
  pub level : b.indent ≡ suc l.indent
  pub runs : ScanPasses (suc l.indent) mid
  pub alone : aimed t (pre ++ l ∷ (mid ++ post)) ≡ false

module _ (pre : List Line) (l : Line) (xs : List Line) (o : Formed) (P : List Line → Formed → Type 0)
    (here : (t : List ℕ) (mid : List Line) (b : Line) (post : List Line) → DoHere pre t l mid b post → P (mid ++ b ∷ post) (formed mid (form_do pre l mid b post))) where
  do_cut_lem : (t : List ℕ) → label_name (sort l) ≡ some t → (r : Option Back) → last_back t (suc l.indent) xs ≡ r → do_cut pre l t r ≡ some o → P xs o
  unfolding do_cut
  do_cut_lem t el none er e = none_some e
  do_cut_lem t el (some c) er e =
      let s = backed t (suc l.indent) xs c er in
      let a : Bool = aimed t (pre ++ l ∷ (c.mid ++ c.post)) in
      let r : Bool = reached (pre ++ c.post) c.mid in
      let u = unless_some (a || r) c.mid (form_do pre l c.mid c.back c.post) o e in
      subst₂ P (sym s.whole) (sym u.1)
      (here t c.mid c.back c.post (record { head = label_sort (sort l) t el; is_back = s.is_back; level = s.level; runs = s.runs; alone = (both_false a r u.0).0 }))

  do_at_lem : (c : Option (List ℕ)) → label_name (sort l) ≡ c → do_at pre l xs c ≡ some o → P xs o
  unfolding do_at
  do_at_lem none el e = none_some e
  do_at_lem (some t) el e = do_cut_lem t el (last_back t (suc l.indent) xs) refl e

  -- a try that forms a loop
  pub do_here : do_try pre l xs ≡ some o → P xs o
  unfolding do_try
  do_here e = do_at_lem (label_name (sort l)) refl e

-- ---- a step is a try at some line
module _ {ℓ} (try : Try) (o : Formed) (P : List Line → Type ℓ) (at : (pre : List Line) (l : Line) (xs : List Line) → try pre l xs ≡ some o → P (pre ++ l ∷ xs)) where
  first_line : (pre : List Line) (l : Line) (xs : List Line) → (first_formed try (pre ++ (l ∷ [])) xs ≡ some o → P (pre ++ l ∷ xs)) → (r : Option Formed) → try pre l xs ≡ r
      → or_else r (first_formed try (pre ++ (l ∷ [])) xs) ≡ some o → P (pre ++ l ∷ xs)
  unfolding or_else
  first_line pre l xs ih none er e = ih e
  first_line pre l xs ih (some q) er e = at pre l xs (er ∙ e)

  first_at : (pre ls : List Line) → first_formed try pre ls ≡ some o → P (pre ++ ls)
  unfolding first_formed
  first_at pre [] e = none_some e
  first_at pre (l ∷ xs) e = first_line pre l xs (λ h. subst P (append_snoc pre l xs) (first_at (pre ++ (l ∷ [])) xs h)) (try pre l xs) refl e

pub if_step_lem : (P : List Line → Formed → Type 0)
    → ((pre : List Line) (l : Line) (mid : List Line) (goal : Line) (rest : List Line) (t : List ℕ) → IfHere t l mid goal
    → P (pre ++ l ∷ (mid ++ goal ∷ rest)) (formed mid (form_if pre l mid (goal ∷ rest))))
    → (ls : List Line) (o : Formed) → if_step ls ≡ some o → P ls o
unfolding if_step
if_step_lem P h ls o e =
    first_at if_try o (λ z. P z o) (λ pre l xs. if_here pre l xs o (λ z q. P (pre ++ l ∷ z) q) (λ t mid goal rest. h pre l mid goal rest t)) [] ls e

pub do_step_lem : (P : List Line → Formed → Type 0)
    → ((pre : List Line) (l : Line) (mid : List Line) (b : Line) (post : List Line) (t : List ℕ) → DoHere pre t l mid b post
    → P (pre ++ l ∷ (mid ++ b ∷ post)) (formed mid (form_do pre l mid b post)))
    → (ls : List Line) (o : Formed) → do_step ls ≡ some o → P ls o
unfolding do_step
do_step_lem P h ls o e =
    first_at do_try o (λ z. P z o) (λ pre l xs. do_here pre l xs o (λ z q. P (pre ++ l ∷ z) q) (λ t mid b post. h pre l mid b post t)) [] ls e
