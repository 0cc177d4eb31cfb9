-- Demand 3, as one record: each region keeps its clauses, and so does dropping the unused labels.
use mathlib.Core.Path.{◌≡◌, refl, sym, ap, subst, ◌∙◌}
use mathlib.Core.List.{List, [], ◌∷◌}
use Prim.Native.Nat.{ℕ, ◌+◌, ◌≤◌, ◌<◌}
use native.Mathlib.Omega.{arith}
use lib.ListN.{length}
use Rattle.definition.specs.Texts.{same}
use Rattle.definition.specs.Lists.{only, count}
use Rattle.definition.specs.Tokens.{Line}
use Rattle.definition.specs.Passes.{named, aims, conds, drop_unused_labels, form_do}
use Rattle.definition.specs.Listing.{Listing, structure, token_count, byte_count}
use Rattle.definition.specs.Listing.Outcome.{listed}
use Rattle.definition.proofs.Bools.{by_test}
use Rattle.definition.proofs.TextLaws.{same_eq}
use Rattle.definition.proofs.ListLaws.{bit, total_only, total_length}
use Rattle.definition.proofs.Merge.{size}
use Rattle.definition.proofs.Fits.{Fits}
use Rattle.definition.proofs.Nest.{Nest, nest_if, nest_do}
use Rattle.definition.proofs.Counts.{if_lines_lem, if_tokens_lem, if_bytes, if_conds, if_labels, if_aims, do_lines, do_tokens_lem, do_bytes, do_conds, do_labels, do_aims, do_alone}
use Rattle.definition.proofs.Body.{body, if_body, do_body}
use Rattle.definition.proofs.Steps.{Run, run, KeptByIf, KeptByDo, if_steps_keep, do_steps_keep}
use Rattle.definition.proofs.Plain.{Plain, Met, flat_nest}
use Rattle.definition.proofs.Drop.{keep, drop_nest, drop_body, drop_aims, drop_labels, drop_used}

-- what holds of every listing `out` of the lowered lines `low`
pub record Shaped (low out : List Line) : Type 0 where
  -- braces nest, and each indent follows from the open braces: their number for a label, one more for any other line
  pub nest : Nest [] out []
  -- every lowered line but labels and conditional jumps stands once, in order, unchanged but for its indent
  pub same : body low ≡ body out
  -- each label kept is named by a goto
  pub used : (t : List ℕ) → 0 < count (named t) out → 0 < count (aims t) out
  -- no more tokens, no more text, and at most one line more for each conditional jump
  pub token_room : token_count out ≤ token_count low
  pub text_room : byte_count out ≤ byte_count low
  pub line_room : length out ≤ length low + conds low

-- demand 3: `own` says which names are the function's own labels
pub record Structured (own : List ℕ → Type 0) (low out : List Line) : Type 0 where
  pub shaped : Shaped low out
  -- each goto to an own label meets exactly one label
  pub met : Met own out

-- ---- what each region keeps
record Kept (low ls : List Line) : Type 0 where
  nest : Nest [] ls []
  same : body low ≡ body ls
  token_room : token_count ls ≤ token_count low
  text_room : byte_count ls ≤ byte_count low
  line_room : length ls + conds ls ≤ length low + conds low

module _ (low : List Line) where
  kept_if : KeptByIf (Kept low)
  kept_if pre l mid goal rest t i f d h =
      let post : List Line = goal ∷ rest in
      record {
        nest = nest_if pre l mid goal rest t i f h.nest;
        same = h.same ∙ if_body pre l mid post t i.jump f;
        token_room = omega (arith, h.token_room, if_tokens_lem pre l mid post t i.jump f);
        text_room = omega (arith, h.text_room, if_bytes pre l mid post t i.jump f);
        line_room = omega (arith, h.line_room, if_lines_lem pre l mid post t i.jump f, if_conds pre l mid post t i.jump f);
      }

  kept_do : KeptByDo (Kept low)
  kept_do pre l mid b post t i f d h = record {
    nest = nest_do pre l mid b post t i f h.nest;
    same = h.same ∙ do_body pre l mid b post t i.head i.is_back f;
    token_room = omega (arith, h.token_room, do_tokens_lem pre l mid b post t i.head i.is_back f);
    text_room = omega (arith, h.text_room, do_bytes pre l mid b post t i.head i.is_back f);
    line_room = omega (arith, h.line_room, do_lines pre l mid b post t i.head i.is_back f, do_conds pre l mid b post t i.head i.is_back f);
  }

module _ (own : List ℕ → Type 0) where
  met_if : KeptByIf (Met own)
  met_if pre l mid goal rest t i f d h u o a =
      if_labels pre l mid (goal ∷ rest) t i.jump f u ∙ h u o (omega (arith, if_aims pre l mid (goal ∷ rest) t i.jump f u))

  -- the head's label goes, and with it the one goto to it
  met_do : KeptByDo (Met own)
  met_do pre l mid b post t i f d h u o a =
      let out : List Line = form_do pre l mid b post in
      let labels = do_labels pre l mid b post t i.head i.is_back f u in
      let gotos = do_aims pre l mid b post t i.head i.is_back f u in
      by_test (same t u) (λ e.
      let none_left : count (aims u) out ≡ 0 =
      subst (λ (z : List ℕ). count (aims z) out ≡ 0) (same_eq t u e) (do_alone pre l mid b post t i.head i.is_back f i.alone) in
      absurd (omega arith))
      (λ e. omega (arith, ap bit e, labels, gotos, h u o (omega (arith, gotos))))

-- ---- the theorems
module _ (low : List Line) (L : Listing) (p : Plain low) (e : structure low ≡ listed L) where
  made : Run low L
  made = run low L p.fits e

  all_kept : Fits made.fin × Kept low made.fin
  all_kept =
      let k₀ : Kept low low =
      record { nest = flat_nest low p.flat; same = refl; token_room = omega arith; text_room = omega arith; line_room = omega arith } in
      let k₁ = if_steps_keep (Kept low) (kept_if low) made.if_steps p.fits k₀ in
      do_steps_keep (Kept low) (kept_do low) made.do_steps k₁.0 k₁.1

  pub shaped : Shaped low L.lines
  unfolding drop_unused_labels token_count byte_count
  shaped =
      let fin : List Line = made.fin in
      let k : Kept low fin = all_kept.1 in
      subst (Shaped low) (sym made.lines_are) (record {
        nest = drop_nest fin [] fin [] k.nest;
        same = k.same ∙ sym (drop_body fin fin);
        used = λ t a. subst (λ (n : ℕ). 0 < n) (sym (drop_aims fin t fin)) (drop_used fin t fin a);
        token_room = omega (arith, k.token_room, total_only (λ x. length x.toks) (keep fin) fin);
        text_room = omega (arith, k.text_room, total_only (λ x. size x.toks) (keep fin) fin);
        line_room = omega (arith, k.line_room, total_only (λ x. 1) (keep fin) fin, total_length fin, total_length (only (keep fin) fin));
      })

  pub structured : (own : List ℕ → Type 0) → Met own low → Structured own low L.lines
  unfolding drop_unused_labels
  structured own m =
      let fin : List Line = made.fin in
      let m₁ = if_steps_keep (Met own) (met_if own) made.if_steps p.fits m in
      let m₂ = do_steps_keep (Met own) (met_do own) made.do_steps m₁.0 m₁.1 in
      record {
        shaped = shaped;
        met = subst (Met own) (sym made.lines_are) (λ t o a.
            let a' : 0 < count (aims t) fin = subst (λ (n : ℕ). 0 < n) (drop_aims fin t fin) a in
            drop_labels fin t a' fin ∙ m₂.1 t o a');
      }
