-- What an answer of the printer means, by its number. 0: the lines that are read back from the lent buffers are the listing of the file, for which all
-- demands hold. 1: a length is wrong. 2 to 9: that condition holds of the file, and none before it. With a refusal everything lent is zeros.
use mathlib.Core.Path.{◌≡◌, sym, subst, ap, ◌∙◌}
use mathlib.Core.Logic.{◌⊎◌, inl, inr}
use mathlib.Core.Bool.{Bool, true, false, ◌&&◌}
use mathlib.Core.List.{List}
use Prim.Native.Nat.{ℕ, zero, suc, ◌+◌, ◌≤◌, ◌<◌}
use native.Mathlib.Omega.{arith}
use lib.Dec.{ltb}
use lib.ListN.{length}
use Rattle.definition.specs.Edition.{edition1}
use Rattle.definition.specs.Lists.{all}
use Rattle.definition.specs.Read.{read}
use Rattle.definition.specs.Offsets.{offsets}
use Rattle.definition.specs.Tokens.{Line}
use Rattle.definition.specs.Passes.{conds}
use Rattle.definition.specs.Listing.{Listing, Lent, Result, refusal, success, result_of, fits, list}
use Rattle.definition.specs.Listing.Outcome.{refused, listed}
use Rattle.definition.proofs.Bools.{by_test}
use Rattle.definition.proofs.ListLaws.{Each}
use Rattle.definition.proofs.Refusals.{lowered, holds, refuses, refused_when, one_of, refused_one, not_one}
use Rattle.definition.proofs.Steps.{Run}
use Rattle.definition.proofs.Structured.{Shaped, Structured}
use Rattle.definition.proofs.Indents.{Low}
use Rattle.definition.proofs.LoweredAims.{destined, unspelled}
use Rattle.definition.proofs.LoweredRead.{edition1_text}
use Rattle.definition.proofs.Accepted.{Within, finished, is_plain}
use Rattle.definition.proofs.Demand3 as demand
use Rattle.tables.specs.Tables.{Tables}
use Rattle.sorts.specs.Sorted.{lines_in}
use Rattle.structure.proofs.ProperLines.{proper}
use Rattle.lent.specs.declared.answer.Answer.{Answer}
use Rattle.lent.specs.Answers.{answered}
use Rattle.lent.specs.Lengths.{lent_of}
use Rattle.lister.specs.Lists.{ready, Lists}
use Rattle.lister.proofs.ReadBack.{finished_proper, read_back}

-- the listing as a caller reads it
abbrev pub listing_in : Answer → List ℕ → List ℕ → List ℕ → Listing
listing_in r l d x = record { lines = lines_in l d x r.lines; ifs = r.ifs; loops = r.loops }

-- `right`: every length is as documented
module _ (f : List ℕ) (B : Lent) (right : Bool) (r : Answer) (l d x : List ℕ) where
  -- 0
  pub record Printed : Type 0 where
    pub lengths : right ≡ true
    pub accepted : list edition1 f ≡ listed (listing_in r l d x)
    pub whole : answered r l d x ≡ success B (listing_in r l d x)
    pub shaped : Shaped (lowered edition1 f) (lines_in l d x r.lines)
    pub structured : destined (read edition1 f) ≡ true → unspelled (read edition1 f) ≡ true
        → Structured (demand.Own (read edition1 f)) (lowered edition1 f) (lines_in l d x r.lines)
    pub steps : Run (lowered edition1 f) (listing_in r l d x)
    pub few_steps : r.ifs + r.loops ≤ conds (lowered edition1 f)
    pub low_indents : Each Low (lines_in l d x r.lines)
    pub has_room : Within edition1.lent (lines_in l d x r.lines)

  -- 1
  pub record Wrong : Type 0 where
    pub lengths : right ≡ false
    pub whole : answered r l d x ≡ refusal B 1

  -- 2 + i
  pub record Refused (i : ℕ) : Type 0 where
    pub lengths : right ≡ true
    pub below : i < 8
    pub condition : holds edition1 f i ≡ true
    pub first : (j : ℕ) → j < i → holds edition1 f j ≡ false
    pub whole : answered r l d x ≡ refusal B (2 + i)

  abbrev pub Means : ℕ → Type 0
  Means zero = Printed
  Means (suc zero) = Wrong
  Means (suc (suc i)) = Refused i

-- what a listing comes of is proper, so it reads back from the result
abbrev read_in : Result → Listing
read_in R = record { lines = lines_in R.line_buffer R.token_buffer R.text_buffer R.lines; ifs = R.ifs; loops = R.loops }

module _ (f : List ℕ) (bytes : all (λ b. ltb b 256) f ≡ true) (B : Lent) (L : Listing) (e : list edition1 f ≡ listed L) where
  reads_back : read_in (success B L) ≡ L
  unfolding success
  reads_back =
      ap (λ (xs : List Line). record { lines = xs; ifs = L.ifs; loops = L.loops })
      (read_back B.lines B.tokens B.text L.lines
      (finished_proper (lowered edition1 f) L (is_plain edition1 edition1_text f bytes L e) (proper (read edition1 f) (offsets (read edition1 f)))
      (finished edition1 edition1_text f bytes L e)))

module _ (f : List ℕ) (bytes : all (λ b. ltb b 256) f ≡ true) (l d x : List ℕ) (r : Answer) (l' d' x' ls ks t ls' ks' t' : List ℕ) (T T' : Tables)
    (p : Lists f l d x r l' d' x' ls ks t ls' ks' t' T T') where
  abbrev B : Lent
  B = lent_of (length l) (length d) (length x)

  abbrev right : Bool
  right = ready ls ks t T && fits edition1 B

  wrong : right ≡ false → Wrong f B right r l' d' x'
  wrong h = record { lengths = h; whole = p.listing ∙ refused_one edition1 f B (ready ls ks t T) h }

  module _ (h : right ≡ true) where
    of_list : answered r l' d' x' ≡ result_of B (list edition1 f)
    of_list = p.listing ∙ not_one edition1 f B (ready ls ks t T) h

    refusal_is : (i : ℕ) → i < 8 → list edition1 f ≡ refused (2 + i) → Refused f B right r l' d' x' i
    unfolding result_of
    refusal_is i b e =
        let q = refuses edition1 f i e in
        record { lengths = h; below = b; condition = q.0; first = q.1; whole = of_list ∙ ap (result_of B) e }

    printed : (L : Listing) → list edition1 f ≡ listed L → Printed f B right r l' d' x'
    unfolding result_of answered
    printed L e =
        let s : answered r l' d' x' ≡ success B L = of_list ∙ ap (result_of B) e in
        let z : L ≡ listing_in r l' d' x' = sym (ap read_in s ∙ reads_back f bytes B L e) in
        let a : list edition1 f ≡ listed (listing_in r l' d' x') = e ∙ ap listed z in
        record {
          lengths = h;
          accepted = a;
          whole = s ∙ ap (success B) z;
          shaped = demand.without_premises f bytes _ a;
          structured = demand.demand_3 f bytes _ a;
          steps = demand.steps f bytes _ a;
          few_steps = demand.few_steps f bytes _ a;
          low_indents = demand.low_indents f bytes _ a;
          has_room = demand.has_room f bytes _ a;
        }

    by_outcome : ((i : ℕ) × (i < 8) × (list edition1 f ≡ refused (2 + i))) ⊎ ((L : Listing) × (list edition1 f ≡ listed L)) → Means f B right r l' d' x' r.number
    unfolding answered success refusal
    by_outcome (inl o) =
        let q = refusal_is o.0 o.1 o.2 in
        let z : suc (suc o.0) ≡ 2 + o.0 = omega arith in
        subst (Means f B right r l' d' x') (z ∙ sym (ap (λ (R : Result). R.number) q.whole)) q
    by_outcome (inr o) =
        let q = printed o.0 o.1 in
        subst (Means f B right r l' d' x') (sym (ap (λ (R : Result). R.number) q.whole)) q

  -- every answer means what its number says
  pub means : Means f B right r l' d' x' r.number
  unfolding answered refusal
  means = by_test right (λ h. by_outcome h (one_of edition1 f))
      (λ h. let q = wrong h in subst (Means f B right r l' d' x') (sym (ap (λ (R : Result). R.number) q.whole)) q)

  -- and each refusal is given where it is due
  pub refused_right : right ≡ true → (i : ℕ) → holds edition1 f i ≡ true → ((j : ℕ) → j < i → holds edition1 f j ≡ false) → answered r l' d' x' ≡ refusal B (2 + i)
  unfolding result_of
  refused_right h i c n = of_list h ∙ ap (result_of B) (refused_when edition1 f i c n)

  pub refused_wrong : right ≡ false → answered r l' d' x' ≡ refusal B 1
  refused_wrong h = (wrong h).whole
