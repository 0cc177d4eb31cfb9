-- What holds of every accepted file: its lowered lines are plain, and the finished listing fits the lent buffers.
-- Lowering owes shapes (LoweredOwed), which are the passes' premises (Plain) line by line; the rooms follow from refusal 8's limits.
use mathlib.Core.Path.{◌≡◌, refl, sym, subst, ◌∙◌}
use mathlib.Core.Bool.{true, false, ◌||◌}
use mathlib.Core.List.{List, [], ◌∷◌}
use Prim.Native.Nat.{ℕ, ◌+◌, ◌≤◌}
use native.Mathlib.Omega.{arith}
use lib.Dec.{ltb}
use lib.ListN.{length}
use borrow.Author.Tests.{ltb-false, le-ltb}
use Rattle.definition.specs.Lists.{all, has}
use Rattle.definition.specs.Texts.{txt}
use Rattle.definition.specs.Edition.{Edition, Room}
use Rattle.definition.specs.Shape.{refused4}
use Rattle.definition.specs.References.{refused5}
use Rattle.definition.specs.Meaning.{refused6}
use Rattle.definition.specs.Read.{read}
use Rattle.definition.specs.Offsets.{Known, offsets}
use Rattle.definition.specs.Numbers.{label}
use Rattle.definition.specs.Tokens.{Line, symbol, punct, line, merge}
use Rattle.definition.specs.Blocks.{lower}
use Rattle.definition.specs.Sorts.{Sort, sort}
use Rattle.definition.specs.Passes.{cond_name, conds}
use Rattle.definition.specs.Listing.{Listing, token_count, byte_count, refused8, structure, list}
use Rattle.definition.specs.Listing.Outcome.{listed}
use Rattle.definition.proofs.Bools.{both_false}
use Rattle.definition.proofs.ListLaws.{count_length, each_to}
use Rattle.definition.proofs.Refusals.{lowered, holds, accepts, accepted_when}
use Rattle.definition.proofs.TokenSorts.{if_tokens, if_sort, label_line_lem}
use Rattle.definition.proofs.Fits.{FitAs, FitLine}
use Rattle.definition.proofs.IfGoto.{fit}
use Rattle.definition.proofs.Plain.{FlatAs, Plain}
use Rattle.definition.proofs.Structured.{shaped}
use Rattle.definition.proofs.LoweredLines.{Stated}
use Rattle.definition.proofs.LoweredLines.Stated.{conditional, jump, simple}
use Rattle.definition.proofs.LoweredShapes.{LineShape}
use Rattle.definition.proofs.LoweredShapes.LineShape.{labelled, stated}
use Rattle.definition.proofs.LoweredRead.{ends_with_text}
use Rattle.definition.proofs.LoweredOwed.{Owed, owed}

-- ---- a shaped line is flat and fits
module _ {P : List ℕ → Type 0} where
  flat_stated : {x : Line} → Stated P x → FlatAs (sort x) x.indent
  unfolding line
  flat_stated (conditional a C t c p) = subst (λ (s : Sort). FlatAs s 1) (sym (if_sort C t c)) refl
  flat_stated (jump a ts t e p) = subst (λ (s : Sort). FlatAs s 1) (sym e) refl
  flat_stated (simple a ts e) = subst (λ (s : Sort). FlatAs s 1) (sym e) refl

  flat_shaped : {x : Line} → LineShape P x → FlatAs (sort x) x.indent
  unfolding line
  flat_shaped (labelled a) = subst (λ (s : Sort). FlatAs s 0) (sym (label_line_lem (label a))) refl
  flat_shaped (stated s) = flat_stated s

fit_stated : {x : Line} → Stated (λ s. 1 ≤ length s) x → FitLine x
unfolding line cond_name
fit_stated (conditional a C t c p) =
    subst (λ (s : Sort). FitAs (merge (if_tokens C (symbol t))) (cond_name s)) (sym (if_sort C t c)) (fit C t c p)
fit_stated (jump a ts t e p) = subst (λ (s : Sort). FitAs (merge ts) (cond_name s)) (sym e) tt
fit_stated (simple a ts e) = subst (λ (s : Sort). FitAs (merge ts) (cond_name s)) (sym e) tt

fit_shaped : {x : Line} → LineShape (λ s. 1 ≤ length s) x → FitLine x
unfolding line cond_name
fit_shaped (labelled a) = subst (λ (s : Sort). FitAs (merge (symbol (label a) ∷ punct (txt ":") ∷ [])) (cond_name s)) (sym (label_line_lem (label a))) tt
fit_shaped (stated s) = fit_stated s

-- lowered lines are plain, whatever 7, 8 and 9 say
pub plain_lowered : (E : Edition) (f : List ℕ) (t : List Known) → ends_with_text E.sections ≡ true → all (λ b. ltb b 256) f ≡ true
    → refused4 E f ≡ false → refused5 E f ≡ false → refused6 E f ≡ false → Plain (lower (read E f) t)
plain_lowered E f t ends bytes r4 r5 r6 =
    let o = owed E f t ends bytes r4 r5 r6 in
    record { flat = each_to (λ x. flat_shaped) o.shaped; fits = each_to (λ x. fit_shaped) o.shaped; once = λ n a. o.once n }

-- ---- refusal 8: within the limits exactly when it is not given
pub record Within (R : Room) (ls : List Line) : Type 0 where
  pub lines : length ls ≤ R.lines
  pub tokens : token_count ls ≤ R.tokens
  pub bytes : byte_count ls ≤ R.bytes

pub within : (R : Room) (ls : List Line) → refused8 R ls ≡ false → Within R ls
unfolding refused8
within R ls h =
    let a = both_false (ltb R.lines (length ls) || ltb R.tokens (token_count ls)) (ltb R.bytes (byte_count ls)) h in
    let b = both_false (ltb R.lines (length ls)) (ltb R.tokens (token_count ls)) a.0 in
    record { lines = ltb-false _ _ b.0; tokens = ltb-false _ _ b.1; bytes = ltb-false _ _ a.1 }

pub not_eight : (R : Room) (ls : List Line) → Within R ls → refused8 R ls ≡ false
unfolding refused8
not_eight R ls w = rw (le-ltb R.lines (length ls) w.lines, le-ltb R.tokens (token_count ls) w.tokens, le-ltb R.bytes (byte_count ls) w.bytes)

-- ---- an accepted file: a list of bytes, in an edition whose last section is the text
module _ (E : Edition) (ends : ends_with_text E.sections ≡ true) (f : List ℕ) (bytes : all (λ b. ltb b 256) f ≡ true) (L : Listing) (accepted : list E f ≡ listed L) where
  -- no condition of a refusal holds
  sound : (i : ℕ) → holds E f i ≡ false
  sound = accepts E f L accepted

  pub owes : Owed (read E f) (lowered E f)
  owes = owed E f (offsets (read E f)) ends bytes (sound 2) (sound 3) (sound 4)

  pub finished : structure (lowered E f) ≡ listed L
  finished = sym (accepted_when E f sound) ∙ accepted

  pub lowered_within : Within E.lowered (lowered E f)
  lowered_within = within E.lowered (lowered E f) (sound 6)

  -- the passes' premises
  pub is_plain : Plain (lowered E f)
  is_plain = plain_lowered E f (offsets (read E f)) ends bytes (sound 2) (sound 3) (sound 4)

  -- the finished listing has room: at most twice the lines, and no more tokens and text than lowering wrote
  pub roomy : Within (record { lines = E.lowered.lines + E.lowered.lines; tokens = E.lowered.tokens; bytes = E.lowered.bytes }) L.lines
  unfolding conds
  roomy =
      let s = shaped (lowered E f) L is_plain finished in
      let w = lowered_within in
      record {
        lines = omega (arith, s.line_room, w.lines, count_length (λ x. has (cond_name (sort x))) (lowered E f));
        tokens = omega (arith, s.token_room, w.tokens);
        bytes = omega (arith, s.text_room, w.bytes);
      }
