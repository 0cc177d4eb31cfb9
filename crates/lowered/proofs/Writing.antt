-- Lines written over zeros: where they fit they stand there with zeros behind, and where they do not the sheet is full and is emptied again.
use mathlib.Core.Path.{◌≡◌, refl, sym, ap, ◌∙◌}
use mathlib.Core.Bool.{Bool, true, false, cond}
use mathlib.Core.Option.{none, some, some-injective}
use mathlib.Core.List.{List}
use Prim.Native.Nat.{ℕ, ◌*◌, ◌≤◌}
use native.Mathlib.Omega.{arith}
use lib.ListN.{length, replicate}
use borrow.Author.Tests.{ne_eqb, eq-eqb}
use Rattle.definition.specs.Edition.{Edition, edition1}
use Rattle.definition.specs.Contents.{text}
use Rattle.definition.specs.Read.{read}
use Rattle.definition.specs.Offsets.{offsets}
use Rattle.definition.specs.Blocks.{lower}
use Rattle.definition.specs.Listing.{refused8, line_numbers}
use Rattle.definition.proofs.Bools.{none_some}
use Rattle.room.specs.declared.out.Out.{Out}
use Rattle.room.specs.Room.{Sheet, sheet_of, text_most, is_full, write_all, seen_sheet}
use Rattle.room.specs.Blank.{fresh, blank, filled}
use Rattle.room.proofs.View.{written}
use Rattle.structure.proofs.ProperLines.{proper}
use Rattle.lowered.specs.Lowered.{low_of, lines_of, up_to8, low_in}
use Rattle.lowered.specs.Passed.{Passes}

-- ---- what is seen
seen_full : (u : Sheet) → u.room.out.full ≡ true → seen_sheet u ≡ none
unfolding seen_sheet is_full
seen_full u h = ap (λ (b : Bool). cond b none (some u)) h

seen_free : (u : Sheet) → u.room.out.full ≡ false → seen_sheet u ≡ some u
unfolding seen_sheet is_full
seen_free u h = ap (λ (b : Bool). cond b none (some u)) h

-- ---- a refusal
refusal : (L T B : ℕ) (f : List ℕ) (n : ℕ) (l k x : List ℕ) → (n ≡ 0 → ⊥) → l ≡ replicate L 0 → k ≡ replicate T 0 → x ≡ replicate B 0
    → low_of (record { number = n; lines = 0 }) l k x ≡ low_in L T B f n
unfolding low_in
refusal L T B f n l k x h p q r = rw (ne_eqb n 0 h, p, q, r) refl

module _ (f : List ℕ) (n : ℕ) (l k x numbers offs places names live phi roots marks labels : List ℕ)
    (p : Passes f n l k x numbers offs places names live phi roots marks labels) where
  pub refused : (n ≡ 0 → ⊥) → low_of (record { number = n; lines = 0 }) l k x ≡ low_in (length l) (length k) (length x) f (up_to8 f n)
  unfolding up_to8
  refused h = rw (ne_eqb n 0 h) (refusal (length l) (length k) (length x) f n l k x h p.no_lines p.no_tokens p.no_text)

  -- ---- lines written
  module _ (z : n ≡ 0) (l' k' x' : List ℕ) (o : Out)
      (e : (E : Edition) → text E ≡ 8 → seen_sheet (sheet_of l' k' x' o) ≡ seen_sheet (write_all (sheet_of l k x fresh) (lower (read E f) (offsets (read E f))))) where
    abbrev over : Bool
    over = refused8 edition1.lowered (lines_of f)

    -- over a blank sheet
    blank_is : sheet_of l k x fresh ≡ blank (line_numbers * edition1.lowered.lines) edition1.lowered.tokens edition1.lowered.bytes
    unfolding blank
    blank_is =
        let w = p.room z in
        let a : l ≡ replicate (line_numbers * edition1.lowered.lines) 0 = p.no_lines ∙ ap (λ (m : ℕ). replicate m 0) w.0 in
        let b : k ≡ replicate edition1.lowered.tokens 0 = p.no_tokens ∙ ap (λ (m : ℕ). replicate m 0) w.1 in
        let d : x ≡ replicate edition1.lowered.bytes 0 = p.no_text ∙ ap (λ (m : ℕ). replicate m 0) w.2 in
        rw (a, b, d) refl

    short : edition1.lowered.bytes ≤ text_most
    unfolding edition1
    short = omega arith

    section : text edition1 ≡ 8
    unfolding text edition1
    section = refl

    seen_is : seen_sheet (sheet_of l' k' x' o) ≡ cond over none (some (filled (length l) (length k) (length x) (lines_of f)))
    unfolding lines_of
    seen_is =
        let w = p.room z in
        e edition1 section
        ∙ ap (λ (u : Sheet). seen_sheet (write_all u (lines_of f))) blank_is
        ∙ written edition1.lowered (lines_of f) short (proper (read edition1 f) (offsets (read edition1 f)))
        ∙ rw (w.0, w.1, w.2) refl

    full_is : o.full ≡ true → over ≡ true
    full_is h = go over (sym (seen_full (sheet_of l' k' x' o) h) ∙ seen_is)
      where
        go : (b : Bool) → none ≡ cond b none (some (filled (length l) (length k) (length x) (lines_of f))) → b ≡ true
        go true q = refl
        go false q = none_some q

    free_is : o.full ≡ false → (over ≡ false) × (sheet_of l' k' x' o ≡ filled (length l) (length k) (length x) (lines_of f))
    free_is h = go over (sym (seen_free (sheet_of l' k' x' o) h) ∙ seen_is)
      where
        go : (b : Bool) → some (sheet_of l' k' x' o) ≡ cond b none (some (filled (length l) (length k) (length x) (lines_of f)))
            → (b ≡ false) × (sheet_of l' k' x' o ≡ filled (length l) (length k) (length x) (lines_of f))
        go true q = none_some (sym q)
        go false q = (refl, some-injective _ _ q)

    number_is : (b : Bool) → over ≡ b → up_to8 f n ≡ cond b 8 0
    unfolding up_to8
    number_is b h = rw (eq-eqb n 0 z, h) refl

    -- too many: emptied again
    pub emptied : (l'' k'' x'' : List ℕ) → o.full ≡ true → length l' ≡ length l → length k' ≡ length k → length x' ≡ length x
        → (l'' ≡ replicate (length l') 0) × (k'' ≡ replicate (length k') 0) × (x'' ≡ replicate (length x') 0)
        → low_of (record { number = 8; lines = 0 }) l'' k'' x'' ≡ low_in (length l) (length k) (length x) f (up_to8 f n)
    emptied l'' k'' x'' h a b d q =
        refusal (length l) (length k) (length x) f 8 l'' k'' x'' (λ w. omega arith) (q.0 ∙ ap (λ (m : ℕ). replicate m 0) a) (q.1 ∙ ap (λ (m : ℕ). replicate m 0) b)
        (q.2 ∙ ap (λ (m : ℕ). replicate m 0) d)
        ∙ ap (low_in (length l) (length k) (length x) f) (sym (number_is true (full_is h)))

    pub listed : o.full ≡ false → low_of (record { number = 0; lines = o.lines }) l' k' x' ≡ low_in (length l) (length k) (length x) f (up_to8 f n)
    unfolding low_in filled
    listed h =
        let w = free_is h in
        ap (λ (u : Sheet). low_of (record { number = 0; lines = u.room.out.lines }) u.lines u.room.tokens u.room.text) w.1
        ∙ ap (low_in (length l) (length k) (length x) f) (sym (number_is false w.0))
