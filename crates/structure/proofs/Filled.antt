-- What a caller has of buffers that lowering filled: they hold its lines, the ends of the tokens rise, and each line's tokens are among them.
use mathlib.Core.Path.{◌≡◌, refl, sym, ap}
use mathlib.Core.List.{List, [], ◌∷◌}
use Prim.Native.Nat.{ℕ, zero, suc, ◌+◌, ◌*◌, ◌-◌, ◌/◌, ◌≤◌, ◌<◌}
use native.Mathlib.Omega.{arith}
use lib.ListN.{length, get_or, replicate, length-append}
use Rattle.definition.specs.Lists.{gather}
use Rattle.definition.specs.Tokens.{Token, Line, text_of}
use Rattle.definition.specs.Passes.{conds, closer}
use Rattle.definition.specs.Listing.{line_words, token_words, tokens_of, padded}
use Rattle.definition.proofs.ListLaws.{Each, ◌▸◌}
use Rattle.definition.proofs.Plain.{Plain}
use Rattle.room.proofs.Proper.{Kind8, Proper}
use Rattle.room.proofs.Words.{words_length, rows_length}
use Rattle.sheet.specs.Buffers.{start_at, end_at, first_of, last_of}
use Rattle.sheet.proofs.Reading.{start_first, start_later}
use Rattle.sheet.proofs.Held.{held, padded_at, kinds_all}
use Rattle.clips.specs.Clip.{Rises}
use Rattle.outline.specs.Rows.{line_at}
use Rattle.finish.specs.Finishing.{count_of}
use Rattle.structure.specs.Lowered.{Given}

-- ---- tokens
words_rise : (n : ℕ) (ts : List Token) → Each Kind8 ts → (j : ℕ) → suc j < length ts → get_or (token_words n ts) j 0 / 8 ≤ get_or (token_words n ts) (suc j) 0 / 8
unfolding token_words
words_rise n [] e j h = absurd (omega arith)
words_rise n (t ∷ []) e j h = absurd (omega arith)
words_rise n (t ∷ u ∷ us) (k ▸ (i ▸ e)) zero h = omega arith
words_rise n (t ∷ u ∷ us) (k ▸ e) (suc j) h = words_rise (n + length t.text) (u ∷ us) e j (omega arith)

ends_rise : (T : ℕ) {ts : List Token} → Each Kind8 ts → (j : ℕ) → j < length ts → start_at (padded T (token_words 0 ts)) j ≤ end_at (padded T (token_words 0 ts)) j
ends_rise T {ts} e zero h = omega (arith, start_first (end_at (padded T (token_words 0 ts))) 0 refl)
ends_rise T {ts} e (suc j) h =
    let K = padded T (token_words 0 ts) in
    let p : suc j - 1 ≡ j = omega arith in
    let s = start_later (end_at K) (suc j) (end_at K j) (λ z. omega arith) (ap (end_at K) (sym p)) in
    let n = words_length 0 ts in
    omega (arith, s, words_rise 0 ts e j h, padded_at T (token_words 0 ts) j (omega arith), padded_at T (token_words 0 ts) (suc j) (omega arith))

-- ---- lines
last_word : (n : ℕ) (xs : List Line) (i : ℕ) → i < length xs → get_or (line_words n xs) (5 * i + 3) 0 ≤ n + length (tokens_of xs)
unfolding line_words tokens_of gather
last_word n [] i h = absurd (omega arith)
last_word n (y ∷ xs) zero h = omega (arith, length-append y.toks (tokens_of xs))
last_word n (y ∷ xs) (suc i) h =
    let p : 5 * suc i + 3 ≡ suc (suc (suc (suc (suc (5 * i + 3))))) = omega arith in
    rw p (omega (arith, last_word (n + length y.toks) xs i (omega arith), length-append y.toks (tokens_of xs)))

module _ (low : List Line) (L T B : ℕ) (proper : Each Proper low) where
  abbrev ls : List ℕ
  ls = padded L (line_words 0 low)

  abbrev ks : List ℕ
  ks = padded T (token_words 0 (tokens_of low))

  last_within : (i : ℕ) → i < length low → last_of ls i ≤ length (tokens_of low)
  last_within i h = omega (arith, padded_at L (line_words 0 low) (5 * i + 3) (omega (arith, rows_length 0 low)), last_word 0 low i h)

  line_rises : (i : ℕ) → i < length low → Rises ks (first_of ls i) (count_of ls i)
  unfolding count_of
  line_rises i h = let l = last_within i h in record { each = λ k g. ends_rise T (kinds_all proper) (first_of ls i + k) (omega arith) }

  -- the buffers as lowering leaves them
  pub given : (R S : List ℕ) → length low < 16777216 → Plain low → R ≡ replicate (length R) 0 → length low + conds low ≤ length R → length R ≤ 4294967295
      → length low < length S → Given low ls ks (padded B (text_of (tokens_of low))) R S (length low)
  unfolding line_at
  given R S few plain clean room short names = record {
    held = record { each = λ i h. held L T B low proper (closer 0) i h };
    rises = line_rises;
    count = refl;
    few = few;
    plain = plain;
    proper = proper;
    clean = clean;
    room = room;
    short = short;
    names = names;
  }
