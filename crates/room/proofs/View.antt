-- What a sheet of zeros holds after lines are written to it. Each piece of a merged line is a token of its own, so the sheet goes from holding some
-- lines to holding one more, as long as it fits; where it does not, the sheet is full, and the lines do not fit all together either.
use mathlib.Core.Path.{◌≡◌, refl, sym, ap, subst, ◌∙◌}
use mathlib.Core.Bool.{true, false, cond, ◌&&◌, ◌||◌, and-false}
use mathlib.Core.Option.{none, some}
use mathlib.Core.List.{List, [], ◌∷◌, ◌++◌, append-nil}
use Prim.Native.Nat.{ℕ, ◌+◌, ◌-◌, ◌*◌, ◌%◌, ◌<◌, ◌≤◌}
use native.Mathlib.Omega.{arith}
use native.Mathlib.Decide.{dec_lt, dec_le}
use borrow.Author.Tests.{ltb-false, lt-ltb, le-ltb, le-leb, lt-leb, eqb-true}
use lib.Dec.{eqb, ltb}
use lib.ListN.{length, get_or, set, length-append, get_or-append}
use lib.Seq.{append_snoc, get_or_at}
use Rattle.definition.specs.Edition.{Room as Limits}
use Rattle.definition.specs.Lists.{gather}
use Rattle.definition.specs.Tokens.{Token, Line, joins, text_of}
use Rattle.definition.specs.Listing.{has_address, address_of, token_count, byte_count, refused8, line_numbers, line_words, token_words, tokens_of, padded}
use Rattle.definition.proofs.Bools.{by_test, both_false, is_true}
use Rattle.definition.proofs.ListLaws.{Each, ◌▸◌}
use Rattle.definition.proofs.Merge.{size, size_append, text_append}
use Rattle.records.proofs.Padded.{padded_set, length_padded}
use Rattle.room.specs.declared.out.Out.{Out}
use Rattle.room.specs.Room.{Room, Sheet, room_of, text_most, is_full, paste, sound, goes_on, slot_at, is_ready, placed, emit, emit_all, line_row, ended, end_line, write_line, write_all, seen_sheet}
use Rattle.room.specs.Blank.{blank, filled}
use Rattle.room.proofs.Placing.{Sound, sound_holds, goes_first, slot_new}
use Rattle.room.proofs.Emits.{fits_holds, fits_no_place, fits_too_long, emit_fits, stops_full, emit_stays}
use Rattle.room.proofs.Pastes.{padded_paste}
use Rattle.room.proofs.Joining.{kind_of_lem}
use Rattle.room.proofs.Laws.{end_stays, line_stays}
use Rattle.room.proofs.Words.{words_length, words_snoc, size_one, tokens_snoc, token_count_lem, byte_count_lem, rows_length, rows_snoc}
use Rattle.room.proofs.Proper.{Proper, Apart, alone, apart, is_apart}

-- ---- a room that holds tokens, the first s of them in the lines before
abbrev out_at : ℕ → ℕ → List Token → Out
out_at l s ts = record { lines = l; tokens = length ts; bytes = size ts; start = s; full = false }

abbrev room_at : ℕ → ℕ → ℕ → ℕ → List Token → Room
room_at T B l s ts = room_of (padded T (token_words 0 ts)) (padded B (text_of ts)) (out_at l s ts)

-- tokens that fit
record Fit (T B : ℕ) (ts : List Token) : Type 0 where
  few : length ts ≤ T
  short : size ts ≤ B

-- p joins nothing: it is the line's first token, or the one before it is of another kind
data Before (s : ℕ) (ts : List Token) (p : Token) : Type 0 where
  starts : length ts ≤ s → Before s ts p
  follows : (qs : List Token) (q : Token) → ts ≡ qs ++ (q ∷ []) → q.kind < 8 → joins q p ≡ false → Before s ts p

-- the last token's number tells its kind
last_kind : (T : ℕ) (qs : List Token) (q : Token) → q.kind < 8 → get_or (padded T (token_words 0 (qs ++ (q ∷ [])))) (length (qs ++ (q ∷ [])) - 1) 0 % 8 ≡ q.kind
unfolding padded
last_kind T qs q h =
    let m = 0 + size qs + length q.text in
    let w = words_snoc 0 qs q m refl in
    let n : length (qs ++ (q ∷ [])) - 1 ≡ length qs = omega (arith, length-append qs (q ∷ [])) in
    let z = token_words 0 qs in
    let i : length (qs ++ (q ∷ [])) - 1 < length (token_words 0 (qs ++ (q ∷ []))) = omega (arith, words_length 0 (qs ++ (q ∷ [])), length-append qs (q ∷ [])) in
    let l = words_length 0 qs in
    ap (λ (x : ℕ). x % 8)
    (get_or-append (token_words 0 (qs ++ (q ∷ []))) _ 0 (length (qs ++ (q ∷ [])) - 1) i ∙ rw (w, n) (get_or_at z (8 * m + q.kind) [] 0 (length qs) l))
    ∙ kind_of_lem m q.kind h

-- the token before is of kind j, which does not join k
no_goes : (ks : List ℕ) (o : Out) (j k : ℕ) → get_or ks (o.tokens - 1) 0 % 8 ≡ j → (eqb j k && (eqb j 6 || eqb j 0)) ≡ false → goes_on ks o k ≡ false
unfolding goes_on
no_goes ks o j k w h =
    by_test (eqb j k)
    (λ e.
    let q : j ≡ k = eqb-true j k e in
    let z : (eqb k 6 || eqb k 0) ≡ false = rw (← q) (rw e at h) in
    rw (z, and-false (ltb o.start o.tokens)))
    (λ e. rw (w, e) (and-false (ltb o.start o.tokens && (eqb k 6 || eqb k 0))))

goes_not : (T l s : ℕ) (ts : List Token) (p : Token) → Before s ts p → goes_on (padded T (token_words 0 ts)) (out_at l s ts) p.kind ≡ false
unfolding joins
goes_not T l s ts p (starts h) = sym (goes_first (padded T (token_words 0 ts)) (out_at l s ts) p.kind h)
goes_not T l s ts p (follows qs q e k j) =
    no_goes (padded T (token_words 0 ts)) (out_at l s ts) q.kind p.kind
    (subst (λ (z : List Token). get_or (padded T (token_words 0 z)) (length z - 1) 0 % 8 ≡ q.kind) (sym e) (last_kind T qs q k)) j

-- ---- the room holds these tokens, or it is full and they do not fit
data Filled (T B l s : ℕ) (r : Room) (ts : List Token) : Type 0 where
  fills : r ≡ room_at T B l s ts → Fit T B ts → Filled T B l s r ts
  over : is_full r ≡ true → (Fit T B ts → ⊥) → Filled T B l s r ts

module _ (T B l s : ℕ) (most : B ≤ text_most) where
  fit_front : (ts ps : List Token) → Fit T B (ts ++ ps) → Fit T B ts
  fit_front ts ps f = record { few = omega (arith, f.few, length-append ts ps); short = omega (arith, f.short, size_append ts ps) }

  module _ (ts : List Token) (p : Token) (line : s ≤ length ts) (fit : Fit T B ts) (before : Before s ts p) where
    abbrev ks : List ℕ
    ks = padded T (token_words 0 ts)

    abbrev text : List ℕ
    text = padded B (text_of ts)

    tokens_lent : length ks ≡ T
    tokens_lent = length_padded T (token_words 0 ts) (omega (arith, words_length 0 ts, fit.few))

    text_lent : length text ≡ B
    text_lent = length_padded B (text_of ts) fit.short

    has_place : length ts < T → is_ready ks (length text) (out_at l s ts) p.kind ≡ true
    unfolding is_ready
    has_place h =
        let k = tokens_lent in
        let t = text_lent in
        let f = fit.few in
        let g = fit.short in
        let sound : Sound (length ks) (length text) (out_at l s ts) =
        record { free = refl; most = omega arith; bytes = omega arith; start = line; tokens = omega arith } in
        let more : length ts < length ks = omega arith in
        rw (sound_holds _ _ _ sound, goes_not T l s ts p before, lt-ltb (length ts) (length ks) more)

    no_place : T ≤ length ts → is_ready ks (length text) (out_at l s ts) p.kind ≡ false
    unfolding is_ready
    no_place h =
        let none : length ks ≤ length ts = omega (arith, tokens_lent) in
        rw (goes_not T l s ts p before, le-ltb (length ts) (length ks) none) (and-false (sound (length ks) (length text) (out_at l s ts)))

    placed_at : length ts < T → size ts + length p.text ≤ B → placed (room_at T B l s ts) p ≡ room_at T B l s (ts ++ (p ∷ []))
    unfolding placed text_of
    placed_at h g =
        let m = size ts + length p.text in
        let i : slot_at ks (out_at l s ts) p.kind ≡ length ts = sym (slot_new ks (out_at l s ts) p.kind false (sym (goes_not T l s ts p before)) refl) in
        let n : length ts ≡ length (token_words 0 ts) = sym (words_length 0 ts) in
        let e : m ≡ 0 + size ts + length p.text = omega arith in
        let w : set ks (length ts) (8 * m + p.kind) ≡ padded T (token_words 0 (ts ++ (p ∷ []))) =
        ap (λ (j : ℕ). set ks j (8 * m + p.kind)) n ∙ padded_set T (token_words 0 ts) (8 * m + p.kind) (omega arith) ∙ ap (padded T) (sym (words_snoc 0 ts p m e)) in
        let t : paste text (size ts) p.text ≡ padded B (text_of (ts ++ (p ∷ []))) =
        padded_paste B (text_of ts) p.text g ∙ ap (padded B) (sym (text_append ts (p ∷ []) ∙ ap (λ (x : List ℕ). text_of ts ++ x) (append-nil p.text))) in
        let a : length ts + 1 ≡ length (ts ++ (p ∷ [])) = omega (arith, length-append ts (p ∷ [])) in
        let z : m ≡ size (ts ++ (p ∷ [])) = omega (arith, size_append ts (p ∷ []), size_one p) in
        rw (i, w, t, a, z)

    step : Filled T B l s (emit (room_at T B l s ts) p) (ts ++ (p ∷ []))
    step = go (dec_lt (length ts) T) (dec_le (size ts + length p.text) B)
      where
        go : Dec (length ts < T) → Dec (size ts + length p.text ≤ B) → Filled T B l s (emit (room_at T B l s ts) p) (ts ++ (p ∷ []))
        go (yes h) (yes g) =
            fills
            (emit_fits (room_at T B l s ts) p (fits_holds (room_at T B l s ts) p (has_place h) (omega (arith, text_lent))) ∙ placed_at h g)
            (record { few = omega (arith, length-append ts (p ∷ [])); short = omega (arith, size_append ts (p ∷ []), size_one p) })
        go (yes h) (no g) =
            over (stops_full (room_at T B l s ts) p (fits_too_long (room_at T B l s ts) p (omega (arith, text_lent))))
            (λ f. g (omega (arith, f.short, size_append ts (p ∷ []), size_one p)))
        go (no h) d =
            over (stops_full (room_at T B l s ts) p (fits_no_place (room_at T B l s ts) p (no_place (omega arith))))
            (λ f. h (omega (arith, f.few, length-append ts (p ∷ []))))

  -- one token more
  one_piece : (r : Room) (ts : List Token) (p : Token) → s ≤ length ts → Before s ts p → Filled T B l s r ts → Filled T B l s (emit r p) (ts ++ (p ∷ []))
  one_piece r ts p h b (fills e f) = rw e (step ts p h f b)
  one_piece r ts p h b (over g f) = over (ap is_full (emit_stays r p g) ∙ g) (λ k. f (fit_front ts (p ∷ []) k))

  pieces : (r : Room) (ts : List Token) (p : Token) (ps : List Token) → s ≤ length ts → Before s ts p → Apart (p ∷ ps) → Filled T B l s r ts
      → Filled T B l s (emit_all r (p ∷ ps)) (ts ++ p ∷ ps)
  unfolding emit_all
  pieces r ts p [] h b (alone k) c = one_piece r ts p h b c
  pieces r ts p (q ∷ ps) h b (apart k j a) c =
      subst (Filled T B l s (emit_all (emit (emit r p) q) ps)) (append_snoc ts p (q ∷ ps))
      (pieces (emit r p) (ts ++ (p ∷ [])) q ps (omega (arith, length-append ts (p ∷ []))) (follows ts p refl k j) a (one_piece r ts p h b c))

  -- the tokens of a line
  all_pieces : (ts ps : List Token) → s ≡ length ts → Apart ps → Fit T B ts → Filled T B l s (emit_all (room_at T B l s ts) ps) (ts ++ ps)
  unfolding emit_all
  all_pieces ts [] h a f = subst (Filled T B l s (room_at T B l s ts)) (sym (append-nil ts)) (fills refl f)
  all_pieces ts (p ∷ ps) h a f = pieces (room_at T B l s ts) ts p ps (omega arith) (starts (omega arith)) a (fills refl f)

-- ---- a sheet that holds lines
abbrev sheet_at : ℕ → ℕ → ℕ → List Line → Sheet
sheet_at L T B ls = record { lines = padded L (line_words 0 ls); room = room_at T B (length ls) (length (tokens_of ls)) (tokens_of ls) }

-- lines that fit
record Holds (L T B : ℕ) (ls : List Line) : Type 0 where
  rows : 5 * length ls ≤ L
  tokens : Fit T B (tokens_of ls)

-- the sheet holds these lines, or it is full and they do not fit
data Covered (L T B : ℕ) (u : Sheet) (ls : List Line) : Type 0 where
  covers : u ≡ sheet_at L T B ls → Holds L T B ls → Covered L T B u ls
  beyond : is_full u.room ≡ true → (Holds L T B ls → ⊥) → Covered L T B u ls

module _ (L T B : ℕ) (most : B ≤ text_most) where
  module _ (ls : List Line) (x : Line) where
    abbrev us : List Token
    us = tokens_of ls ++ x.toks

    abbrev ended_at : Sheet
    ended_at = end_line (record { lines = padded L (line_words 0 ls); room = room_at T B (length ls) (length (tokens_of ls)) us }) x.indent x.addr

    rows_lent : 5 * length ls ≤ L → length (padded L (line_words 0 ls)) ≡ L
    rows_lent h = length_padded L (line_words 0 ls) (omega (arith, rows_length 0 ls))

    line_fits : 5 * (length ls + 1) ≤ L → ended_at ≡ sheet_at L T B (ls ++ (x ∷ []))
    unfolding end_line is_full line_row ended
    line_fits h =
        let lent : 5 * (length ls + 1) ≤ length (padded L (line_words 0 ls)) = omega (arith, rows_lent (omega arith)) in
        let row = has_address x.addr ∷ address_of x.addr ∷ x.indent ∷ length us ∷ 0 ∷ [] in
        let n : 5 * length ls ≡ length (line_words 0 ls) = sym (rows_length 0 ls) in
        let m : length us ≡ 0 + length (tokens_of ls) + length x.toks = omega (arith, length-append (tokens_of ls) x.toks) in
        let w : paste (padded L (line_words 0 ls)) (5 * length ls) row ≡ padded L (line_words 0 (ls ++ (x ∷ []))) =
        ap (λ (j : ℕ). paste (padded L (line_words 0 ls)) j row) n ∙ padded_paste L (line_words 0 ls) row (omega arith) ∙ ap (padded L) (sym (rows_snoc 0 ls x (length us) m)) in
        let a : length ls + 1 ≡ length (ls ++ (x ∷ [])) = omega (arith, length-append ls (x ∷ [])) in
        rw (le-leb _ _ lent, w, a, tokens_snoc ls x)

    line_stops : 5 * length ls ≤ L → L < 5 * (length ls + 1) → is_full ended_at.room ≡ true
    unfolding end_line is_full
    line_stops g h =
        let none : length (padded L (line_words 0 ls)) < 5 * (length ls + 1) = omega (arith, rows_lent g) in
        rw (lt-leb _ _ none)

    tokens_held : Holds L T B (ls ++ (x ∷ [])) → Fit T B us
    tokens_held h = subst (Fit T B) (tokens_snoc ls x) h.tokens

    front : Holds L T B (ls ++ (x ∷ [])) → Holds L T B ls
    front h = record {
      rows = omega (arith, h.rows, length-append ls (x ∷ []));
      tokens = fit_front T B 0 0 most (tokens_of ls) x.toks (tokens_held h);
    }

    line_step : Proper x → Holds L T B ls → Covered L T B (write_line (sheet_at L T B ls) x) (ls ++ (x ∷ []))
    unfolding write_line
    line_step proper h =
        go _ (all_pieces T B (length ls) (length (tokens_of ls)) most (tokens_of ls) x.toks refl (is_apart x.toks proper.kinds proper.once) h.tokens)
        (dec_le (5 * (length ls + 1)) L)
      where
        go : (r : Room) → Filled T B (length ls) (length (tokens_of ls)) r us → Dec (5 * (length ls + 1) ≤ L)
            → Covered L T B (end_line (record { lines = padded L (line_words 0 ls); room = r }) x.indent x.addr) (ls ++ (x ∷ []))
        go r (fills e f) (yes d) =
            rw e (covers (line_fits d) (record { rows = omega (arith, length-append ls (x ∷ [])); tokens = subst (Fit T B) (sym (tokens_snoc ls x)) f }))
        go r (fills e f) (no d) = rw e (beyond (line_stops h.rows (omega arith)) (λ g. d (omega (arith, g.rows, length-append ls (x ∷ [])))))
        go r (over g f) d =
            beyond (ap (λ (v : Sheet). is_full v.room) (end_stays (record { lines = padded L (line_words 0 ls); room = r }) x.indent x.addr g) ∙ g)
            (λ k. f (tokens_held k))

    one_line : (u : Sheet) → Proper x → Covered L T B u ls → Covered L T B (write_line u x) (ls ++ (x ∷ []))
    one_line u p (covers e h) = rw e (line_step p h)
    one_line u p (beyond h f) = beyond (ap (λ (v : Sheet). is_full v.room) (line_stays u x h) ∙ h) (λ k. f (front k))

  all_lines : (u : Sheet) (ls xs : List Line) → Each Proper xs → Covered L T B u ls → Covered L T B (write_all u xs) (ls ++ xs)
  unfolding write_all
  all_lines u ls [] p c = subst (Covered L T B u) (sym (append-nil ls)) c
  all_lines u ls (x ∷ xs) (a ▸ p) c =
      subst (Covered L T B (write_all (write_line u x) xs)) (append_snoc ls x xs)
      (all_lines (write_line u x) (ls ++ (x ∷ [])) xs p (one_line ls x u a c))

  blank_is : blank L T B ≡ sheet_at L T B []
  unfolding blank padded line_words token_words tokens_of gather text_of
  blank_is =
      let l : L - 0 ≡ L = omega arith in
      let k : T - 0 ≡ T = omega arith in
      let t : B - 0 ≡ B = omega arith in
      rw (l, k, t)

  filled_is : (ls : List Line) → sheet_at L T B ls ≡ filled L T B ls
  unfolding filled
  filled_is ls = rw (token_count_lem ls, byte_count_lem ls)

  covered : (ls : List Line) → Each Proper ls → Covered L T B (write_all (blank L T B) ls) ls
  unfolding tokens_of gather text_of
  covered ls p =
      rw blank_is (all_lines (sheet_at L T B []) [] ls p (covers refl (record { rows = omega arith; tokens = record { few = omega arith; short = omega arith } })))

-- ---- refusal 8 says whether they fit
module _ (R : Limits) (ls : List Line) where
  abbrev lent : ℕ
  lent = line_numbers * R.lines

  not_refused : Holds lent R.tokens R.bytes ls → refused8 R ls ≡ false
  unfolding refused8
  not_refused h =
      let a : length ls ≤ R.lines = omega (arith, h.rows) in
      let b : token_count ls ≤ R.tokens = omega (arith, h.tokens.few, token_count_lem ls) in
      let c : byte_count ls ≤ R.bytes = omega (arith, h.tokens.short, byte_count_lem ls) in
      rw (le-ltb R.lines (length ls) a, le-ltb R.tokens (token_count ls) b, le-ltb R.bytes (byte_count ls) c)

  holds : refused8 R ls ≡ false → Holds lent R.tokens R.bytes ls
  unfolding refused8
  holds h =
      let a = both_false (ltb R.lines (length ls) || ltb R.tokens (token_count ls)) (ltb R.bytes (byte_count ls)) h in
      let b = both_false (ltb R.lines (length ls)) (ltb R.tokens (token_count ls)) a.0 in
      let rows = ltb-false R.lines (length ls) b.0 in
      record {
        rows = omega arith;
        tokens = record {
          few = omega (arith, ltb-false R.tokens (token_count ls) b.1, token_count_lem ls);
          short = omega (arith, ltb-false R.bytes (byte_count ls) a.1, byte_count_lem ls);
        };
      }

-- ---- the theorem: the lines, where refusal 8 does not hold of them; else the sheet is full
pub written : (R : Limits) (ls : List Line) → R.bytes ≤ text_most → Each Proper ls
    → seen_sheet (write_all (blank (line_numbers * R.lines) R.tokens R.bytes) ls)
    ≡ cond (refused8 R ls) none (some (filled (line_numbers * R.lines) R.tokens R.bytes ls))
unfolding seen_sheet is_full filled
written R ls most p = go (write_all (blank L R.tokens R.bytes) ls) (covered L R.tokens R.bytes most ls p)
  where
    L : ℕ
    L = line_numbers * R.lines

    go : (u : Sheet) → Covered L R.tokens R.bytes u ls → seen_sheet u ≡ cond (refused8 R ls) none (some (filled L R.tokens R.bytes ls))
    go u (covers e h) = rw (not_refused R ls h) (ap seen_sheet (e ∙ filled_is L R.tokens R.bytes most ls))
    go u (beyond h f) = let no : refused8 R ls ≡ true = is_true _ (λ e. f (holds R ls e)) in rw (h, no)
