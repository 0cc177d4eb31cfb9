-- Ranges of a text: two that meet are one, and a word taken off at either end of a range leaves a range. A range behind the text's end is empty, so
-- its end may be cut there.
use mathlib.Core.Path.{◌≡◌, refl, sym, ap, ◌∙◌}
use mathlib.Core.Bool.{true, false}
use mathlib.Core.List.{List, ◌∷◌, [], ◌++◌}
use Prim.Native.Nat.{min, ℕ, ◌+◌, ◌-◌, ◌≤◌, ◌<◌}
use native.Mathlib.Omega.{arith}
use lib.ListN.{length, drop}
use lib.Seq.{take-add, drop-drop}
use Rattle.definition.specs.Words.{part}
use Rattle.definition.specs.Texts.{txt, same, begins, trim_start, cut_end}
use Rattle.definition.proofs.TextLaws.{begins_length, same_eq, cut_end_lem}
use Rattle.sheet.specs.Ranges.{between}
use Rattle.sheet.proofs.Reading.{least_left, least_le, range_is, length_between}
use Rattle.clips.specs.Clip.{Opened, Closed}
use Rattle.clips.proofs.Trims.{drop_take, trim_step, trim_stop, cut_short, cut_not}

pub drop_between : (t : List ℕ) (i e n : ℕ) → drop n (between t i e) ≡ between t (i + n) e
unfolding between part
drop_between t i e n =
    let p : e - i - n ≡ e - (i + n) = omega arith in
    drop_take n (e - i) (drop i t) ∙ rw (p, drop-drop n i t)

pub between_append : (t : List ℕ) (s m e : ℕ) → s ≤ m → m ≤ e → between t s m ++ between t m e ≡ between t s e
unfolding between part
between_append t s m e h k =
    let p : e - s ≡ (m - s) + (e - m) = omega arith in
    let q : s + (m - s) ≡ m = omega arith in
    sym (rw p (take-add (m - s) (e - m) (drop s t) ∙ rw (drop-drop (m - s) s t, q)))

cut_at_end : (t : List ℕ) (s e x : ℕ) → x ≡ min e (length t) → between t s x ≡ between t s e
cut_at_end t s e x p =
    let h : x ≤ length t = omega (arith, (least_le e (length t)).1) in
    sym (range_is t s x (min s x) x (sym (least_left x (length t) h)) refl) ∙ range_is t s e (min s x) x p refl

-- ---- leading ` (`
module _ (t : List ℕ) (from to : ℕ) where
  -- some taken off, up to place i
  pub record Opening (i : ℕ) : Type 0 where
    pub same : trim_start (txt " (") (between t from to) ≡ trim_start (txt " (") (between t i to)
    pub after : from ≤ i
    pub within : from ≤ to → i ≤ to

  pub opens_none : Opening from
  opens_none = record { same = refl; after = omega arith; within = λ h. h }

  pub opens_room : (i : ℕ) → begins (txt " (") (between t i to) ≡ true → i + 2 ≤ to
  opens_room i e =
      let h = begins_length (txt " (") (between t i to) e in
      omega (arith, length_between t i to, (least_le to (length t)).0)

  pub opens_turn : (i : ℕ) → begins (txt " (") (between t i to) ≡ true → Opening i → Opening (i + 2)
  opens_turn i e o =
      let h = opens_room i e in
      record {
        same = o.same ∙ trim_step 32 (40 ∷ []) (between t i to) e ∙ ap (trim_start (txt " (")) (drop_between t i to 2);
        after = omega (arith, o.after);
        within = λ k. h;
      }

  pub opens_end : (i : ℕ) → begins (txt " (") (between t i to) ≡ false → Opening i → Opened t from to i
  opens_end i e o = record {
    text = sym (o.same ∙ trim_stop 32 (40 ∷ []) (between t i to) e);
    after = o.after;
    within = o.within;
  }

-- ---- a trailing `) `
module _ (t : List ℕ) (from to e : ℕ) (at : e ≡ min to (length t)) where
  low : e ≤ to
  low = omega (arith, (least_le to (length t)).0)

  pub close_short : e < from + 2 → Closed t from to to
  close_short h = record {
    text = sym (cut_short (txt ") ") (between t from to) (omega (arith, length_between t from to)));
    before = omega arith;
    within = λ k. k;
  }

  halves : from + 2 ≤ e → between t from (e - 2) ++ between t (e - 2) e ≡ between t from to
  halves h = between_append t from (e - 2) e (omega arith) (omega arith) ∙ cut_at_end t from to e at

  pub close_not : from + 2 ≤ e → same (between t (e - 2) e) (txt ") ") ≡ false → Closed t from to to
  close_not h n =
      let k : e ≤ length t = omega (arith, (least_le to (length t)).1) in
      let l : length (between t (e - 2) e) ≡ 2 = omega (arith, length_between t (e - 2) e, least_left e (length t) k) in
      record {
        text = sym (ap (cut_end (txt ") ")) (sym (halves h)) ∙ cut_not (txt ") ") (between t from (e - 2)) (between t (e - 2) e) l n ∙ halves h);
        before = omega arith;
        within = λ k. k;
      }

  pub close_cut : from + 2 ≤ e → same (between t (e - 2) e) (txt ") ") ≡ true → Closed t from to (e - 2)
  close_cut h y =
      let q : between t from (e - 2) ++ txt ") " ≡ between t from to =
      ap (λ (l : List ℕ). between t from (e - 2) ++ l) (sym (same_eq (between t (e - 2) e) (txt ") ") y)) ∙ halves h in
      record {
        text = sym (ap (cut_end (txt ") ")) (sym q) ∙ cut_end_lem 41 (32 ∷ []) (between t from (e - 2)));
        before = omega (arith, low);
        within = λ k. omega arith;
      }
