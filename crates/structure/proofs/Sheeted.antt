-- What is written, from what is seen of the sheet: where it is a sheet s, the buffers are those of s, and the counts too.
use mathlib.Core.Path.{◌≡◌, refl, sym, ap, ◌∙◌}
use mathlib.Core.Bool.{Bool, true, false, false≢true}
use mathlib.Core.Option.{Option, none, some}
use mathlib.Core.List.{List}
use Prim.Native.Nat.{ℕ}
use Rattle.std.specs.Prelude.{Ok, Err}
use Rattle.passes.specs.Sweeps.{too_deep}
use Rattle.definition.specs.Listing.{tests}
use Rattle.definition.proofs.Bools.{none_some, by_test}
use Rattle.room.specs.declared.out.Out.{Out}
use Rattle.room.specs.Room.{Sheet, sheet_of, is_full, write_all, seen_sheet}
use Rattle.room.specs.Blank.{fresh}
use Rattle.sorts.specs.Sorted.{lines_in as lines_read}
use Rattle.finish.specs.Finishing.{lines_in, Heads}
use Rattle.structure.specs.declared.answers.Kept.{Kept}
use Rattle.structure.specs.Answers.{Passes, Structured}
use Rattle.structure.specs.declared.answers.Counts.{Counts}
use Rattle.structure.specs.Sheets.{counts_of, Written, HeadsLeft, Answered}

held : Sheet → Option Sheet → Sheet
held d none = d
held d (some s) = s

seen_is : (u s : Sheet) → seen_sheet u ≡ some s → u ≡ s
unfolding seen_sheet held
seen_is u s h = by_test (is_full u.room) (λ e. none_some (rw e at h)) (λ e. ap (held u) (rw e at h))

-- ---- what the passes answer
is_left : Passes → Bool
is_left (Err e₀) = false
is_left (Ok k) = true

unfoldable pub kept_of : Passes → Kept
kept_of (Err e₀) = record { rows = 0; ifs = 0; loops = 0 }
kept_of (Ok k) = k

pub refused_left : {C : Type 0} {p : Passes} {k : Kept} → p ≡ Err too_deep → p ≡ Ok k → C
unfolding is_left
refused_left e f = absurd (false≢true (ap is_left (sym e ∙ f)))

pub kept_is : {p : Passes} {k : Kept} → p ≡ Ok k → kept_of p ≡ k
unfolding kept_of
kept_is e = ap kept_of e

module _ (ls ks t R : List ℕ) (l d x l' d' x' : List ℕ) where
  pub written_whole : (k : Kept) (f o : Out) (v : ℕ) → f ≡ fresh
      → seen_sheet (sheet_of l' d' x' o) ≡ seen_sheet (write_all (sheet_of l d x f) (lines_in ls ks t R k.rows)) → v ≡ tests (lines_read l' d' x' o.lines)
      → Written ls ks t R k l d x (record { lines = o.lines; tokens = o.tokens; bytes = o.bytes; ifs = k.ifs; loops = k.loops; tests = v }) l' d' x'
  unfolding counts_of
  written_whole k f o v start h e = record {
    whole = λ s q.
        let z : sheet_of l' d' x' o ≡ s = seen_is (sheet_of l' d' x' o) s (h ∙ ap (λ (y : Out). seen_sheet (write_all (sheet_of l d x y) (lines_in ls ks t R k.rows))) start ∙ q) in (
          ap (λ (u : Sheet). u.lines) z,
          ap (λ (u : Sheet). u.room.tokens) z,
          ap (λ (u : Sheet). u.room.text) z,
          ap (λ (y : ℕ). record { lines = o.lines; tokens = o.tokens; bytes = o.bytes; ifs = k.ifs; loops = k.loops; tests = y }) e ∙ ap (λ (u : Sheet). counts_of u k) z,
        );
  }

  pub answered_left : (p : Passes) (k : Kept) (r : Counts) → p ≡ Ok k → Written ls ks t R k l d x r l' d' x' → Answered ls ks t R p l d x (Ok r) l' d' x'
  answered_left p k r e w = record {
    deep = λ f. refused_left f e;
    lists = λ j f s q.
        let z : j ≡ k = sym (kept_is f) ∙ kept_is e in
        let a = w.whole s (ap (λ (y : Kept). seen_sheet (write_all (sheet_of l d x fresh) (lines_in ls ks t R y.rows))) (sym z) ∙ q) in
        (ap Ok (a.3 ∙ ap (counts_of s) (sym z)), a.0, a.1, a.2);
  }

pub answered_deep : (ls ks t R : List ℕ) (l d x : List ℕ) (p : Passes) (r : Structured) → p ≡ Err too_deep → r ≡ Err too_deep → Answered ls ks t R p l d x r l d x
answered_deep ls ks t R l d x p r e h = record { deep = λ f. (h, refl, refl, refl); lists = λ k f. refused_left e f }

pub heads_left : (ls ks R : List ℕ) (p : Passes) (k : Kept) → HeadsLeft ls ks R p → p ≡ Ok k → Heads ls ks R k.rows
heads_left ls ks R p k h e = h.heads k e
