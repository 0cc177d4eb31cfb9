-- What the passes need of a conditional jump's tokens, and that a region formed keeps it: the lines made are no conditional jumps.
use mathlib.Core.Path.{◌≡◌, refl, sym, subst}
use mathlib.Core.Option.{Option, none, some}
use mathlib.Core.List.{List, ◌∷◌, ◌++◌}
use Prim.Native.Nat.{ℕ, suc, ◌+◌, ◌≤◌}
use lib.ListN.{length}
use Rattle.definition.specs.Tokens.{Token, Line}
use Rattle.definition.specs.Sorts.{Sort, sort, sort_of}
use Rattle.definition.specs.Sorts.Sort.{cond_to, if_open, close, do_open, while_close}
use Rattle.definition.specs.Negate.{open_tokens, while_tokens}
use Rattle.definition.specs.Passes.{cond_name, raise, opened, closer, do_line, while_line, form_if, form_do}
use Rattle.definition.proofs.ListLaws.{Each, each_append, each_left, each_right, each_map, each_head, ◌▸◌, each_tail}
use Rattle.definition.proofs.Merge.{size}
use Rattle.definition.proofs.TokenSorts.{do_sort, close_sort}

-- the tokens ts of a conditional jump to t: what the head of an if, and the end of a loop, made of them are, and how much they take
pub record Fit (t : List ℕ) (ts : List Token) : Type 0 where
  pub open_sort : sort_of (open_tokens ts) ≡ if_open
  pub while_sort : sort_of (while_tokens ts) ≡ while_close
  pub open_tokens_lem : length (open_tokens ts) + 1 ≤ length ts
  pub while_tokens_lem : length (while_tokens ts) ≤ length ts
  pub open_text : size (open_tokens ts) + 1 ≤ size ts
  pub while_text : size (while_tokens ts) + length t + 1 ≤ size ts
  pub nonempty : 1 ≤ length t

abbrev pub FitAs : List Token → Option (List ℕ) → Type 0
FitAs ts none = Unit {0}
FitAs ts (some t) = Fit t ts

abbrev pub FitLine : Line → Type 0
FitLine x = FitAs x.toks (cond_name (sort x))

-- each conditional jump is so
abbrev pub Fits : List Line → Type 0
Fits ls = Each FitLine ls

-- a line of another sort asks nothing
fit_free : (x : Line) (s : Sort) → sort x ≡ s → cond_name s ≡ none → FitLine x
fit_free x s e n = subst (λ (s : Sort). FitAs x.toks (cond_name s)) (sym e) (subst (FitAs x.toks) (sym n) tt)

-- a conditional jump among the lines
pub fit_at : (pre : List Line) (x : Line) (post : List Line) (t : List ℕ) → sort x ≡ cond_to t → Fits (pre ++ x ∷ post) → Fit t x.toks
unfolding cond_name
fit_at pre x post t e h = subst (λ (s : Sort). FitAs x.toks (cond_name s)) e (each_head (each_right pre (x ∷ post) h))

-- the back edge of a loop
pub fit_back : (pre : List Line) (l : Line) (mid : List Line) (b : Line) (post : List Line) (t : List ℕ) → sort b ≡ cond_to t
    → Fits (pre ++ l ∷ (mid ++ b ∷ post)) → Fit t b.toks
fit_back pre l mid b post t e h = fit_at mid b post t e (each_tail (each_right pre (l ∷ (mid ++ b ∷ post)) h))

module _ (pre : List Line) (l : Line) (mid post : List Line) (t : List ℕ) where
  pub fits_if : Fit t l.toks → Fits (pre ++ l ∷ (mid ++ post)) → Fits (form_if pre l mid post)
  unfolding cond_name
  fits_if f h =
      let r = each_tail (each_right pre (l ∷ (mid ++ post)) h) in
      each_append (each_left pre _ h) (fit_free (opened l) if_open f.open_sort refl
      ▸ each_append (each_map raise (λ x k. k) (each_left mid post r)) (fit_free (closer l.indent) close close_sort refl ▸ each_right mid post r))

  pub fits_do : (b : Line) → Fit t b.toks → Fits (pre ++ l ∷ (mid ++ b ∷ post)) → Fits (form_do pre l mid b post)
  unfolding cond_name
  fits_do b f h =
      let r = each_tail (each_right pre (l ∷ (mid ++ b ∷ post)) h) in
      each_append (each_left pre _ h) (fit_free (do_line l) do_open do_sort refl
      ▸ each_append (each_map raise (λ x k. k) (each_left mid (b ∷ post) r))
      (fit_free (while_line (suc l.indent) b) while_close f.while_sort refl ▸ each_tail (each_right mid (b ∷ post) r)))
