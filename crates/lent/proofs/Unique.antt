-- Each contract gives the answer, or the buffer at exit, by an equation: no second one satisfies it.
use mathlib.Core.Path.{◌≡◌, ap}
use mathlib.Core.Bool.{Bool, cond, ◌&&◌}
use mathlib.Core.List.{List}
use Prim.Native.Nat.{ℕ}
use lib.ListN.{length, replicate}
use Rattle.definition.specs.Edition.{edition1}
use Rattle.definition.specs.Listing.{Result, fits as fits_of}
use Rattle.definition.proofs.Unique.{equation}
use Rattle.structure.specs.Answers.{Structured}
use Rattle.lent.specs.declared.answer.Answer.{Answer}
use Rattle.lent.specs.Answers.{answered, refused_with, answer_of}
use Rattle.lent.specs.Lengths.{lent_of, low_fits}

pub refused : (n : ℕ) (r s : Answer) → r ≡ refused_with n → s ≡ refused_with n → r ≡ s
refused n = equation (refused_with n)

pub answer_of_lem : (x : Structured) (r s : Answer) → r ≡ answer_of x → s ≡ answer_of x → r ≡ s
answer_of_lem x = equation (answer_of x)

pub fits : (l k t : ℕ) (r s : Bool) → r ≡ fits_of edition1 (lent_of l k t) → s ≡ fits_of edition1 (lent_of l k t) → r ≡ s
fits l k t = equation (fits_of edition1 (lent_of l k t))

pub low_fits_lem : (l k t : ℕ) (r s : Bool) → r ≡ low_fits edition1 (lent_of l k t) → s ≡ low_fits edition1 (lent_of l k t) → r ≡ s
low_fits_lem l k t = equation (low_fits edition1 (lent_of l k t))

pub first_refusal : (ready fit : Bool) (n r s : ℕ) → r ≡ cond (ready && fit) n 1 → s ≡ cond (ready && fit) n 1 → r ≡ s
first_refusal ready fit n = equation (cond (ready && fit) n 1)

-- each buffer of `clear_sheet`
pub clear_sheet : (b c d : List ℕ) → c ≡ replicate (length b) 0 → d ≡ replicate (length b) 0 → c ≡ d
clear_sheet b = equation (replicate (length b) 0)

-- the answer in a result
abbrev answer_in : Result → Answer
answer_in R = record { number = R.number; lines = R.lines; tokens = R.tokens; bytes = R.bytes; ifs = R.ifs; loops = R.loops; tests = R.tests }

-- of one result, the answer and each buffer
pub parts : (r s : Answer) (l d x l₁ d₁ x₁ : List ℕ) → answered r l d x ≡ answered s l₁ d₁ x₁ → (r ≡ s) × (l ≡ l₁) × (d ≡ d₁) × (x ≡ x₁)
unfolding answered
parts r s l d x l₁ d₁ x₁ e =
    (ap answer_in e, ap (λ (R : Result). R.line_buffer) e, ap (λ (R : Result). R.token_buffer) e, ap (λ (R : Result). R.text_buffer) e)
