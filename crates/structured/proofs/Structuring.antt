-- The two answers of structuring behind lowering: the refusal that lowering gave, over lent buffers that are zeros still, or what `structure` answers.
-- Of two tables of zeros it is lent the fronts, which come back as zeros, so both are what they were.
use mathlib.Core.Path.{◌≡◌, refl, sym, subst, ap, ◌∙◌}
use mathlib.Core.Bool.{Bool, cond}
use mathlib.Core.List.{List, ◌∷◌, ◌++◌}
use Prim.Native.Nat.{ℕ, zero, suc}
use lib.ListN.{length, take, drop, replicate, take-append-drop}
use borrow.Author.Tests.{eq-eqb, ne_eqb}
use Rattle.std.specs.Prelude.{Ok, Err}
use Rattle.definition.specs.Listing.{structure, refusal, result_of}
use Rattle.structure.specs.Answers.{Structured}
use Rattle.structure.specs.Lowered.{Finishes, lent, result_in}
use Rattle.lent.specs.declared.answer.Answer.{Answer}
use Rattle.lent.specs.declared.answer.Lowered.{Lowered}
use Rattle.lent.specs.Answers.{refused_with, answer_of, answered}
use Rattle.structured.specs.Structured.{Lowers, Answers}

-- a front of zeros is zeros
front : (k n : ℕ) → take k (replicate {A = ℕ} n 0) ≡ replicate (length (take k (replicate {A = ℕ} n 0))) 0
front zero n = refl
front (suc k) zero = refl
front (suc k) (suc n) = ap (λ (z : List ℕ). 0 ∷ z) (front k n)

pub front_zeros : (k : ℕ) (R : List ℕ) → R ≡ replicate (length R) 0 → take k R ≡ replicate (length (take k R)) 0
front_zeros k R z = subst (λ (a : List ℕ). take k a ≡ replicate (length (take k a)) 0) (sym z) (front k (length R))

-- the whole, with its front as the callee left it
front_back : (k : ℕ) (R e : List ℕ) → R ≡ replicate (length R) 0 → e ≡ replicate (length (take k R)) 0 → (e ++ drop k R) ≡ replicate (length R) 0
front_back k R e z q = ap (λ (a : List ℕ). a ++ drop k R) (q ∙ sym (front_zeros k R z)) ∙ take-append-drop k R ∙ z

-- the answer in numbers is structuring's
as_numbers : (s : Structured) (l d x : List ℕ) → answered (answer_of s) l d x ≡ result_in s l d x
unfolding answered answer_of result_in
as_numbers (Err e₀) l d x = refl
as_numbers (Ok c) l d x = refl

-- a refusal over zeros
over_zeros : (l d x R S ls ks t : List ℕ) (w : Lowered) → Lowers l d x R S ls ks t w → (n : ℕ) → answered (refused_with n) l d x ≡ refusal (lent l d x) n
unfolding answered refusal lent
over_zeros l d x R S ls ks t w p n =
    ap (λ (a : List ℕ). answered (refused_with n) a d x) p.lines
    ∙ ap (λ (a : List ℕ). answered (refused_with n) (replicate (length l) 0) a x) p.tokens
    ∙ ap (λ (a : List ℕ). answered (refused_with n) (replicate (length l) 0) (replicate (length d) 0) a) p.text

module _ (l d x R S ls ks t : List ℕ) (w : Lowered) (p : Lowers l d x R S ls ks t w) (r : Answer) where
  pub refuses : (w.number ≡ 0 → ⊥) → r ≡ refused_with w.number → Answers l d x R S ls ks t w r l d x R S
  refuses h e = record {
    result = λ low m g.
        ap (λ (a : Answer). answered a l d x) e ∙ over_zeros l d x R S ls ks t w p w.number
        ∙ sym (ap (λ (b : Bool). cond b (result_of (lent l d x) (structure low)) (refusal (lent l d x) w.number)) (ne_eqb w.number 0 h));
    rows = p.rows;
    spans = p.spans;
  }

  pub finishes : w.number ≡ 0 → (s : Structured) (l' d' x' A B : List ℕ)
      → Finishes ls ks t (take 1536 R) (take 769 S) w.lines l d x s l' d' x' A B → r ≡ answer_of s
      → Answers l d x R S ls ks t w r l' d' x' (A ++ drop 1536 R) (B ++ drop 769 S)
  finishes z s l' d' x' A B f e = record {
    result = λ low m g.
        ap (λ (a : Answer). answered a l' d' x') e ∙ as_numbers s l' d' x' ∙ f.result low (g z).0 m (g z).1
        ∙ sym (ap (λ (b : Bool). cond b (result_of (lent l d x) (structure low)) (refusal (lent l d x) w.number)) (eq-eqb w.number 0 z));
    rows = front_back 1536 R A p.rows f.rows;
    spans = front_back 769 S B p.spans f.spans;
  }
