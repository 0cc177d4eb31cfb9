-- A try's returns and a sweep's turns, for both passes: what the code answers is what the model says from the same tables.
use mathlib.Core.Path.{◌≡◌, refl, sym, ap, ◌∙◌}
use mathlib.Core.Bool.{Bool, true, false, cond, ◌||◌, false≢true}
use mathlib.Core.List.{List}
use Prim.Native.Nat.{ℕ, zero, suc, ◌+◌, ◌-◌, ◌≤◌, ◌<◌}
use native.Mathlib.Omega.{arith}
use native.Mathlib.Numerals.{add-one}
use borrow.Author.Tests.{lt-ltb, le-ltb, leb-false}
use lib.Dec.{eqb, leb}
use lib.ListN.{length}
use Rattle.definition.proofs.Runs.{loop_start}
use Rattle.outline.specs.Spans.{spans_of}
use Rattle.outline.specs.Forming.{deep_in}
use Rattle.std.specs.Int.{from_bool}
use Rattle.std.specs.Result.{IsErr}
use Rattle.std.specs.Prelude.{Result, Ok, Err}
use Rattle.passes.specs.declared.sweeps.TooDeep.{TooDeep}
use Rattle.passes.specs.Regions.{if_goal}
use Rattle.passes.specs.Sweeps.{too_deep, more, Tried, tried, tried_at, if_tried, do_tried, Swept, swept, done, sweep_rows, keeps, if_rows, do_rows}

-- ---- a try
-- a try forms a region only where there is room
tells : (b d f : Bool) (R S Q : List ℕ) (m : ℕ) (R' S' : List ℕ) → tried (Ok true) R' S' ≡ tried_at b (d || f) R S Q m → f ≡ false
unfolding tried_at
tells true d f R S Q m R' S' e = cc (ap (λ (t : Tried). t.says) e)
tells false true f R S Q m R' S' e = cc (ap (λ (t : Tried). t.says) e)
tells false false true R S Q m R' S' e = cc (ap (λ (t : Tried). t.says) e)
tells false false false R S Q m R' S' e = refl

pub if_room : (R S : List ℕ) (n k : ℕ) (R' S' : List ℕ) → tried (Ok true) R' S' ≡ if_tried R S n k → n < length R
unfolding if_tried
if_room R S n k R' S' e =
    leb-false (length R) n (tells (eqb (if_goal R S n k) n) (deep_in R (k + 1) (if_goal R S n k)) (leb (length R) n) R S _ _ R' S' e)

-- ---- a sweep
module _ (try : List ℕ → List ℕ → ℕ → ℕ → Tried) (grown : ℕ → Bool → ℕ) where
  pub sweep_stop : (f : ℕ) (R S : List ℕ) (k n c : ℕ) → n ≤ k → swept (done n c) R S ≡ sweep_rows try grown f R S k n c
  unfolding sweep_rows
  sweep_stop zero R S k n c h = refl
  sweep_stop (suc f) R S k n c h = simp (le-ltb k n h)

  -- a turn
  module _ (f : ℕ) (R S : List ℕ) (k n c : ℕ) (h : k < n) (v : Result Bool TooDeep) (R' S' : List ℕ) (e : tried v R' S' ≡ try R S n k) where
    on : Tried → Swept
    on t = elim t.says [ Err x ↦ swept (Err x) t.rows t.spans | Ok b ↦ sweep_rows try grown f t.rows t.spans (suc k) (grown n b) (more c b) ]

    turned_by : sweep_rows try grown (suc f) R S k n c ≡ on (tried v R' S')
    unfolding sweep_rows on
    turned_by = ap (λ (b : Bool). cond b (on (try R S n k)) (swept (done n c) R S)) (lt-ltb k n h) ∙ ap on (sym e)

    pub turn_deep : (x : TooDeep) → v ≡ Err x → swept (Err x) R' S' ≡ sweep_rows try grown (suc f) R S k n c
    unfolding on
    turn_deep x q = sym (turned_by ∙ ap (λ (u : Result Bool TooDeep). on (tried u R' S')) q)

    pub turn_on : (b : Bool) → v ≡ Ok b → sweep_rows try grown (suc f) R S k n c ≡ sweep_rows try grown f R' S' (suc k) (grown n b) (more c b)
    unfolding on
    turn_on b q = turned_by ∙ ap (λ (u : Result Bool TooDeep). on (tried u R' S')) q

  -- with the rows that are left of F
  module _ (F : ℕ) (R S : List ℕ) (k n c : ℕ) (h : k < n) (l : n ≤ F) (v : Result Bool TooDeep) (R' S' : List ℕ) (e : tried v R' S' ≡ try R S n k) where
    left : F - k ≡ suc (F - (k + 1))
    left = omega arith

    pub sweep_deep : (x : TooDeep) → v ≡ Err x → swept (Err x) R' S' ≡ sweep_rows try grown (F - k) R S k n c
    sweep_deep x q = turn_deep (F - (k + 1)) R S k n c h v R' S' e x q ∙ ap (λ (f : ℕ). sweep_rows try grown f R S k n c) (sym left)

    pub sweep_on : (b : Bool) → v ≡ Ok b → sweep_rows try grown (F - k) R S k n c ≡ sweep_rows try grown (F - (k + 1)) R' S' (k + 1) (grown n b) (more c b)
    sweep_on b q =
        ap (λ (f : ℕ). sweep_rows try grown f R S k n c) left ∙ turn_on (F - (k + 1)) R S k n c h v R' S' e b q
        ∙ ap (λ (i : ℕ). sweep_rows try grown (F - (k + 1)) R' S' i (grown n b) (more c b)) (sym (add-one k))

-- so the rows grow within any bound that they and the table keep
pub if_grows : (F : ℕ) (R S : List ℕ) (n k : ℕ) (b : Bool) (R' S' : List ℕ) → tried (Ok b) R' S' ≡ if_tried R S n k → n ≤ F → length R ≤ F → more n b ≤ F
if_grows F R S n k true R' S' e h l = let r = if_room R S n k R' S' e in omega arith
if_grows F R S n k false R' S' e h l = omega arith

pub counts_one : (b : Bool) → from_bool b ≤ 1
counts_one true = omega arith
counts_one false = omega arith

-- there is one refusal
pub refused : {A : Type 0} (r : Result A TooDeep) → IsErr r → r ≡ Err too_deep
refused (Err x) h = refl
refused (Ok x) h = absurd (false≢true h)

-- the sweep from the first row; the pass is the sweep with the spans of its rows
pub sweep_start : (try : List ℕ → List ℕ → ℕ → ℕ → Tried) (grown : ℕ → Bool → ℕ) (R S : List ℕ) (n F : ℕ)
    → sweep_rows try grown F R S 0 n 0 ≡ sweep_rows try grown (F - 0) R S 0 n 0
sweep_start try grown R S n F = loop_start (λ (f : ℕ). sweep_rows try grown f R S 0 n 0) F F refl

pass_is : (try : List ℕ → List ℕ → ℕ → ℕ → Tried) (grown : ℕ → Bool → ℕ) (R S T : List ℕ) (n : ℕ) (z : Swept) → T ≡ spans_of (length S) R n
    → z ≡ sweep_rows try grown (length R + n) R T 0 n 0 → z ≡ sweep_rows try grown (length R + n) R (spans_of (length S) R n) 0 n 0
pass_is try grown R S T n z e h = h ∙ ap (λ (U : List ℕ). sweep_rows try grown (length R + n) R U 0 n 0) e

pub if_pass : (R S T : List ℕ) (n : ℕ) (z : Swept) → T ≡ spans_of (length S) R n → z ≡ sweep_rows if_tried more (length R + n) R T 0 n 0 → z ≡ if_rows R S n
unfolding if_rows
if_pass = pass_is if_tried more

pub do_pass : (R S T : List ℕ) (n : ℕ) (z : Swept) → T ≡ spans_of (length S) R n → z ≡ sweep_rows do_tried keeps (length R + n) R T 0 n 0 → z ≡ do_rows R S n
unfolding do_rows
do_pass = pass_is do_tried keeps
