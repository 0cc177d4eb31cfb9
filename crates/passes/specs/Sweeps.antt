-- The passes on rows: each row is tried once, the next row next.
use Rattle.std.specs.Prelude.{Bool, true, false, cond, ◌||◌, List, Result, Ok, Err, ℕ, zero, suc, ◌+◌, eqb, ltb, leb, length}
use Rattle.std.specs.Int.{from_bool}
use Rattle.outline.specs.Spans.{spans_of}
use Rattle.outline.specs.Forming.{deep_in}
use Rattle.passes.specs.declared.sweeps.Formed.{Formed}
use Rattle.passes.specs.declared.sweeps.TooDeep.{TooDeep}
use Rattle.passes.specs.Regions.{if_goal, do_goal, formed_if, formed_do}

-- the one refusal: a row too deep, or no room for a row
abbrev pub too_deep : TooDeep
too_deep = record {}

-- a try at a row: whether a region was formed, unless it was refused; and both tables behind it
pub record Tried : Type 0 where
  pub says : Result Bool TooDeep
  pub rows : List ℕ
  pub spans : List ℕ

-- its value from the three
abbrev pub tried : Result Bool TooDeep → List ℕ → List ℕ → Tried
tried v R S = record { says = v; rows = R; spans = S }

-- unless there is none, or it is too deep, a region takes the rows R to the m rows of Q
unfoldable pub tried_at : Bool → Bool → List ℕ → List ℕ → List ℕ → ℕ → Tried
tried_at b d R S Q m = cond b (tried (Ok false) R S) (cond d (tried (Err too_deep) R S) (tried (Ok true) Q (spans_of (length S) Q m)))

-- the try of the if at row k of n: no room is as too deep
unfoldable pub if_tried : List ℕ → List ℕ → ℕ → ℕ → Tried
if_tried R S n k =
    let j = if_goal R S n k in
    tried_at (eqb j n) (deep_in R (k + 1) j || leb (length R) n) R S (formed_if R n k j) (n + 1)

-- the try of the loop at row k of n, which needs no row more
unfoldable pub do_tried : List ℕ → List ℕ → ℕ → ℕ → Tried
do_tried R S n k =
    let j = do_goal R S n k in
    tried_at (eqb j n) (deep_in R (k + 1) j || leb (length R) j) R S (formed_do R k j) n

-- what a pass answers, and both tables behind it
pub record Swept : Type 0 where
  pub passed : Result Formed TooDeep
  pub rows : List ℕ
  pub spans : List ℕ

-- its value from the three
abbrev pub swept : Result Formed TooDeep → List ℕ → List ℕ → Swept
swept p R S = record { passed = p; rows = R; spans = S }

-- n rows, and c regions formed
abbrev pub done : ℕ → ℕ → Result Formed TooDeep
done n c = Ok (record { rows = n; regions = c })

-- a number, one more where a region was formed
abbrev pub more : ℕ → Bool → ℕ
more n b = n + from_bool b

-- a try at each row from row k on, with c regions formed before; `grown` is how many rows there are after a try
module _ (try : List ℕ → List ℕ → ℕ → ℕ → Tried) (grown : ℕ → Bool → ℕ) where
  unfoldable pub sweep_rows : ℕ → List ℕ → List ℕ → ℕ → ℕ → ℕ → Swept
  sweep_rows zero R S k n c = swept (done n c) R S
  sweep_rows (suc f) R S k n c =
      let t = try R S n k in
      cond (ltb k n)
      (elim t.says [
        | Err e ↦ swept (Err e) t.rows t.spans
        | Ok b ↦ sweep_rows f t.rows t.spans (suc k) (grown n b) (more c b)
      ])
      (swept (done n c) R S)

-- a loop adds no row
abbrev pub keeps : ℕ → Bool → ℕ
keeps n b = n

-- the passes over the first n rows, with spans made of them
unfoldable pub if_rows : List ℕ → List ℕ → ℕ → Swept
if_rows R S n = sweep_rows if_tried more (length R + n) R (spans_of (length S) R n) 0 n 0

unfoldable pub do_rows : List ℕ → List ℕ → ℕ → Swept
do_rows R S n = sweep_rows do_tried keeps (length R + n) R (spans_of (length S) R n) 0 n 0
