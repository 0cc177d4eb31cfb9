-- The three passes on rows are `structure`: each pass ends on rows as it ends on lines, and what one leaves the next may begin with.
use mathlib.Core.Path.{◌≡◌, refl, sym, ap, subst, subst₂, ◌∙◌}
use mathlib.Core.Bool.{Bool, true, false, false≢true, true≢false}
use mathlib.Core.List.{List, ◌++◌}
use Prim.Native.Nat.{ℕ, ◌+◌, ◌-◌, ◌≤◌}
use native.Mathlib.Omega.{arith}
use lib.ListN.{length, take, drop, replicate, replicate-append-replicate}
use lib.Seq.{take_at, drop-drop, length-take-le}
use Rattle.definition.specs.Tokens.{Line}
use Rattle.definition.specs.Passes.{conds, if_try, do_try, structure_ifs, structure_do_while, Passed as LinesPassed}
use Rattle.definition.specs.Passes.Passed.{done as lines_done, too_deep as lines_deep}
use Rattle.definition.specs.Listing.{structure, after_ifs, after_loops, padded}
use Rattle.definition.specs.Listing.Outcome.{refused, listed}
use Rattle.definition.proofs.Plain.{Good}
use Rattle.definition.proofs.SweepIf.{if_goes, ifs_swept}
use Rattle.definition.proofs.SweepDo.{do_goes, loops_swept}
use Rattle.records.proofs.Padded.{drop_zeros}
use Rattle.outline.specs.Rows.{lines_of}
use Rattle.outline.specs.Spans.{spans_of}
use Rattle.passes.specs.declared.sweeps.Formed.{Formed}
use Rattle.std.specs.Prelude.{Result, Ok, Err}
use Rattle.passes.specs.declared.sweeps.TooDeep.{TooDeep}
use Rattle.passes.specs.Sweeps.{too_deep, more, Swept, swept, done, if_tried, do_tried, keeps, if_rows, do_rows}
use Rattle.passes.specs.Dropping.{Gathered, gathered, kept_row, kept_rows, drop_rows}
use Rattle.definition.proofs.ListLaws.{only_length}
use Rattle.coding.proofs.Coding.{Coded}
use Rattle.coding.proofs.Held.{Held, spans_length}
use Rattle.coding.proofs.RowSweep.{Ends, over, deeper, pass_same}
use Rattle.coding.proofs.IfStep.{if_step_lem}
use Rattle.coding.proofs.DoStep.{do_step_lem}
use Rattle.coding.proofs.DropStep.{drop_lines}

-- the first n rows code their lines, which are good, and each conditional jump has a row left for a closing brace
pub record Ready (ls : List Line) (l : ℕ) (R : List ℕ) (n : ℕ) : Type 0 where
  pub few : length R ≤ 4294967295
  pub coded : Coded ls l (take n R)
  pub good : Good (lines_of ls (take n R))
  pub room : n + conds (lines_of ls (take n R)) ≤ length R

module _ (ls : List Line) (S : List ℕ) (R : List ℕ) (n : ℕ) (A : Ready ls (length S) R n) where
  begun : Held ls (length S) R (spans_of (length S) R n) n
  begun = record { in_table = omega (arith, A.room); few = A.few; spans = refl; coded = A.coded }

  -- the pass for ifs, and the pass for loops, end on rows as they end on lines
  pub if_ends : Ends ls (length S) R n (if_rows R S n) (structure_ifs (lines_of ls (take n R)))
  unfolding if_rows
  if_ends =
      subst (Ends ls (length S) R n (if_rows R S n)) (sym (ifs_swept (lines_of ls (take n R)) A.good))
      (pass_same ls (length S) if_tried more if_try (λ m. omega arith) (λ m. (omega arith, omega arith)) if_goes (if_step_lem ls (length S))
      R (spans_of (length S) R n) n begun A.good A.room)

  pub do_ends : Ends ls (length S) R n (do_rows R S n) (structure_do_while (lines_of ls (take n R)))
  unfolding do_rows
  do_ends =
      subst (Ends ls (length S) R n (do_rows R S n)) (sym (loops_swept (lines_of ls (take n R)) A.good))
      (pass_same ls (length S) do_tried keeps do_try (λ m. refl) (λ m. (omega arith, omega arith)) do_goes (λ Q T m H k h f r. do_step_lem ls (length S) Q T m H k h f)
      R (spans_of (length S) R n) n begun A.good A.room)

-- ---- what a pass answered tells how it ended
is_done : Result Formed TooDeep → Bool
is_done (Ok f) = true
is_done (Err e) = false

formed_in : Result Formed TooDeep → Formed
formed_in (Ok f) = f
formed_in (Err e) = record { rows = 0; regions = 0 }

-- a pass that ended with the m rows of Q, and c regions
pub record Over (ls : List Line) (l : ℕ) (R : List ℕ) (n : ℕ) (Q T : List ℕ) (m c : ℕ) (p : LinesPassed) : Type 0 where
  pub lines : p ≡ lines_done c (lines_of ls (take m Q))
  pub held : Held ls l Q T m
  pub good : Good (lines_of ls (take m Q))
  pub room : m + conds (lines_of ls (take m Q)) ≤ length Q
  pub long : length Q ≡ length R
  pub more : n ≤ m
  pub behind : drop m Q ≡ drop m R

module _ {ls : List Line} {l : ℕ} {R : List ℕ} {n : ℕ} where
  same_over : {Q T Q' T' : List ℕ} {m c m' c' : ℕ} {p : LinesPassed} → Q' ≡ Q → T' ≡ T → m' ≡ m → c' ≡ c → Over ls l R n Q' T' m' c' p → Over ls l R n Q T m c p
  same_over {Q' = Q'} {T' = T'} {m = m} {c = c} {p = p} eq et em ec v =
      subst₂ (λ (Q T : List ℕ). Over ls l R n Q T m c p) eq et (subst₂ (λ (m c : ℕ). Over ls l R n Q' T' m c p) em ec v)

  pub ended_done : (Q T : List ℕ) (m c : ℕ) {z : Swept} {p : LinesPassed} → swept (done m c) Q T ≡ z → Ends ls l R n z p → Over ls l R n Q T m c p
  unfolding is_done formed_in
  ended_done Q T m c e (deeper q) = absurd (true≢false (ap (λ (x : Swept). is_done x.passed) e))
  ended_done Q T m c e (over H G w q k d) =
      same_over (sym (ap (λ (x : Swept). x.rows) e)) (sym (ap (λ (x : Swept). x.spans) e)) (sym (ap (λ (x : Swept). (formed_in x.passed).rows) e))
      (sym (ap (λ (x : Swept). (formed_in x.passed).regions) e)) (record { lines = refl; held = H; good = G; room = w; long = q; more = k; behind = d })

  pub ended_deep : (Q T : List ℕ) {z : Swept} {p : LinesPassed} → swept (Err too_deep) Q T ≡ z → Ends ls l R n z p → p ≡ lines_deep
  unfolding is_done
  ended_deep Q T e (deeper q) = refl
  ended_deep Q T e (over H G w q k d) = absurd (false≢true (ap (λ (x : Swept). is_done x.passed) e))

-- further behind there are zeros too
zeros_on : (R : List ℕ) (N n m : ℕ) → n ≤ m → drop n R ≡ replicate (N - n) 0 → drop m R ≡ replicate (N - m) 0
zeros_on R N n m h z =
    let s : n + (m - n) ≡ m = omega arith in
    let t : N - n - (m - n) ≡ N - m = omega arith in
    ap (λ (x : ℕ). drop x R) (sym s) ∙ sym (drop-drop (m - n) n R) ∙ ap (drop (m - n)) z ∙ drop_zeros (m - n) (N - n) ∙ ap (λ (x : ℕ). replicate x 0) t

-- the rows kept, the zeros of those dropped, and the zeros behind
pad_on : (ws D : List ℕ) (a b c : ℕ) → a + b ≡ c → D ≡ replicate b 0 → ws ++ (replicate a 0 ++ D) ≡ ws ++ replicate c 0
pad_on ws D a b c e d =
    ap (λ (z : List ℕ). ws ++ (replicate a 0 ++ z)) d
    ∙ ap (λ (z : List ℕ). ws ++ z) (replicate-append-replicate a b 0 ∙ ap (λ (x : ℕ). replicate x 0) e)

all_clean : (ws D : List ℕ) (y m N : ℕ) → y ≡ m → length ws ≤ m → m ≤ N → D ≡ replicate (N - m) 0 → ws ++ (replicate (y - length ws) 0 ++ D) ≡ padded N ws
unfolding padded
all_clean ws D y m N e h k d = pad_on ws D (y - length ws) (N - m) (N - length ws) (omega arith) d

-- ---- the three passes, one behind the other
-- the listing of the lines of the first e rows of Z, with zeros behind them where zeros stood behind the first n rows of R
pub record Finished (low : List Line) (R : List ℕ) (n : ℕ) (Z : List ℕ) (e ifs loops : ℕ) : Type 0 where
  pub lists : structure low ≡ listed (record { lines = lines_of low (take e Z); ifs = ifs; loops = loops })
  pub within : e ≤ length R
  pub clean : drop n R ≡ replicate (length R - n) 0 → Z ≡ padded (length R) (take e Z)

-- what the answers of `structure_ifs`, `structure_do_while` and `drop_unused_labels` say of `structure`
pub record Structured (low : List Line) (R S : List ℕ) (n : ℕ) : Type 0 where
  pub ifs_deep : (Q T : List ℕ) → swept (Err too_deep) Q T ≡ if_rows R S n → structure low ≡ refused 9
  pub loops_deep : (Q T : List ℕ) (m c : ℕ) (Q' T' : List ℕ) → swept (done m c) Q T ≡ if_rows R S n → swept (Err too_deep) Q' T' ≡ do_rows Q T m → structure low ≡ refused 9
  pub finished : (Q T : List ℕ) (m c : ℕ) (Q' T' : List ℕ) (m' c' : ℕ) (Z : List ℕ) (e : ℕ) → swept (done m c) Q T ≡ if_rows R S n
      → swept (done m' c') Q' T' ≡ do_rows Q T m → gathered e Z ≡ drop_rows Q' (length T') m' → Finished low R n Z e c c'

module _ (low : List Line) (R S : List ℕ) (n : ℕ) (A : Ready low (length S) R n) (is_low : lines_of low (take n R) ≡ low) where
  first : Ends low (length S) R n (if_rows R S n) (structure_ifs low)
  first = subst (λ (z : List Line). Ends low (length S) R n (if_rows R S n) (structure_ifs z)) is_low (if_ends low S R n A)

  ifs_deeper : (Q T : List ℕ) → swept (Err too_deep) Q T ≡ if_rows R S n → structure low ≡ refused 9
  unfolding structure after_ifs
  ifs_deeper Q T e = ap after_ifs (ended_deep Q T e first)

  module _ (Q T : List ℕ) (m c : ℕ) (e₁ : swept (done m c) Q T ≡ if_rows R S n) where
    mid : Over low (length S) R n Q T m c (structure_ifs low)
    mid = ended_done Q T m c e₁ first

    names : length S ≡ length T
    names = sym (ap length mid.held.spans ∙ spans_length (length S) Q m)

    ready : Ready low (length T) Q m
    ready = record {
      few = omega (arith, mid.long, A.few);
      coded = subst (λ (l : ℕ). Coded low l (take m Q)) names mid.held.coded;
      good = mid.good;
      room = mid.room;
    }

    second : Ends low (length T) Q m (do_rows Q T m) (structure_do_while (lines_of low (take m Q)))
    second = do_ends low T Q m ready

    structure_is : structure low ≡ after_loops c (structure_do_while (lines_of low (take m Q)))
    unfolding structure after_ifs
    structure_is = ap after_ifs mid.lines

    loops_deeper : (Q' T' : List ℕ) → swept (Err too_deep) Q' T' ≡ do_rows Q T m → structure low ≡ refused 9
    unfolding after_loops
    loops_deeper Q' T' e = structure_is ∙ ap (after_loops c) (ended_deep Q' T' e second)

    module _ (Q' T' : List ℕ) (m' c' : ℕ) (e₂ : swept (done m' c') Q' T' ≡ do_rows Q T m) (Z : List ℕ) (e : ℕ) (e₃ : gathered e Z ≡ drop_rows Q' (length T') m') where
      fin : Over low (length T) Q m Q' T' m' c' (structure_do_while (lines_of low (take m Q)))
      fin = ended_done Q' T' m' c' e₂ second

      ws : List ℕ
      ws = kept_rows Q' (length T') m'

      count_is : e ≡ length ws
      unfolding ws drop_rows
      count_is = ap (λ (g : Gathered). g.count) e₃

      rows_are : Z ≡ ws ++ (replicate (length (take m' Q') - length ws) 0 ++ drop m' Q')
      unfolding ws drop_rows
      rows_are = ap (λ (g : Gathered). g.rows) e₃

      kept_are : take e Z ≡ ws
      kept_are = ap (take e) rows_are ∙ take_at ws (replicate (length (take m' Q') - length ws) 0 ++ drop m' Q') e (sym count_is)

      ws_few : length ws ≤ m'
      unfolding ws kept_rows
      ws_few = omega (arith, only_length (kept_row (spans_of (length T') Q' m') m') (take m' Q'), length-take-le m' Q' fin.held.in_table)

      lists : structure low ≡ listed (record { lines = lines_of low (take e Z); ifs = c; loops = c' })
      unfolding after_loops ws
      lists =
          let q : length T ≡ length T' = sym (ap length fin.held.spans ∙ spans_length (length T) Q' m') in
          structure_is ∙ ap (after_loops c) fin.lines
          ∙ ap (λ (z : List Line). listed (record { lines = z; ifs = c; loops = c' }))
          (drop_lines low (length T) Q' T' m' fin.held ∙ ap (λ (l : ℕ). lines_of low (kept_rows Q' l m')) q ∙ ap (lines_of low) (sym kept_are))

      behind : drop m' Q' ≡ drop m' R
      behind =
          let s : m + (m' - m) ≡ m' = omega (arith, fin.more) in
          fin.behind ∙ ap (λ (x : ℕ). drop x Q) (sym s) ∙ sym (drop-drop (m' - m) m Q) ∙ ap (drop (m' - m)) mid.behind ∙ drop-drop (m' - m) m R ∙ ap (λ (x : ℕ). drop x R) s

      clean : drop n R ≡ replicate (length R - n) 0 → Z ≡ padded (length R) (take e Z)
      clean z =
          rows_are
          ∙ all_clean ws (drop m' Q') (length (take m' Q')) m' (length R) (length-take-le m' Q' fin.held.in_table) ws_few (omega (arith, fin.held.in_table, fin.long, mid.long))
          (behind ∙ zeros_on R (length R) n m' (omega (arith, fin.more, mid.more)) z)
          ∙ ap (padded (length R)) (sym kept_are)

      done_all : Finished low R n Z e c c'
      done_all = record { lists = lists; within = omega (arith, count_is, ws_few, fin.held.in_table, fin.long, mid.long); clean = clean }

  pub structured : Structured low R S n
  structured = record {
    ifs_deep = ifs_deeper;
    loops_deep = λ Q T m c Q' T' e₁. loops_deeper Q T m c e₁ Q' T';
    finished = λ Q T m c Q' T' m' c' Z e e₁ e₂ e₃. done_all Q T m c e₁ Q' T' m' c' e₂ Z e e₃;
  }
