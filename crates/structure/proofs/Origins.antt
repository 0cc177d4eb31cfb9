-- Every row comes of a lowered line: the passes put in closing rows, which have origin 0, and leave the origin of every other row as it is.
use mathlib.Core.Path.{◌≡◌, sym, subst}
use mathlib.Core.Bool.{Bool, true, false}
use mathlib.Core.List.{List}
use Prim.Native.Nat.{min, ℕ, zero, suc, ◌+◌, ◌-◌, ◌/◌, ◌%◌, ◌≤◌, ◌<◌}
use native.Mathlib.Omega.{arith}
use borrow.Author.Tests.{ltb-true}
use lib.Dec.{ltb}
use lib.ListN.{length, take, set, replicate}
use Rattle.std.specs.Prelude.{Result, Ok, Err}
use Rattle.passes.specs.declared.sweeps.Formed.{Formed}
use Rattle.definition.specs.Tokens.{Line}
use Rattle.definition.specs.Sorts.{sort}
use Rattle.definition.specs.Lists.{at}
use Rattle.definition.proofs.Bools.{by_cond}
use Rattle.definition.proofs.ListLaws.{Each, end, ◌▸◌, each_append, each_map, each_take, each_drop, each_range, each_only}
use Rattle.sheet.proofs.Reading.{least_left}
use Rattle.passes.specs.declared.sweeps.TooDeep.{TooDeep}
use Rattle.outline.specs.Rows.{origin_of, line_at}
use Rattle.outline.specs.Spans.{spans_of}
use Rattle.outline.specs.Forming.{raised, turned, changed_in, inserted}
use Rattle.passes.specs.Regions.{opened, whiled, headed, close_row, formed_if, formed_do, if_goal, do_goal}
use Rattle.passes.specs.Sweeps.{more, swept, Tried, tried_at, if_tried, do_tried, Swept, sweep_rows, keeps, if_rows, do_rows}
use Rattle.passes.specs.Dropping.{kept_row, kept_rows, drop_rows}
use Rattle.sorts.specs.Sorted.{kind_in, name_in, packed, row_of, lines_in, sorted}
use Rattle.structure.specs.Runs.{behind_loops, loops_ran, behind_ifs, ifs_ran, ran_of}

-- ---- each row of what the passes make of a table
module _ {P : ℕ → Type 0} where
  each_set : {xs : List ℕ} (i v : ℕ) → P v → Each P xs → Each P (set xs i v)
  each_set i v q end = end
  each_set zero v q (p ▸ h) = q ▸ h
  each_set (suc i) v q (p ▸ h) = p ▸ each_set i v q h

  each_replicate : (n v : ℕ) → P v → Each P (replicate n v)
  each_replicate zero v q = end
  each_replicate (suc n) v q = q ▸ each_replicate n v q

  pub each_row : P 0 → {xs : List ℕ} → Each P xs → (i : ℕ) → P (at xs i)
  unfolding at
  each_row z end i = z
  each_row z (p ▸ h) zero = p
  each_row z (p ▸ h) (suc i) = each_row z h i

  each_changed : (f : ℕ → ℕ) → ((w : ℕ) → P w → P (f w)) → {R : List ℕ} (a b : ℕ) → Each P R → Each P (changed_in f R a b)
  unfolding changed_in
  each_changed f g a b h = each_append (each_take a h) (each_append (each_map f g (each_take (b - a) (each_drop a h))) (each_drop b h))

  each_inserted : {R : List ℕ} (n j v : ℕ) → P v → Each P R → Each P (inserted R n j v)
  unfolding inserted
  each_inserted n j v q h = each_append (each_take j h) (q ▸ each_append (each_take (n - j) (each_drop j h)) (each_drop (suc n) h))

-- ---- origins
raised_origin : (w : ℕ) → origin_of (raised w) ≡ origin_of w
unfolding raised
raised_origin w = by_cond (λ (v : ℕ). v / 1099511627776 ≡ w / 1099511627776) (ltb (w / 16 % 4096) 4095) (λ e. let h = ltb-true (w / 16 % 4096) 4095 e in omega arith) (λ e. omega arith)

turned_origin : (v : ℕ) → v < 8 → (w : ℕ) → origin_of (turned v w) ≡ origin_of w
unfolding turned
turned_origin v k w = by_cond (λ (u : ℕ). u / 1099511627776 ≡ w / 1099511627776) (ltb (w % 16) 8) (λ e. let h = ltb-true (w % 16) 8 e in omega arith) (λ e. omega arith)

close_origin : (w : ℕ) → origin_of (close_row w) ≡ 0
unfolding close_row
close_origin w = omega arith

packed_origin : (k d m o : ℕ) → origin_of (packed k d m o) ≤ o
unfolding packed
packed_origin k d m o = omega arith

zero_origin : origin_of 0 ≡ 0
zero_origin = omega arith

-- the row comes of one of n lines
unfoldable pub Below : ℕ → ℕ → Type 0
Below n w = origin_of w < n

module _ (N : ℕ) (some : 0 < N) where
  abbrev All : List ℕ → Type 0
  All R = Each (Below N) R

  pub zero_below : Below N 0
  unfolding Below
  zero_below = omega (arith, zero_origin)

  raised_below : (w : ℕ) → Below N w → Below N (raised w)
  unfolding Below
  raised_below w h = omega (arith, raised_origin w)

  turned_below : (v : ℕ) → v < 8 → (w : ℕ) → Below N w → Below N (turned v w)
  unfolding Below
  turned_below v k w h = omega (arith, turned_origin v k w)

  close_below : (w : ℕ) → Below N (close_row w)
  unfolding Below
  close_below w = omega (arith, close_origin w)

  if_below : (R : List ℕ) (n k j : ℕ) → All R → All (formed_if R n k j)
  unfolding formed_if opened
  if_below R n k j h =
      each_inserted n j (close_row (at R k)) (close_below (at R k))
      (each_changed raised raised_below (k + 1) j (each_set k (turned 3 (at R k)) (turned_below 3 (omega arith) (at R k) (each_row zero_below h k)) h))

  do_below : (R : List ℕ) (k j : ℕ) → All R → All (formed_do R k j)
  unfolding formed_do headed whiled
  do_below R k j h =
      each_set j (turned 6 (at R j)) (turned_below 6 (omega arith) (at R j) (each_row zero_below h j))
      (each_changed raised raised_below (k + 1) j
      (each_set k (turned 6 (raised (at R k))) (turned_below 6 (omega arith) (raised (at R k)) (raised_below (at R k) (each_row zero_below h k))) h))

  tried_below : (b d : Bool) (R S Q : List ℕ) (m : ℕ) → All R → All Q → All (tried_at b d R S Q m).rows
  unfolding tried_at
  tried_below true d R S Q m h g = h
  tried_below false true R S Q m h g = h
  tried_below false false R S Q m h g = g

  sweep_below : (try : List ℕ → List ℕ → ℕ → ℕ → Tried) (grown : ℕ → Bool → ℕ) → ((R S : List ℕ) (n k : ℕ) → All R → All (try R S n k).rows)
      → (f : ℕ) (R S : List ℕ) (k n c : ℕ) → All R → All (sweep_rows try grown f R S k n c).rows
  unfolding sweep_rows
  sweep_below try grown keep zero R S k n c h = h
  sweep_below try grown keep (suc f) R S k n c h =
      let t = try R S n k in
      by_cond (λ (s : Swept). All s.rows) (ltb k n) (λ e. go t.says t.rows t.spans (keep R S n k h) (sweep_below try grown keep f)) (λ e. h)
    where
      on : Result Bool TooDeep → List ℕ → List ℕ → Swept
      on v Q T = elim v [ Err x ↦ swept (Err x) Q T | Ok b ↦ sweep_rows try grown f Q T (suc k) (grown n b) (more c b) ]

      go : (v : Result Bool TooDeep) (Q T : List ℕ) → All Q → ((R S : List ℕ) (k n c : ℕ) → All R → All (sweep_rows try grown f R S k n c).rows)
          → All (on v Q T).rows
      go (Err x) Q T g i = g
      go (Ok b) Q T g i = i Q T (suc k) (grown n b) (more c b) g

  ifs_below : (R S : List ℕ) (n : ℕ) → All R → All (if_rows R S n).rows
  unfolding if_rows if_tried
  ifs_below R S n h = sweep_below if_tried more (λ Q T m k g. tried_below _ _ Q T _ (m + 1) g (if_below Q m k (if_goal Q T m k) g)) (length R + n) R (spans_of (length S) R n) 0 n 0 h

  loops_below : (R S : List ℕ) (n : ℕ) → All R → All (do_rows R S n).rows
  unfolding do_rows do_tried
  loops_below R S n h = sweep_below do_tried keeps (λ Q T m k g. tried_below _ _ Q T _ m g (do_below Q k (do_goal Q T m k) g)) (length R + n) R (spans_of (length S) R n) 0 n 0 h

  drop_below : (R : List ℕ) (l n : ℕ) → All R → All (drop_rows R l n).rows
  unfolding drop_rows kept_rows
  drop_below R l n h =
      each_append (each_only (kept_row (spans_of l R n) n) (each_take n h)) (each_append (each_replicate (length (take n R) - length (kept_rows R l n)) 0 zero_below) (each_drop n h))

  behind_loops_lem : (c : ℕ) (v : Result Formed TooDeep) (R S : List ℕ) → All R → All (behind_loops c v R S).rows
  unfolding behind_loops
  behind_loops_lem c (Err e₀) R S h = h
  behind_loops_lem c (Ok f) R S h = drop_below R (length S) f.rows h

  behind_ifs_lem : (v : Result Formed TooDeep) (R S : List ℕ) → All R → All (behind_ifs v R S).rows
  unfolding behind_ifs loops_ran
  behind_ifs_lem (Err e₀) R S h = h
  behind_ifs_lem (Ok f) R S h =
      let s = do_rows R S f.rows in
      behind_loops_lem f.regions s.passed s.rows s.spans (loops_below R S f.rows h)

  -- the passes keep it, and the rows that they begin with have it
  pub ran_below : (R S : List ℕ) (n : ℕ) → All R → All (ran_of R S n).rows
  unfolding ran_of ifs_ran
  ran_below R S n h = let s = if_rows R S n in behind_ifs_lem s.passed s.rows s.spans (ifs_below R S n h)

  row_below : (xs : List Line) (i : ℕ) → i < N → Below N (row_of xs i)
  unfolding row_of Below
  row_below xs i h = omega (arith, packed_origin (kind_in (sort (line_at xs i))) (line_at xs i).indent (name_in xs i (sort (line_at xs i))) i)

  pub sorted_below : (ls ks t R : List ℕ) → N ≤ length R → R ≡ replicate (length R) 0 → All (sorted ls ks t N R)
  unfolding sorted
  sorted_below ls ks t R long z =
      let m : min N (length R) ≡ N = least_left N (length R) long in
      let clean : All R = subst All (sym z) (each_replicate (length R) 0 zero_below) in
      rw m (each_append (each_range (row_of (lines_in ls ks t N)) 0 N (λ i h. row_below (lines_in ls ks t N) i (omega arith))) (each_drop N clean))
