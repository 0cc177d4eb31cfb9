-- A sweep over rows is the sweep over their lines, where each try is: by induction on the rows that are left to try.
use mathlib.Core.Path.{◌≡◌, refl, sym, ap, ap₂, subst, subst₂, ◌∙◌}
use mathlib.Core.Bool.{Bool, true, false}
use mathlib.Core.Option.{some}
use mathlib.Core.List.{List, ◌∷◌, ◌++◌, map}
use Prim.Native.Nat.{ℕ, zero, suc, ◌+◌, ◌-◌, ◌≤◌, ◌<◌}
use native.Mathlib.Decide.{dec_lt}
use native.Mathlib.Numerals.{add-one}
use native.Mathlib.Omega.{arith}
use lib.ListN.{length, take, drop}
use lib.Seq.{take_at, drop_at, drop-drop, length-take-le}
use Rattle.definition.specs.Tokens.{Line}
use Rattle.definition.specs.Passes.{Formed, conds, Passed as LinesPassed}
use Rattle.definition.specs.Passes.Passed.{done as lines_done, too_deep as lines_deep}
use Rattle.definition.specs.Lists.{at}
use Rattle.definition.proofs.Fits.{Fits}
use Rattle.definition.proofs.Plain.{Good}
use Rattle.definition.proofs.Regions.{Try}
use Rattle.definition.proofs.Sweep.{try_at, sweep, sweep_n, sweep_none, sweep_deep, sweep_on, sweep_end, Goes}
use Rattle.outline.specs.Rows.{line_of, lines_of}
use Rattle.std.specs.Prelude.{Ok, Err}
use Rattle.passes.specs.Sweeps.{too_deep, Tried, Swept, swept, done, sweep_rows}
use Rattle.passes.proofs.Turns.{sweep_stop, turn_deep, turn_on}
use Rattle.coding.proofs.Scanning.{part}
use Rattle.coding.proofs.Shapes.{map_length}
use Rattle.coding.proofs.Held.{Held, Step, no_region, too_deep_lem, region, lines_split}

-- how a sweep from n rows of R ends, on rows and on lines
pub data Ends (ls : List Line) (l : ℕ) (R : List ℕ) (n : ℕ) : Swept → LinesPassed → Type 0 where
  over : {Q T : List ℕ} {m c : ℕ} → Held ls l Q T m → Good (lines_of ls (take m Q)) → m + conds (lines_of ls (take m Q)) ≤ length Q
      → length Q ≡ length R → n ≤ m → drop m Q ≡ drop m R → Ends ls l R n (swept (done m c) Q T) (lines_done c (lines_of ls (take m Q)))
  deeper : {Q T : List ℕ} → length Q ≡ length R → Ends ls l R n (swept (Err too_deep) Q T) lines_deep

-- from the rows after a region to those before it
ends_from : {ls : List Line} {l : ℕ} {Q R : List ℕ} {n m : ℕ} {z : Swept} {p : LinesPassed} → length Q ≡ length R → n ≤ m → drop m Q ≡ drop m R
    → Ends ls l Q m z p → Ends ls l R n z p
ends_from e h b (deeper q) = deeper (q ∙ e)
ends_from {Q = Q} {R = R} {m = m} e h b (over {m = i} H G w q k d) =
    let s : m + (i - m) ≡ i = omega arith in
    over H G w (q ∙ e) (omega arith)
    (d ∙ ap (λ (x : ℕ). drop x Q) (sym s) ∙ sym (drop-drop (i - m) m Q) ∙ ap (drop (i - m)) b ∙ drop-drop (i - m) m R ∙ ap (λ (x : ℕ). drop x R) s)

module _ (ls : List Line) (l : ℕ) (try : List ℕ → List ℕ → ℕ → ℕ → Tried) (grown : ℕ → Bool → ℕ) (line_try : Try)
    (stays : (n : ℕ) → grown n false ≡ n) (one : (n : ℕ) → (n ≤ grown n true) × (grown n true ≤ n + 1))
    (goes : (pre : List Line) (x : Line) (xs : List Line) (o : Formed) → line_try pre x xs ≡ some o → Good (pre ++ x ∷ xs) → Goes line_try Good pre x xs o.lines)
    (step : (R S : List ℕ) (n : ℕ) → Held ls l R S n → (k : ℕ) → k < n → Fits (lines_of ls (take n R))
    → ((o : Formed) → line_try (map (line_of ls) (take k R)) (line_of ls (at R k)) (map (line_of ls) (part R (k + 1) (n - (k + 1)))) ≡ some o → n < length R)
    → Step ls l R S (grown n true) (try R S n k) (line_try (map (line_of ls) (take k R)) (line_of ls (at R k)) (map (line_of ls) (part R (k + 1) (n - (k + 1)))))) where
  abbrev lines : List ℕ → ℕ → List Line
  lines R n = lines_of ls (take n R)

  lines_length : (R : List ℕ) (n : ℕ) → n ≤ length R → length (lines R n) ≡ n
  unfolding lines_of
  lines_length R n h = map_length (line_of ls) (take n R) ∙ length-take-le n R h

  -- with fuel f and e
  abbrev Same : ℕ → Type 0
  Same f =
      (e : ℕ) (R S : List ℕ) (k n c : ℕ) → Held ls l R S n → Good (lines R n) → n + conds (lines R n) ≤ f + k → n + conds (lines R n) ≤ e + k
      → n + conds (lines R n) ≤ length R → Ends ls l R n (sweep_rows try grown f R S k n c) (sweep_n line_try e k c (lines R n))

  finished : (f e : ℕ) (R S : List ℕ) (k n c : ℕ) → Held ls l R S n → Good (lines R n) → n + conds (lines R n) ≤ length R → n ≤ k
      → Ends ls l R n (sweep_rows try grown f R S k n c) (sweep_n line_try e k c (lines R n))
  finished f e R S k n c H G w h =
      subst₂ (Ends ls l R n) (sweep_stop try grown f R S k n c h)
      (sym (sweep_end line_try e k c (lines R n) (omega (arith, lines_length R n H.in_table)))) (over H G w refl (omega arith) refl)

  module _ (f : ℕ) (ih : Same f) (e : ℕ) (R S : List ℕ) (k n c : ℕ) (H : Held ls l R S n) (G : Good (lines R n)) (u : n + conds (lines R n) ≤ suc f + k)
      (v : n + conds (lines R n) ≤ suc e + k) (w : n + conds (lines R n) ≤ length R) (h : k < n) where
    abbrev pre : List Line
    pre = map (line_of ls) (take k R)

    abbrev x : Line
    x = line_of ls (at R k)

    abbrev xs : List Line
    xs = map (line_of ls) (part R (k + 1) (n - (k + 1)))

    split : lines R n ≡ pre ++ x ∷ xs
    unfolding lines_of
    split = lines_split ls l R S n H k h

    here : try_at line_try (take k (lines R n)) (drop k (lines R n)) ≡ line_try pre x xs
    unfolding try_at
    here =
        let q : length pre ≡ k = map_length (line_of ls) (take k R) ∙ length-take-le k R (omega (arith, H.in_table)) in
        ap₂ (try_at line_try) (ap (take k) split ∙ take_at pre (x ∷ xs) k q) (ap (drop k) split ∙ drop_at pre (x ∷ xs) k q)

    gone : (o : Formed) → line_try pre x xs ≡ some o → Goes line_try Good pre x xs o.lines
    gone o q = goes pre x xs o q (subst Good split G)

    fewer : (o : Formed) → line_try pre x xs ≡ some o → conds (lines R n) ≡ suc (conds o.lines)
    fewer o q = ap conds split ∙ (gone o q).fewer

    by_step : Step ls l R S (grown n true) (try R S n k) (line_try pre x xs) → Ends ls l R n (sweep_rows try grown (suc f) R S k n c) (sweep_n line_try (suc e) k c (lines R n))
    by_step (no_region et er) =
        let z : c + 0 ≡ c = omega arith in
        subst₂ (Ends ls l R n)
        (sym (turn_on try grown f R S k n c h (Ok false) R S (sym et) false refl ∙ ap₂ (λ (a b : ℕ). sweep_rows try grown f R S (suc k) a b) (stays n) z))
        (sym (sweep_none line_try e k c (lines R n) (here ∙ er)))
        (ih e R S (suc k) n c H G (omega arith) (omega arith) w)
    by_step (too_deep_lem et o er d) =
        subst₂ (Ends ls l R n) (turn_deep try grown f R S k n c h (Err too_deep) R S (sym et) too_deep refl) (sym (sweep_deep line_try e k c (lines R n) o (here ∙ er) d)) (deeper refl)
    by_step (region Q T et o er d el HQ len beh) =
        let m : ℕ = grown n true in
        let few : conds (lines R n) ≡ suc (conds (lines Q m)) = fewer o er ∙ ap (λ (z : List Line). suc (conds z)) el in
        let b = one n in
        subst₂ (Ends ls l R n)
        (sym (turn_on try grown f R S k n c h (Ok true) Q T (sym et) true refl ∙ ap (sweep_rows try grown f Q T (suc k) m) (add-one c)))
        (sym (sweep_on line_try e k c (lines R n) o (here ∙ er) d ∙ ap (sweep_n line_try e (suc k) (suc c)) el))
        (ends_from len b.0 beh
        (ih e Q T (suc k) m (suc c) HQ (subst Good el (gone o er).good) (omega (arith, few, b)) (omega (arith, few, b)) (omega (arith, few, b, len))))

    turned : Ends ls l R n (sweep_rows try grown (suc f) R S k n c) (sweep_n line_try (suc e) k c (lines R n))
    turned = by_step (step R S n H k h G.0 (λ o q. omega (arith, fewer o q)))

  sweep_same : (f : ℕ) → Same f
  sweep_same zero e R S k n c H G u v w = finished zero e R S k n c H G w (omega arith)
  sweep_same (suc f) e R S k n c H G u v w = go (sweep_same f) e v (dec_lt k n)
    where
      go : Same f → (e : ℕ) → n + conds (lines R n) ≤ e + k → Dec (k < n) → Ends ls l R n (sweep_rows try grown (suc f) R S k n c) (sweep_n line_try e k c (lines R n))
      go ih e v (no h) = finished (suc f) e R S k n c H G w (omega arith)
      go ih zero v (yes h) = absurd (omega arith)
      go ih (suc e) v (yes h) = turned f ih e R S k n c H G u v w h

  -- the sweep of a pass
  pub pass_same : (R S : List ℕ) (n : ℕ) → Held ls l R S n → Good (lines R n) → n + conds (lines R n) ≤ length R
      → Ends ls l R n (sweep_rows try grown (length R + n) R S 0 n 0) (sweep line_try (lines R n))
  unfolding sweep
  pass_same R S n H G w =
      sweep_same (length R + n) (length (lines R n) + conds (lines R n)) R S 0 n 0 H G (omega arith) (omega (arith, lines_length R n H.in_table)) w
