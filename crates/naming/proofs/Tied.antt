-- The tables of the walk are those of naming with codes: each spot's place names its value, and a class's root is named somewhere too. Each local is
-- given to a value that had no name, so that there are no more locals than entries.
use mathlib.Core.Path.{◌≡◌, sym, ap, ap₂, ◌∙◌}
use mathlib.Core.Bool.{Bool, false, not, ◌&&◌, ◌||◌}
use mathlib.Core.List.{List, [], ◌∷◌, map}
use Prim.Native.Nat.{ℕ, zero, suc, ◌+◌, ◌*◌, ◌≤◌, ◌<◌}
use native.Mathlib.Omega.{arith}
use lib.Dec.{eqb}
use lib.ListN.{length, set, length-set}
use borrow.Author.Tests.{eqb-true, eqb-false, eq-eqb, ne_eqb, lt-ltb, not-false}
use Rattle.definition.specs.Lists.{count, at}
use Rattle.definition.specs.Values.{Value, eqv, RSP}
use Rattle.definition.proofs.Bools.{by_test, both_false}
use Rattle.definition.proofs.ListLaws.{Each, end, ◌▸◌, count_length}
use Rattle.places.specs.Keys.{key_of, keyed}
use Rattle.values.specs.Tables.{number_of, numbered, table}
use Rattle.values.proofs.Tables.{key_not_0, decode, eqv_keys, same_numbered, numbered_below, table_length, table_read, Names}
use Rattle.names.specs.Codes.{coded, Coding, coding, meet_code, code_key, code_keys}
use Rattle.names.specs.Spots.{Spot, Known, State, known, noted, met, named}
use Rattle.names.proofs.Mentioned.{Right, coded_write, root_number}
use Rattle.naming.specs.Walk.{walked}

-- ---- how many entries there are
abbrev filled : List ℕ → ℕ
filled l = count (λ (x : ℕ). not (eqb x 0)) l

filled_set : (l : List ℕ) (i x : ℕ) → i < length l → at l i ≡ 0 → (x ≡ 0 → ⊥) → filled (set l i x) ≡ suc (filled l)
unfolding count at
filled_set [] i x h e k = absurd (omega arith)
filled_set (y ∷ l) zero x h e k = rw (ne_eqb x 0 k, eq-eqb y 0 e)
filled_set (y ∷ l) (suc i) x h e k =
    let r = filled_set l i x (omega arith) e k in
    by_test (not (eqb y 0)) (λ t. rw (t, r)) (λ t. rw (t, r))

-- equal numbers, equal values
named_not_0 : (f : List ℕ) (n p : ℕ) (v : Value) → Names f n p v → at (keyed f n) p ≡ 0 → ⊥
named_not_0 f n p v by e = key_not_0 v (sym by.is ∙ e)

same_values : (f : List ℕ) (n p q : ℕ) (v w : Value) → Names f n p v → Names f n q w → eqb (at (numbered f n) p) (at (numbered f n) q) ≡ eqv v w
same_values f n p q v w a b =
    same_numbered f n p q a.here b.here (named_not_0 f n p v a) (named_not_0 f n q w b)
    ∙ ap₂ (λ (x y : ℕ). eqb x y) a.is b.is
    ∙ sym (eqv_keys (key_of v) (key_of w) (key_not_0 v) (key_not_0 w))
    ∙ ap₂ eqv (decode v.reg v.ver a.small) (decode w.reg w.ver b.small)

pub record Tied (f : List ℕ) (n : ℕ) (S : State) (C : Coding) : Type 0 where
  pub names : S.names ≡ table f n C.names
  pub seen : S.seen ≡ table f n C.seen
  pub next : S.next ≡ C.next
  pub few : S.next ≤ suc (filled S.names)

module _ (f : List ℕ) (n : ℕ) (room : length (keyed f n) < 2147483648) (root : Value → Value) (places : Value → ℕ) (away : Value → Bool)
    (is_away : (v : Value) → away v ≡ not (eqb (places v) 0)) (rooted : (p : ℕ) (v : Value) → Names f n p v → (q : ℕ) × Names f n q (root v)) where
  abbrev told : Known
  told = known (numbered f n) (table f n (λ v. number_of (keyed f n) (key_of (root v)))) (table f n places)

  -- ---- a value that has no name yet
  module _ (S : State) (C : Coding) (T : Tied f n S C) (p q : ℕ) (v : Value) (by : Names f n p v) (to : Names f n q (root v)) (new : C.names v ≡ 0) where
    abbrev N : ℕ
    N = at (numbered f n) p

    abbrev R : ℕ
    R = at (numbered f n) q

    is_new : at S.names N ≡ 0
    is_new = ap (λ (l : List ℕ). at l N) T.names ∙ table_read f n C.names p v by ∙ new

    inside : N < length S.names
    inside = omega (arith, numbered_below f n p by.here, ap length T.names, table_length f n C.names)

    seen_is : at S.seen R ≡ C.seen (root v)
    seen_is = ap (λ (l : List ℕ). at l R) T.seen ∙ table_read f n C.seen q (root v) to

    write_name : (x : ℕ) → set S.names N x ≡ table f n (coded v x C.names)
    write_name x = ap (λ (l : List ℕ). set l N x) T.names ∙ coded_write f n p v by C.names x

    write_seen : (x : ℕ) → set S.seen R x ≡ table f n (coded (root v) x C.seen)
    write_seen x = ap (λ (l : List ℕ). set l R x) T.seen ∙ coded_write f n q (root v) to C.seen x

    one_more : (x : ℕ) → (x ≡ 0 → ⊥) → filled (set S.names N x) ≡ suc (filled S.names)
    one_more x h = filled_set S.names N x inside is_new h

    few_locals : S.next < 2147483648
    few_locals =
        let z : ◌≡◌ {A = ℕ} 1 0 → ⊥ = (λ e. omega arith) in
        omega (arith, T.few, one_more 1 z, count_length (λ (x : ℕ). not (eqb x 0)) (set S.names N 1), length-set S.names N 1, ap length T.names, table_length f n C.names)

    noted_tied : (x k : ℕ) (m : ℕ) → (x ≡ 0 → ⊥) → k ≡ m → k ≤ suc (suc (filled S.names)) → Tied f n (noted S N R x k) (coding (coded (root v) x C.seen) m (coded v x C.names))
    unfolding noted
    noted_tied x k m h e b = record { names = write_name x; seen = write_seen x; next = e; few = omega (arith, one_more x h) }

    own_is : (eqb v.ver 0 && eqb R N) ≡ (eqb v.ver 0 && eqv (root v) v)
    own_is = ap (λ (b : Bool). eqb v.ver 0 && b) (same_values f n q p (root v) v to by)

    met_tied : Tied f n (met S N R v.ver) (meet_code v (root v) C (C.seen (root v)))
    unfolding met meet_code
    met_tied =
        rw (seen_is, own_is)
        (by_test (eqb (C.seen (root v)) 0)
        (λ z. rw z
        (by_test (eqb v.ver 0 && eqv (root v) v)
        (λ o. rw o (noted_tied 1 S.next C.next (λ e. omega arith) T.next (omega (arith, T.few))))
        (λ o. rw (o, lt-ltb S.next 2147483648 few_locals) (local T.next))))
        (λ z. rw z (record {
          names = write_name (C.seen (root v));
          seen = T.seen;
          next = T.next;
          few = omega (arith, T.few, one_more (C.seen (root v)) (eqb-false (C.seen (root v)) 0 z));
        })))
      where
        local : S.next ≡ C.next → Tied f n (noted S N R (2 * S.next + 1) (S.next + 1)) (coding (coded (root v) (2 * C.next + 1) C.seen) (suc C.next) (coded v (2 * C.next + 1) C.names))
        local e = rw (← e) (noted_tied (2 * S.next + 1) (S.next + 1) (suc S.next) (λ z. omega arith) (omega arith) (omega (arith, T.few)))

  -- ---- a spot, and all of them
  spot_tied : (S : State) (C : Coding) → Tied f n S C → (x : Spot) → Names f n x.place x.of → Tied f n (named told S x) (code_key root away C x.of)
  unfolding named code_key
  spot_tied S C T x by =
      let N = at (numbered f n) x.place in
      let v = x.of in
      let to = rooted x.place v by in
      let a : at S.names N ≡ C.names v = ap (λ (l : List ℕ). at l N) T.names ∙ table_read f n C.names x.place v by in
      let b : at (table f n places) N ≡ places v = table_read f n places x.place v by in
      let c = root_number f n root x.place to.0 v by to.1 in
      rw (a, b, c, is_away v)
      (by_test (eqb v.reg RSP || not (eqb (C.names v) 0) || not (eqb (places v) 0)) (λ q. rw q T)
      (λ q. rw q (met_tied S C T x.place to.0 v by to.1 (unnamed (eqb v.reg RSP) (C.names v) (not (eqb (places v) 0)) q))))
    where
      unnamed : (r : Bool) (m : ℕ) (b : Bool) → (r || not (eqb m 0) || b) ≡ false → m ≡ 0
      unnamed r m b e = eqb-true m 0 (not-false (eqb m 0) (both_false r (not (eqb m 0)) (both_false (r || not (eqb m 0)) b e).0).1)

  pub walk_tied : (xs : List Spot) → Each (Right f n) xs → (S : State) (C : Coding) → Tied f n S C
      → Tied f n (walked told S xs) (code_keys root away C (map (λ (x : Spot). x.of) xs))
  unfolding walked code_keys
  walk_tied [] end S C T = T
  walk_tied (x ∷ xs) (by ▸ h) S C T = walk_tied xs h (named told S x) (code_key root away C x.of) (spot_tied S C T x by)
