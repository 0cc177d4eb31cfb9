-- Phi by phi, the roots by number stay tied to the definition's members; what is left at the end is the table of the definition's roots.
use mathlib.Core.Path.{◌≡◌, refl, sym, ap, subst, ◌∙◌}
use mathlib.Core.Bool.{not, cond, ◌&&◌}
use mathlib.Core.List.{List, [], ◌∷◌, ◌++◌, map}
use Prim.Native.Nat.{ℕ, zero, suc, ◌+◌, ◌≤◌, ◌<◌}
use native.Mathlib.Decide.{ℕ_discrete}
use native.Mathlib.Omega.{arith}
use lib.Dec.{eqb}
use lib.ListN.{length, get_or}
use mir.Syntax.{w8}
use mir.Val.{Fits}
use borrow.Author.Tests.{eq-eqb, ne_eqb, eqb-true}
use Rattle.words.proofs.Laws.{word_small}
use Rattle.definition.specs.Edition.{Edition, phis}
use Rattle.definition.specs.Lists.{gather, range, at}
use Rattle.definition.specs.Contents.{size, phi_word, input_at, place}
use Rattle.definition.specs.Owners.{phi_inputs, first_input}
use Rattle.definition.specs.Values.{Value, value, RSP}
use Rattle.definition.specs.Read.{phi_at, read}
use Rattle.definition.specs.Classes.{Member, Pair, find, union, unions, alone, pairs, classes}
use Rattle.definition.proofs.Bools.{by_test}
use Rattle.definition.proofs.ListLaws.{each_head}
use Rattle.records.proofs.Editions.{length_range}
use Rattle.places.specs.Keys.{key_of, value_of, phi_key, input_key, places_of, keyed}
use Rattle.values.specs.Tables.{first_of, number_of, numbers_of, numbered, entry, tabled, table}
use Rattle.values.proofs.Tables.{encode, number_first}
use Rattle.values.proofs.Placed.{at_phi, at_input, phi_here, input_here}
use Rattle.classes.specs.Given.{Given}
use Rattle.unions.specs.Roots.{roots_of, join}
use Rattle.classes.specs.Joined.{join_run, join_phi, join_phis, kept, spared}
use Rattle.unions.proofs.Labels.{apart_roots, at_range, join_length, map_same}
use Rattle.classes.proofs.Members.{Ready, find_alone, alone_ready, union_ready, unions_append}
use Rattle.classes.proofs.Tied.{Number, Names, Tied, value_at, inside, names, tied_join}
use Rattle.classes.proofs.Turns.{keys_long}
use Rattle.classes.proofs.Phis.{pairs_at, pairs_from, pairs_none, pairs_next, classes_read}

-- the roots t by number and the members m say the same, and the pairs ps can be joined
record Tie (ks t : List ℕ) (m : List Member) (ps : List Pair) : Type 0 where
  long : length t ≡ length ks
  tied : Tied ks t m
  ready : Ready m ps

tie_pair : (ks t : List ℕ) (m : List Member) (p : Pair) (ps : List Pair) (a b : ℕ) → Names ks a p.left → Names ks b p.right
    → Tie ks t m (p ∷ ps) → Tie ks (join ks t a b) (union m p) ps
tie_pair ks t m p ps a b na nb h = record {
  long = join_length ks t a b ∙ h.long;
  tied = tied_join ks t m h.long h.tied p a b h.ready.rooted (each_head h.ready.there) na nb;
  ready = union_ready m p ps h.ready;
}

-- ---- a phi
-- the pairs of a phi with n inputs from k on
abbrev input_pairs : List ℕ → ℕ → ℕ → ℕ → ℕ → List Pair
input_pairs f r v k n = map (λ i. record { left = value r v; right = value r i }) (map (input_at f) (range k n))

module _ (f ks ns : List ℕ) (r v a : ℕ) (phi : Names ks a (value r v)) where
  tie_run : (n k at_k : ℕ) (t : List ℕ) (m : List Member) (ps : List Pair)
      → ((j : ℕ) → j < n → Names ks (at ns (at_k + j)) (value r (input_at f (k + j))))
      → Tie ks t m (input_pairs f r v k n ++ ps) → Tie ks (join_run ks ns t a at_k n) (unions m (input_pairs f r v k n)) ps
  unfolding join_run unions range
  tie_run zero k at_k t m ps ins h = h
  tie_run (suc n) k at_k t m ps ins h =
      let p : at_k + 0 ≡ at_k = omega arith in
      let q : k + 0 ≡ k = omega arith in
      let first : Names ks (at ns at_k) (value r (input_at f k)) = rw (p, q) at (ins 0 (omega arith)) in
      tie_run n (k + 1) (at_k + 1) (join ks t a (at ns at_k)) (union m (record { left = value r v; right = value r (input_at f k) })) ps
      (λ j g.
      let x : at_k + suc j ≡ at_k + 1 + j = omega arith in
      let y : k + suc j ≡ k + 1 + j = omega arith in
      rw (x, y) at (ins (suc j) (omega arith)))
      (tie_pair ks t m (record { left = value r v; right = value r (input_at f k) }) (input_pairs f r v (k + 1) n ++ ps) a (at ns at_k) phi first h)

module _ (f ks ns : List ℕ) (n : ℕ) (bytes : (k : ℕ) → Fits w8 (get_or f k 0)) (given : Given f ks ns n) where
  numbers_are : ns ≡ numbers_of ks
  unfolding numbered
  numbers_are = given.numbers ∙ ap numbers_of (sym given.keys)

  -- a place that names a value
  placed : (p r k : ℕ) → p < (places_of f).total → at (keyed f n) p ≡ key_of (value r k) → k < 4294967296 → Names ks (at ns p) (value r k)
  placed p r k h e small =
      let g = given.room in
      let here : p < length ks = omega (arith, (keys_long f ks ns n given)) in
      rw numbers_are (names ks p r k here (ap (λ (l : List ℕ). at l p) given.keys ∙ e) small)

  phi_names : (i : ℕ) → i < size f phis → Names ks (at ns ((places_of f).phis + i)) (value (phi_word f i 0) (phi_word f i 1))
  unfolding phi_key
  phi_names i h = placed ((places_of f).phis + i) (phi_word f i 0) (phi_word f i 1) (phi_here f i h) (at_phi f n i h) (word_small f bytes (place f 2 4 i 1))

  input_names : (i j : ℕ) → i < size f phis → j < phi_inputs f i
      → Names ks (at ns ((places_of f).inputs + first_input f i + j)) (value (phi_word f i 0) (input_at f (first_input f i + j)))
  unfolding input_key
  input_names i j h k =
      let p : (places_of f).inputs + (first_input f i + j) ≡ (places_of f).inputs + first_input f i + j = omega arith in
      subst (λ (q : ℕ). Names ks (at ns q) (value (phi_word f i 0) (input_at f (first_input f i + j)))) p
      (placed ((places_of f).inputs + (first_input f i + j)) (phi_word f i 0) (input_at f (first_input f i + j)) (input_here f given.whole i j h k) (at_input f n i j h k)
      (word_small f bytes (place f 3 1 (first_input f i + j) 0)))

  tie_phi : (i : ℕ) (t : List ℕ) (m : List Member) (ps : List Pair) → i < size f phis
      → Tie ks t m (pairs_at f i ++ ps) → Tie ks (join_phi f ks ns t i) (unions m (pairs_at f i)) ps
  unfolding join_phi pairs_at unions pairs phi_at
  tie_phi i t m ps h tie =
      by_test (eqb (phi_word f i 0) RSP)
      (λ e. rw e (rw e at tie))
      (λ e. rw e
      (tie_run f ks ns (phi_word f i 0) (phi_word f i 1) (at ns ((places_of f).phis + i)) (phi_names i h) (phi_inputs f i) (first_input f i)
      ((places_of f).inputs + first_input f i) t m ps (λ j k. input_names i j h k) (rw e at tie)))

  -- ---- all phis
  tie_phis : (k i : ℕ) (t : List ℕ) (m : List Member) → i + k ≤ size f phis
      → Tie ks t m (pairs_from f i k) → Tie ks (join_phis f ks ns t i k) (unions m (pairs_from f i k)) []
  unfolding join_phis unions
  tie_phis zero i t m h tie = rw (pairs_none f i) (rw (pairs_none f i) at tie)
  tie_phis (suc k) i t m h tie =
      rw (pairs_next f i k, unions_append m (pairs_at f i) (pairs_from f (i + 1) k))
      (tie_phis k (i + 1) (join_phi f ks ns t i) (unions m (pairs_at f i)) (omega arith)
      (tie_phi i t m (pairs_from f (i + 1) k) (omega arith) (rw (pairs_next f i k) at tie)))

  -- each value alone
  tie_alone : (ps : List Pair) → Tie ks (range 0 n) (gather alone ps) ps
  tie_alone ps = record {
    long = length_range 0 n ∙ sym (keys_long f ks ns n given);
    tied = (λ p np.
        let h : p < n = omega (arith, inside ks p np, (keys_long f ks ns n given)) in
        let s : at (range 0 n) p ≡ p = at_range n p h in
        rw (s, find_alone ps (value_at ks p)) (record { number = np; is = refl }));
    ready = alone_ready ps;
  }

  -- what the definition says of every value's number
  module _ (E : Edition) (t : List ℕ) (is : t ≡ join_phis f ks ns (range 0 n) 0 (size f phis)) where
    tie_read : Tie ks t (classes (read E f)) []
    tie_read =
        rw (is, classes_read E f given.whole)
        (tie_phis (size f phis) 0 (range 0 n) (gather alone (pairs_from f 0 (size f phis))) (omega arith) (tie_alone (pairs_from f 0 (size f phis))))

    -- the number of a value's root
    abbrev answer : Value → ℕ
    answer v = number_of ks (key_of (find (classes (read E f)) v))

    number_is : (i : ℕ) → Number ks i → at t i ≡ answer (value_at ks i)
    unfolding number_of
    number_is i ni =
        let m = tie_read.tied i ni in
        let some = m.number.named in
        rw (← m.is, encode (at ks (at t i)) some, ne_eqb (at ks (at t i)) 0 some) (sym m.number.first)

    kept_is : (i : ℕ) → i < length ks → kept ks ns (at t i) i ≡ entry ks answer i
    unfolding kept entry
    kept_is i h = go (ℕ_discrete (at ks i) 0)
      where
        go : Dec (at ks i ≡ 0) → cond (not (eqb (at ks i) 0) && eqb (at ns i) i) (at t i) 0
            ≡ cond (not (eqb (at ks i) 0) && eqb (first_of ks (at ks i)) i) (answer (value_of (at ks i))) 0
        go (yes e) = rw (eq-eqb (at ks i) 0 e)
        go (no d) =
            let e : at ns i ≡ first_of ks (at ks i) = ap (λ (l : List ℕ). at l i) numbers_are ∙ number_first ks i h d in
            rw (ne_eqb (at ks i) 0 d, e)
            (by_test (eqb (first_of ks (at ks i)) i)
            (λ y. rw y (number_is i (record { named = d; first = eqb-true (first_of ks (at ks i)) i y }))) (λ k. rw k))

  pub classes_are : (l₁ l₂ l₃ l₄ : List ℕ) → l₁ ≡ range 0 n → roots_of ks l₂ ≡ join_phis f ks ns (roots_of ks l₁) 0 (size f phis)
      → l₃ ≡ roots_of ks l₂ → l₄ ≡ spared ks ns l₃
      → (E : Edition) → l₄ ≡ table f n (λ v. number_of (keyed f n) (key_of (find (classes (read E f)) v)))
  unfolding spared table tabled
  classes_are l₁ l₂ l₃ l₄ e₁ e₂ e₃ e₄ E =
      let is : l₃ ≡ join_phis f ks ns (range 0 n) 0 (size f phis) =
      e₃ ∙ e₂ ∙ ap (λ (l : List ℕ). join_phis f ks ns l 0 (size f phis)) (ap (roots_of ks) e₁ ∙ apart_roots ks n) in
      let k : length l₃ ≡ length ks = (tie_read E l₃ is).long in
      rw (← given.keys)
      (e₄ ∙ ap (λ (j : ℕ). map (λ i. kept ks ns (at l₃ i) i) (range 0 j)) k ∙ map_same _ _ (length ks) (kept_is E l₃ is))
