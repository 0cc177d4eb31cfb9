-- A class's root is a value that the file names, as every value is that a phi joins: a property of the values joined is one of all roots.
use mathlib.Core.Path.{◌≡◌, sym, subst}
use mathlib.Core.Bool.{true, not, cond}
use mathlib.Core.List.{List, []}
use Prim.Native.Nat.{ℕ, ◌+◌, ◌≤◌, ◌<◌}
use native.Mathlib.Omega.{arith}
use lib.Dec.{eqb}
use lib.ListN.{get_or}
use mir.Syntax.{w8}
use mir.Val.{Fits}
use Rattle.definition.specs.Edition.{Edition, phis}
use Rattle.definition.specs.Lists.{only, gather, range}
use Rattle.definition.specs.Contents.{size, phi_word, input_at}
use Rattle.definition.specs.Owners.{phi_inputs, first_input}
use Rattle.definition.specs.Shape.{owned}
use Rattle.definition.specs.Values.{Value, value, eqv, before, lesser, greater, RSP}
use Rattle.definition.specs.Meaning.{value_at}
use Rattle.definition.specs.Ssa.{Phi, phis_of}
use Rattle.definition.specs.Read.{phi_at, read}
use Rattle.definition.specs.Classes.{Member, Pair, find, pairs, relabel, union, unions, alone, classes}
use Rattle.definition.proofs.Bools.{by_cond}
use Rattle.definition.proofs.ListLaws.{Each, end, ◌▸◌, each_map}
use Rattle.records.proofs.Ranges.{gather_only, map-map}
use Rattle.records.proofs.Parts.{phis_are}
use Rattle.places.specs.Keys.{places_of}
use Rattle.values.proofs.Tables.{Names}
use Rattle.names.proofs.Mentioned.{each_run, each_runs, phi_named_lem, input_named}

-- ---- a property of the values joined
module _ (P : Value → Type 0) where
  abbrev Roots : List Member → Type 0
  Roots t = Each (λ (m : Member). P m.root) t

  abbrev Joined : List Pair → Type 0
  Joined ps = Each (λ (p : Pair). P p.left × P p.right) ps

  find_in : {t : List Member} → Roots t → (v : Value) → P v → P (find t v)
  unfolding find
  find_in end v h = h
  find_in (◌▸◌ {x = m} p r) v h = by_cond P (eqv m.of v) (λ e. p) (λ e. find_in r v h)

  union_in : (t : List Member) → Roots t → (p : Pair) → P p.left → P p.right → Roots (union t p)
  unfolding union relabel lesser
  union_in t h p l r =
      let a = find t p.left in
      let b = find t p.right in
      each_map (relabel (greater a b) (lesser a b))
      (λ m q. by_cond P (eqv m.root (greater a b)) (λ e. by_cond P (before b a) (λ d. find_in h p.right r) (λ d. find_in h p.left l)) (λ e. q)) h

  unions_in : (t : List Member) → Roots t → {ps : List Pair} → Joined ps → Roots (unions t ps)
  unfolding unions
  unions_in t h end = h
  unions_in t h (◌▸◌ {x = p} q r) = unions_in (union t p) (union_in t h p q.0 q.1) r

  alone_in : {ps : List Pair} → Joined ps → Roots (gather alone ps)
  unfolding gather alone
  alone_in end = end
  alone_in (q ▸ r) = q.0 ▸ (q.1 ▸ alone_in r)

-- ---- the file's
module _ (f : List ℕ) (bytes : (k : ℕ) → Fits w8 (get_or f k 0)) (own : owned f ≡ true) (n : ℕ) (room : (places_of f).total ≤ n) where
  abbrev Somewhere : Value → Type 0
  Somewhere v = (q : ℕ) × Names f n q v

  pairs_in : (i : ℕ) → i < size f phis → Joined Somewhere (pairs (phi_at f i))
  unfolding pairs phi_at value_at
  pairs_in i h =
      subst (Joined Somewhere)
      (sym (map-map (λ (m : ℕ). record { left = value (phi_word f i 0) (phi_word f i 1); right = value (phi_word f i 0) m }) (input_at f) (range (first_input f i) (phi_inputs f i))))
      (each_run (λ (p : Pair). Somewhere p.left × Somewhere p.right) (λ (k : ℕ). record { left = value (phi_word f i 0) (phi_word f i 1); right = value (phi_word f i 0) (input_at f k) }) (first_input f i) (phi_inputs f i)
      (λ j k. (((places_of f).phis + i, phi_named_lem f bytes own n room i h), ((places_of f).inputs + (first_input f i + j), input_named f bytes own n room i j h k))))

  all_pairs : (E : Edition) → Joined Somewhere (gather pairs (only (λ (p : Phi). not (eqb p.var RSP)) (phis_of (read E f))))
  all_pairs E =
      rw (phis_are f own E, gather_only pairs (λ (p : Phi). not (eqb p.var RSP)) (phi_at f) (range 0 (size f phis)))
      (each_runs (λ (p : Pair). Somewhere p.left × Somewhere p.right) (λ (i : ℕ). cond (not (eqb (phi_at f i).var RSP)) (pairs (phi_at f i)) []) 0 (size f phis)
      (λ i h. by_cond (Joined Somewhere) (not (eqb (phi_at f i).var RSP)) (λ e. pairs_in i (omega arith)) (λ e. end)))

  pub rooted : (E : Edition) (p : ℕ) (v : Value) → Names f n p v → (q : ℕ) × Names f n q (find (classes (read E f)) v)
  unfolding classes
  rooted E p v by =
      let ps = all_pairs E in
      find_in Somewhere (unions_in Somewhere (gather alone (gather pairs (only (λ (p : Phi). not (eqb p.var RSP)) (phis_of (read E f))))) (alone_in Somewhere ps) ps) v (p, by)
