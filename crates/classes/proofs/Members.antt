-- The definition's classes as a list of members: a union changes the root of no value but those whose root gives way, since every root is a member.
use mathlib.Core.Path.{◌≡◌, refl, sym, ap, ◌∙◌}
use mathlib.Core.Bool.{Bool, true, false, cond, ◌||◌, true≢false, false≢true}
use mathlib.Core.List.{List, [], ◌∷◌, ◌++◌, map}
use Rattle.definition.specs.Lists.{any, gather}
use Rattle.definition.specs.Values.{Value, eqv, before, lesser, greater}
use Rattle.definition.specs.Classes.{Member, Pair, find, relabel, union, unions, alone}
use Rattle.definition.proofs.Bools.{by_test, by_cond, or_right, is_false}
use Rattle.definition.proofs.ListLaws.{Each, end, ◌▸◌, each_to, each_map}
use Rattle.definition.proofs.Runs.{run_append}
use Rattle.definition.proofs.Equal.{eqv_true, eqv_refl}

-- is the value a member
unfoldable pub has : List Member → Value → Bool
has t v = any (λ x. eqv x.of v) t

-- what holds of every root holds of a member's
pub find_root : (Q : Value → Type 0) (t : List Member) (v : Value) → Each (λ x. Q x.root) t → has t v ≡ true → Q (find t v)
unfolding has any find
find_root Q [] v end e = absurd (false≢true e)
find_root Q (x ∷ t) v (q ▸ h) e =
    let f = find_root Q t v h in
    by_test (eqv x.of v) (λ y. rw y q) (λ n. let k : (eqv x.of v || any (λ x. eqv x.of v) t) ≡ true = e in rw n (f (rw n at k)))

-- ---- a root that gives way to another
module _ (from to : Value) where
  has_relabel : (t : List Member) (v : Value) → has (map (relabel from to) t) v ≡ has t v
  unfolding has any relabel
  has_relabel [] v = refl
  has_relabel (x ∷ t) v = ap (λ (b : Bool). eqv x.of v || b) (has_relabel t v)

  find_relabel : (t : List Member) (v : Value) → (has t v ≡ false → eqv v from ≡ false)
      → find (map (relabel from to) t) v ≡ cond (eqv (find t v) from) to (find t v)
  unfolding has any relabel find
  find_relabel [] v h = rw (h refl)
  find_relabel (x ∷ t) v h =
      let r = find_relabel t v in
      by_test (eqv x.of v) (λ y. rw y) (λ n. rw n (r (λ e. h (rw n e))))

-- ---- every root is a member, and so are the values of the pairs that are still to be joined
abbrev pub Here : List Member → Pair → Type 0
Here t p = (has t p.left ≡ true) × (has t p.right ≡ true)

pub record Ready (t : List Member) (ps : List Pair) : Type 0 where
  pub rooted : Each (λ x. has t x.root ≡ true) t
  pub there : Each (Here t) ps

-- each value alone
has_more : (x : Member) (t : List Member) (v : Value) → has t v ≡ true → has (x ∷ t) v ≡ true
unfolding has any
has_more x t v h = or_right (eqv x.of v) (any (λ x. eqv x.of v) t) h

has_own : (x : Member) (t : List Member) → has (x ∷ t) x.of ≡ true
unfolding has any
has_own x t = rw (eqv_refl x.of)

each_alone : (P : Member → Type 0) {ps : List Pair}
    → Each (λ p. P (record { of = p.left; root = p.left }) × P (record { of = p.right; root = p.right })) ps → Each P (gather alone ps)
unfolding gather alone
each_alone P end = end
each_alone P ((a, b) ▸ h) = a ▸ b ▸ each_alone P h

alone_here : (ps : List Pair) → Each (Here (gather alone ps)) ps
unfolding gather alone
alone_here [] = end
alone_here (p ∷ ps) =
    let a : Member = record { of = p.left; root = p.left } in
    let b : Member = record { of = p.right; root = p.right } in
    let t = gather alone ps in
    (has_own a (b ∷ t), has_more a (b ∷ t) p.right (has_own b t))
    ▸ each_to (λ q h. (has_more a (b ∷ t) q.left (has_more b t q.left h.0), has_more a (b ∷ t) q.right (has_more b t q.right h.1))) (alone_here ps)

pub alone_ready : (ps : List Pair) → Ready (gather alone ps) ps
alone_ready ps = record { rooted = each_alone (λ x. has (gather alone ps) x.root ≡ true) (alone_here ps); there = alone_here ps }

pub find_alone : (ps : List Pair) (v : Value) → find (gather alone ps) v ≡ v
unfolding find gather alone
find_alone [] v = refl
find_alone (p ∷ ps) v =
    let r = find_alone ps v in
    by_test (eqv p.left v) (λ e. rw e (eqv_true p.left v e))
    (λ n. rw n (by_test (eqv p.right v) (λ e. rw e (eqv_true p.right v e)) (λ k. rw k r)))

-- what holds of both of two values holds of the lesser and of the greater
pub of_both : (Q : Value → Type 0) (a b : Value) → Q a → Q b → Q (lesser a b) × Q (greater a b)
unfolding lesser greater
of_both Q a b p q = (by_cond Q (before b a) (λ h. q) (λ h. p), by_cond Q (before b a) (λ h. p) (λ h. q))

-- the next pair joined
module _ (t : List Member) (p : Pair) where
  -- the roots of its two values
  abbrev pub root_left : Value
  root_left = find t p.left

  abbrev pub root_right : Value
  root_right = find t p.right

  module _ (ready : Each (λ x. has t x.root ≡ true) t) (here : Here t p) where
    root_in : (v : Value) → has t v ≡ true → has t (find t v) ≡ true
    root_in v = find_root (λ v. has t v ≡ true) t v ready

    both_in : (has t (lesser root_left root_right) ≡ true) × (has t (greater root_left root_right) ≡ true)
    both_in = of_both (λ v. has t v ≡ true) root_left root_right (root_in p.left here.0) (root_in p.right here.1)

    pub find_union : (v : Value) → find (union t p) v ≡ cond (eqv (find t v) (greater root_left root_right)) (lesser root_left root_right) (find t v)
    unfolding union
    find_union v =
        find_relabel (greater root_left root_right) (lesser root_left root_right) t v
        (λ e. is_false (eqv v (greater root_left root_right))
        (λ y. true≢false (sym both_in.1 ∙ sym (ap (has t) (eqv_true v (greater root_left root_right) y)) ∙ e)))

    union_rooted : Each (λ x. has (union t p) x.root ≡ true) (union t p)
    unfolding union relabel
    union_rooted =
        let from = greater root_left root_right in
        let to = lesser root_left root_right in
        each_map (relabel from to)
        (λ x h. has_relabel from to t (cond (eqv x.root from) to x.root)
        ∙ by_cond (λ v. has t v ≡ true) (eqv x.root from) (λ e. both_in.0) (λ e. h)) ready

  pub union_has : (v : Value) → has (union t p) v ≡ has t v
  unfolding union
  union_has v = has_relabel (greater root_left root_right) (lesser root_left root_right) t v

  pub union_ready : (ps : List Pair) → Ready t (p ∷ ps) → Ready (union t p) ps
  union_ready ps g = go g.there
    where
      go : Each (Here t) (p ∷ ps) → Ready (union t p) ps
      go (h ▸ hs) = record {
        rooted = union_rooted g.rooted h;
        there = each_to (λ q k. (union_has q.left ∙ k.0, union_has q.right ∙ k.1)) hs;
      }

pub unions_append : (t : List Member) (ps qs : List Pair) → unions t (ps ++ qs) ≡ unions (unions t ps) qs
unfolding unions
unions_append = run_append unions union (λ t. refl) (λ t p ps. refl)
