-- What the definition's classes are, each by one induction over the pairs that the phis make: a union gives a value another root only where its root is
-- the greater of the two, so that what holds of a value and the greater root need only be shown of the lesser.
use mathlib.Core.Path.{◌≡◌, refl, sym, ◌∙◌}
use mathlib.Core.Bool.{Bool, true, false, not, cond, ◌&&◌}
use mathlib.Core.Logic.{◌⊎◌, inl, inr}
use mathlib.Core.List.{List, [], ◌∷◌, map}
use Prim.Native.Nat.{ℕ, ◌≤◌, ◌<◌}
use native.Mathlib.Decide.{ℕ_discrete}
use native.Mathlib.Omega.{arith}
use lib.Dec.{eqb, ltb}
use borrow.Author.Tests.{eqb-true, eqb-false, eq-eqb, ne_eqb, ltb-true, ltb-false, le-ltb}
use Rattle.definition.specs.Lists.{only, gather}
use Rattle.definition.specs.Values.{Value, value, eqv, before, lesser, greater, RSP}
use Rattle.definition.specs.Ssa.{Phi, Function, phis_of}
use Rattle.definition.specs.Classes.{Member, Pair, find, pairs, union, unions, alone, classes}
use Rattle.definition.proofs.Bools.{by_test, by_cond, both_true, both_false, or_cases}
use Rattle.definition.proofs.ListLaws.{Each, end, ◌▸◌, each_append, each_head}
use Rattle.definition.proofs.Equal.{eqv_true, eqv_refl}
use Rattle.classes.proofs.Members.{has, Here, Ready, root_left, root_right, find_union, find_alone, alone_ready, of_both, union_ready}

-- ---- the order of values
-- w is v, or before it
abbrev Behind : Value → Value → Type 0
Behind v w = (w.reg < v.reg) ⊎ ((w.reg ≡ v.reg) × (w.ver ≤ v.ver))

behind : (v w : Value) → before v w ≡ false → Behind v w
unfolding before
behind v w e =
    let b = both_false (ltb v.reg w.reg) (eqb v.reg w.reg && ltb v.ver w.ver) e in
    let le : w.reg ≤ v.reg = ltb-false v.reg w.reg b.0 in
    go le b.1 (ℕ_discrete v.reg w.reg)
  where
    go : w.reg ≤ v.reg → (eqb v.reg w.reg && ltb v.ver w.ver) ≡ false → Dec (v.reg ≡ w.reg) → Behind v w
    go le k (yes q) = inr (sym q, ltb-false v.ver w.ver (rw (eq-eqb v.reg w.reg q) at k))
    go le k (no n) = inl (omega arith)

not_before : (v w : Value) → Behind v w → before v w ≡ false
unfolding before
not_before v w (inl h) =
    let le : w.reg ≤ v.reg = omega arith in
    rw (le-ltb v.reg w.reg le, ne_eqb v.reg w.reg (λ e. omega arith))
not_before v w (inr (q, h)) =
    let le : w.reg ≤ v.reg = omega arith in
    rw (le-ltb v.reg w.reg le, eq-eqb v.reg w.reg (sym q), le-ltb v.ver w.ver h)

not_before_trans : (u v w : Value) → before u v ≡ false → before v w ≡ false → before u w ≡ false
not_before_trans u v w h k = not_before u w (go (behind u v h) (behind v w k))
  where
    go : Behind u v → Behind v w → Behind u w
    go (inl a) (inl b) = inl (omega arith)
    go (inl a) (inr b) = inl (omega (arith, b.0))
    go (inr a) (inl b) = inl (omega (arith, a.0))
    go (inr a) (inr b) = inr (b.0 ∙ a.0, omega (arith, a.1, b.1))

not_both : (v w : Value) → before v w ≡ true → before w v ≡ false
unfolding before
not_both v w e =
    not_before w v
    (or_cases (ltb v.reg w.reg) (eqb v.reg w.reg && ltb v.ver w.ver)
    (λ h. inl (ltb-true v.reg w.reg h))
    (λ h. let b = both_true (eqb v.reg w.reg) (ltb v.ver w.ver) h in
    let l : v.ver < w.ver = ltb-true v.ver w.ver b.1 in
    inr (eqb-true v.reg w.reg b.0, omega arith)) e)

greater_lesser : (a b : Value) → before (greater a b) (lesser a b) ≡ false
unfolding greater lesser
greater_lesser a b = by_test (before b a) (λ h. rw h (not_both b a h)) (λ h. rw h h)

-- ---- one induction
-- of the two roots of a pair the one that gives way, and the one that stays
abbrev top : List Member → Pair → Value
top t p = greater (root_left t p) (root_right t p)

abbrev low : List Member → Pair → Value
low t p = lesser (root_left t p) (root_right t p)

-- R of each value and its root
module _ (R : Value → Value → Type 0) (P : Pair → Type 0)
    (gives : (t : List Member) (p : Pair) → P p → ((v : Value) → R v (find t v)) → (v : Value) → R v (top t p) → R v (low t p)) where
  union_by : (t : List Member) (p : Pair) → Each (λ x. has t x.root ≡ true) t → Here t p → P p → ((v : Value) → R v (find t v)) → (v : Value) → R v (find (union t p) v)
  union_by t p ready here is h v =
      rw (find_union t p ready here v)
      (by_cond (R v) (eqv (find t v) (top t p))
      (λ e. gives t p is h v (rw (eqv_true (find t v) (top t p) e) at (h v))) (λ e. h v))

  unions_by : (ps : List Pair) (t : List Member) → Ready t ps → Each P ps → ((v : Value) → R v (find t v)) → (v : Value) → R v (find (unions t ps) v)
  unfolding unions
  unions_by [] t ready is h = h
  unions_by (p ∷ ps) t ready (i ▸ is) h =
      unions_by ps (union t p) (union_ready t p ps ready) is (union_by t p ready.rooted (each_head ready.there) i h)

  classes_by : ((v : Value) → R v v) → (ps : List Pair) → Each P ps → (v : Value) → R v (find (unions (gather alone ps) ps) v)
  classes_by self ps is = unions_by ps (gather alone ps) (alone_ready ps) is (λ v. rw (find_alone ps v) (self v))

-- ---- values that have one root keep one
same_both : (b : Bool) (v : Value) → cond b v v ≡ v
same_both true v = refl
same_both false v = refl

-- those of a pair have, once it is joined
joined_now : (t : List Member) (p : Pair) → Each (λ x. has t x.root ≡ true) t → Here t p → find (union t p) p.left ≡ find (union t p) p.right
unfolding greater lesser
joined_now t p ready here =
    let a = root_left t p in
    let b = root_right t p in
    rw (find_union t p ready here p.left, find_union t p ready here p.right)
    (by_test (before b a) (λ h. rw (h, eqv_refl a) (sym (same_both (eqv b a) b))) (λ h. rw (h, eqv_refl b) (same_both (eqv a b) a)))

joined_on : (ps : List Pair) (t : List Member) (v w : Value) → Ready t ps → find t v ≡ find t w → find (unions t ps) v ≡ find (unions t ps) w
unfolding unions
joined_on [] t v w ready e = e
joined_on (p ∷ ps) t v w ready e =
    joined_on ps (union t p) v w (union_ready t p ps ready)
    (rw (find_union t p ready.rooted (each_head ready.there) v, find_union t p ready.rooted (each_head ready.there) w, e))

joined_all : (ps : List Pair) (t : List Member) → Ready t ps → Each (λ p. find (unions t ps) p.left ≡ find (unions t ps) p.right) ps
unfolding unions
joined_all [] t ready = end
joined_all (p ∷ ps) t ready =
    let next = union_ready t p ps ready in
    joined_on ps (union t p) p.left p.right next (joined_now t p ready.rooted (each_head ready.there)) ▸ joined_all ps (union t p) next

-- ---- the pairs that the phis of a function make
unfoldable pub pairs_of : Function → List Pair
pairs_of F = gather pairs (only (λ p. not (eqb p.var RSP)) (phis_of F))

-- both of one register, which is not RSP
abbrev Joins : Pair → Type 0
Joins p = (p.left.reg ≡ p.right.reg) × (p.left.reg ≡ RSP → ⊥)

pairs_join : (p : Phi) → eqb p.var RSP ≡ false → Each Joins (pairs p)
unfolding pairs
pairs_join p e = go p.inputs
  where
    go : (ns : List ℕ) → Each Joins (map (λ n. record { left = value p.var p.ver; right = value p.var n }) ns)
    go [] = end
    go (n ∷ ns) = (refl, eqb-false p.var RSP e) ▸ go ns

all_join : (ps : List Phi) → Each Joins (gather pairs (only (λ p. not (eqb p.var RSP)) ps))
unfolding gather only
all_join [] = end
all_join (p ∷ ps) =
    let r = all_join ps in
    by_test (eqb p.var RSP) (λ e. rw e r) (λ e. rw e (each_append (pairs_join p e) r))

module _ (F : Function) where
  of_classes : (R : Value → Value → Type 0) → ((v : Value) → R v (find (unions (gather alone (pairs_of F)) (pairs_of F)) v)) → (v : Value) → R v (find (classes F) v)
  unfolding classes pairs_of
  of_classes R h = h

  joining : Each Joins (pairs_of F)
  unfolding pairs_of
  joining = all_join (phis_of F)

  -- ---- the theorems
  -- no value of a class is before its root
  pub root_first : (v : Value) → before v (find (classes F) v) ≡ false
  root_first =
      of_classes (λ v r. before v r ≡ false)
      (classes_by (λ v r. before v r ≡ false) Joins (λ t p i h v k. not_before_trans v (top t p) (low t p) k (greater_lesser (root_left t p) (root_right t p)))
      (λ v. not_both_self v) (pairs_of F) joining)
    where
      not_both_self : (v : Value) → before v v ≡ false
      not_both_self v = not_before v v (inr (refl, omega arith))

  pub root_least : (v w : Value) → find (classes F) v ≡ find (classes F) w → before w (find (classes F) v) ≡ false
  root_least v w e = rw e (root_first w)

  -- a class stays inside one register, and RSP's values are alone
  abbrev Kin : Value → Value → Type 0
  Kin v r = (r.reg ≡ v.reg) × (v.reg ≡ RSP → r ≡ v)

  kin : (v : Value) → Kin v (find (classes F) v)
  kin =
      of_classes Kin
      (classes_by Kin Joins
      (λ t p i h v k.
      let same : (root_right t p).reg ≡ (root_left t p).reg = (h p.right).0 ∙ sym i.0 ∙ sym (h p.left).0 in
      let both = of_both (λ w. w.reg ≡ (root_left t p).reg) (root_left t p) (root_right t p) refl same in
      (both.0 ∙ sym both.1 ∙ k.0, (λ e. absurd (i.1 (sym (h p.left).0 ∙ sym both.1 ∙ k.0 ∙ e)))))
      (λ v. (refl, (λ e. refl))) (pairs_of F) joining)

  pub root_register : (v : Value) → (find (classes F) v).reg ≡ v.reg
  root_register v = (kin v).0

  pub root_rsp : (v : Value) → v.reg ≡ RSP → find (classes F) v ≡ v
  root_rsp v = (kin v).1

  -- whatever equivalence joins every phi with its inputs joins a value with its root
  module _ (R : Value → Value → Type 0) (self : (v : Value) → R v v) (turned : (v w : Value) → R v w → R w v)
      (through : (u v w : Value) → R u v → R v w → R u w) where
    pub root_joined : Each (λ p. R p.left p.right) (pairs_of F) → (v : Value) → R v (find (classes F) v)
    root_joined joined =
        of_classes R
        (classes_by R (λ p. R p.left p.right)
        (λ t p i h v k.
        let a = root_left t p in
        let b = root_right t p in
        let ab : R a b = through a p.left b (turned p.left a (h p.left)) (through p.left p.right b i (h p.right)) in
        let both = of_both (R a) a b (self a) ab in
        through v (top t p) (low t p) k (through (top t p) a (low t p) (turned a (top t p) both.1) both.0))
        self (pairs_of F) joined)

  -- every phi has the root of its inputs
  pub phis_joined : Each (λ p. find (classes F) p.left ≡ find (classes F) p.right) (pairs_of F)
  unfolding classes pairs_of
  phis_joined = joined_all (pairs_of F) (gather alone (pairs_of F)) (alone_ready (pairs_of F))

  -- a root is its own
  pub root_root : (v : Value) → find (classes F) (find (classes F) v) ≡ find (classes F) v
  root_root v = sym (root_joined (λ v w. find (classes F) v ≡ find (classes F) w) (λ v. refl) (λ v w e. sym e) (λ u v w d e. d ∙ e) phis_joined v)
