-- Where the gotos of a lowered function aim, under the premises of demand 3: each live conditional branch has a destination, and no supplied name spells
-- one of the function's own labels. Every edge and target that is printed is among the jumps, so a goto to a block's label finds that label, once.
use mathlib.Core.Path.{◌≡◌, refl, sym, ap, subst, ◌∙◌}
use mathlib.Core.Bool.{Bool, true, false, not, cond, ◌||◌, true≢false, false≢true}
use mathlib.Core.Option.{Option, none, some, some-injective}
use mathlib.Core.List.{List, [], ◌∷◌, ◌++◌}
use Prim.Native.Nat.{ℕ, ◌<◌}
use lib.Dec.{eqb}
use borrow.Author.Tests.{eqb-true, eq-eqb, not-true}
use Rattle.definition.specs.Texts.{txt, same, begins}
use Rattle.definition.specs.Lists.{all, any, count, among, distinct, gather, or_else, given, has}
use Rattle.definition.specs.Ssa.{Kind, Stmt, Block, Function}
use Rattle.definition.specs.Ssa.Kind.{Assign, Store, Call, Branch, Flags, Return, Other}
use Rattle.definition.specs.Offsets.{Known, whole}
use Rattle.definition.specs.Numbers.{hex_upper, label, outward}
use Rattle.definition.specs.Lookup.{name_for, order, next_of, is_next, option_list, target_of, unless_next, jumps_from}
use Rattle.definition.specs.Tokens.{Line, line}
use Rattle.definition.specs.Lower.{Here}
use Rattle.definition.specs.Blocks.{lower}
use Rattle.definition.specs.Sorts.{sort}
use Rattle.definition.specs.Passes.{aim_name, is, aims, aimed, named}
use Rattle.definition.proofs.Bools.{none_some, both_true, or_cases, or_right, or_left}
use Rattle.definition.proofs.TextLaws.{same_eq, same_refl}
use Rattle.definition.proofs.ListLaws.{Each, end, ◌▸◌, all_each}
use Rattle.definition.proofs.TokenSorts.{label_line_lem, if_sort}
use Rattle.definition.proofs.LoweredLines.{conditional, jump, simple, GoesTo}
use Rattle.definition.proofs.LoweredNames.{supplied, by_global, by_target, by_prefix}
use Rattle.definition.proofs.LoweredShapes.{LineShape, labelled, stated, Leads, here_at, lower_shaped}
use Rattle.definition.proofs.LoweredLabels.{label_injective, label_stands}

-- ---- the premises
-- a conditional branch has its block's taken edge or a target of its own; a target of 0 is one
unfoldable pub has_destination : Block → Kind → Bool
has_destination b (Assign v x) = true
has_destination b (Store n a x) = true
has_destination b (Call t xs r c) = true
has_destination b (Branch none t us) = true
has_destination b (Branch (some cc) t us) = has (or_else b.taken t)
has_destination b (Flags t a x) = true
has_destination b (Return x) = true
has_destination b (Other t us ds) = true

-- every live one does
unfoldable pub destined : Function → Bool
destined F = all (λ b. all (λ s. s.dead || has_destination b s.kind) b.stmts) F.blocks

-- no supplied name is the label of a block's start
unfoldable pub unspelled : Function → Bool
unspelled F = all (λ n. all (λ a. not (same n.text (label a))) (order F)) F.names

-- ---- what is printed as a destination is among the jumps
among_left : (a : ℕ) (xs ys : List ℕ) → among a xs ≡ true → among a (xs ++ ys) ≡ true
unfolding among any
among_left a [] ys e = absurd (false≢true e)
among_left a (x ∷ xs) ys e =
    let i = among_left a xs ys in
    or_cases (eqb a x) (among a xs) (or_left (eqb a x) (among a (xs ++ ys))) (λ z. or_right (eqb a x) (among a (xs ++ ys)) (i z)) e

among_right : (a : ℕ) (xs ys : List ℕ) → among a ys ≡ true → among a (xs ++ ys) ≡ true
unfolding among any
among_right a [] ys e = e
among_right a (x ∷ xs) ys e = or_right (eqb a x) (among a (xs ++ ys)) (among_right a xs ys e)

among_one : (a : ℕ) → among a (a ∷ []) ≡ true
unfolding among any
among_one a = or_left (eqb a a) false (eq-eqb a a refl)

among_each : {Q : ℕ → Type 0} {xs : List ℕ} → Each Q xs → (a : ℕ) → among a xs ≡ true → Q a
unfolding among any
among_each end a e = absurd (false≢true e)
among_each {Q} (◌▸◌ {x = x} {xs = xs} q h) a e = or_cases (eqb a x) (among a xs) (λ b. subst Q (sym (eqb-true a x b)) q) (among_each h a) e

-- the edge that an option says
edge_in : (a : ℕ) (o : Option ℕ) → o ≡ some a → among a (option_list o) ≡ true
unfolding option_list
edge_in a o e = subst (λ (z : Option ℕ). among a (option_list z) ≡ true) (sym e) (among_one a)

fall_in : (n : Option ℕ) (a : ℕ) (o : Option ℕ) → o ≡ some a → is_next n a ≡ false → among a (unless_next n o) ≡ true
unfolding unless_next
fall_in n a o e q =
    subst (λ (z : Option ℕ). among a (unless_next n z) ≡ true) (sym e) (subst (λ (b : Bool). among a (cond b [] (a ∷ [])) ≡ true) (sym q) (among_one a))

-- what both options' numbers have, the first that there is has
or_else_lem : (C : ℕ → Type 0) (o p : Option ℕ) → ((a : ℕ) → o ≡ some a → C a) → ((a : ℕ) → p ≡ some a → C a) → (a : ℕ) → or_else o p ≡ some a → C a
unfolding or_else
or_else_lem C none p h k = k
or_else_lem C (some b) p h k = h

given_has : (C : ℕ → Type 0) (o : Option ℕ) → ((a : ℕ) → o ≡ some a → C a) → has o ≡ true → C (given 0 o)
unfolding has given
given_has C none h e = absurd (false≢true e)
given_has C (some a) h e = h a refl

module _ (J : List ℕ) where
  abbrev In : ℕ → Type 0
  In a = among a J ≡ true

  module _ (H : Here) (taken : (a : ℕ) → H.block.taken ≡ some a → In a) where
    goes_in : (k : Kind) → ((a : ℕ) → among a (target_of k) ≡ true → In a) → has_destination H.block k ≡ true → GoesTo In H k
    unfolding has_destination target_of
    goes_in (Assign v x) t h = tt
    goes_in (Store n a x) t h = tt
    goes_in (Call n xs r c) t h = tt
    goes_in (Branch none o us) t h = or_else_lem In o H.block.taken (λ a e. t a (edge_in a o e)) taken
    goes_in (Branch (some cc) o us) t h =
        given_has In (or_else H.block.taken o) (or_else_lem In H.block.taken o taken (λ a e. t a (edge_in a o e))) h
    goes_in (Flags n a b) t h = tt
    goes_in (Return x) t h = tt
    goes_in (Other n us ds) t h = tt

    stmts_in : (ss : List Stmt) → ((a : ℕ) → among a (gather (λ s. target_of s.kind) ss) ≡ true → In a)
        → all (λ s. s.dead || has_destination H.block s.kind) ss ≡ true → Each (λ s. s.dead ≡ false → GoesTo In H s.kind) ss
    unfolding gather all
    stmts_in [] t h = end
    stmts_in (s ∷ ss) t h =
        let b = both_true (s.dead || has_destination H.block s.kind) (all (λ s. s.dead || has_destination H.block s.kind) ss) h in
        (λ (d : s.dead ≡ false). goes_in s.kind (λ a e. t a (among_left a (target_of s.kind) (gather (λ s. target_of s.kind) ss) e)) (rw d at b.0))
        ▸ stmts_in ss (λ a e. t a (among_right a (target_of s.kind) (gather (λ s. target_of s.kind) ss) e)) b.1

  leads_in : (bs : List Block) → ((a : ℕ) → among a (jumps_from bs) ≡ true → In a)
      → all (λ b. all (λ s. s.dead || has_destination b s.kind) b.stmts) bs ≡ true → Leads In bs
  unfolding jumps_from all
  leads_in [] j h = tt
  leads_in (b ∷ bs) j h =
      let q = both_true (all (λ s. s.dead || has_destination b s.kind) b.stmts) (all (λ b. all (λ s. s.dead || has_destination b s.kind) b.stmts) bs) h in
      let ts = option_list b.taken in
      let fs = unless_next (next_of bs) b.fall in
      let gs = gather (λ s. target_of s.kind) b.stmts in
      let taken : (a : ℕ) → b.taken ≡ some a → In a =
      λ a e. j a (among_left a (ts ++ fs ++ gs) (jumps_from bs) (among_left a (ts ++ fs) gs (among_left a ts fs (edge_in a b.taken e)))) in
      let fall : (a : ℕ) → b.fall ≡ some a → is_next (next_of bs) a ≡ false → In a =
      λ a e n. j a (among_left a (ts ++ fs ++ gs) (jumps_from bs) (among_left a (ts ++ fs) gs (among_right a ts fs (fall_in (next_of bs) a b.fall e n)))) in (
        record {
          fall = fall;
          stmts = stmts_in (here_at b bs) taken b.stmts (λ a e. j a (among_left a (ts ++ fs ++ gs) (jumps_from bs) (among_right a (ts ++ fs) gs e))) q.0;
          close = or_else_lem (λ a. is_next (next_of bs) a ≡ false → In a) b.fall b.taken fall (λ a e n. taken a e);
        },
        leads_in bs (λ a e. j a (among_right a (ts ++ fs ++ gs) (jumps_from bs) e)) q.1,
      )

-- ---- where a goto aims
-- the label of a start that is among the jumps; a text that is no label's: an address, a name, `byte_` and the like; or a supplied name
pub data Aim (F : Function) : List ℕ → Type 0 where
  own : (a : ℕ) → among a (order F) ≡ true → among a (jumps_from F.blocks) ≡ true → Aim F (label a)
  away : (s : List ℕ) → begins (txt "loc_") s ≡ false → Aim F s
  called : (a : ℕ) (s : List ℕ) → name_for F.names a ≡ some s → Aim F s

pub aims_of : (F : Function) (t : List Known) → destined F ≡ true → Each (LineShape (Aim F)) (lower F t)
unfolding destined outward begins
aims_of F t d =
    lower_shaped F t
    (λ c n s. by_global (Aim F) F.names c n s (by_prefix (λ p. Aim F (p ++ hex_upper c)) n (away _ refl) (away _ refl) (away _ refl) (away _ refl) (away _ refl)) (called c))
    (λ a. among a (jumps_from F.blocks) ≡ true)
    (λ a j. by_target (Aim F) (order F) F.names a (λ o. own a o j) (away _ refl) (λ s e b. away s b))
    (leads_in (jumps_from F.blocks) F.blocks (λ a e. e) d)

-- what every aim has, a name that some line aims at has
module _ {P : List ℕ → Type 0} where
  aim_has : {x : Line} → LineShape P x → (n : List ℕ) → aim_name (sort x) ≡ some n → P n
  unfolding line aim_name
  aim_has (labelled a) n e = none_some (sym (ap aim_name (label_line_lem (label a))) ∙ e)
  aim_has (stated (conditional a C t c p)) n e = subst P (some-injective t n (sym (ap aim_name (if_sort C t c)) ∙ e)) p
  aim_has (stated (jump a ts t k p)) n e = subst P (some-injective t n (sym (ap aim_name k) ∙ e)) p
  aim_has (stated (simple a ts k)) n e = none_some (sym (ap aim_name k) ∙ e)

  aimed_has : {ls : List Line} → Each (LineShape P) ls → (n : List ℕ) → aimed n ls ≡ true → P n
  unfolding aimed any aims is
  aimed_has end n e = absurd (false≢true e)
  aimed_has (◌▸◌ {x = x} {xs = xs} h hs) n e = go (aim_name (sort x)) refl e (aimed_has hs n)
    where
      rest : (m : List ℕ) (b : Bool) → aim_name (sort x) ≡ some m → same m n ≡ b → (b || aimed n xs) ≡ true → (aimed n xs ≡ true → P n) → P n
      rest m true q s z i = subst P (same_eq m n s) (aim_has h m q)
      rest m false q s z i = i z

      go : (o : Option (List ℕ)) → aim_name (sort x) ≡ o → (is n o || aimed n xs) ≡ true → (aimed n xs ≡ true → P n) → P n
      go none q z i = i z
      go (some m) q z i = rest m (same m n) q refl z i

-- ---- demand 3: a goto to the label of a block's start finds it
module _ (F : Function) (t : List Known) (differ : distinct (order F) ≡ true) (below : Each (λ a. a < whole) (order F))
    (destination : destined F ≡ true) (unlike : unspelled F ≡ true) where
  -- a supplied name is no start's label
  unspelled_name : (s : List ℕ) (a b : ℕ) → name_for F.names b ≡ some s → among a (order F) ≡ true → s ≡ label a → ⊥
  unfolding unspelled
  unspelled_name s a b e o q =
      let h = supplied (λ s. all (λ a. not (same s (label a))) (order F) ≡ true) (all_each (λ n. all (λ a. not (same n.text (label a))) (order F)) F.names unlike) b s e in
      true≢false (sym (same_refl s) ∙ ap (same s) q ∙ not-true (same s (label a)) (among_each (all_each (λ a. not (same s (label a))) (order F) h) a o))

  aim_jumps : {s : List ℕ} → Aim F s → (a : ℕ) → among a (order F) ≡ true → s ≡ label a → among a (jumps_from F.blocks) ≡ true
  unfolding label begins
  aim_jumps (own b o j) a h e =
      subst (λ (x : ℕ). among x (jumps_from F.blocks) ≡ true) (label_injective b a (among_each below b o) (among_each below a h) e) j
  aim_jumps (away s n) a h e = absurd (true≢false (ap (begins (txt "loc_")) (sym e) ∙ n))
  aim_jumps (called b s q) a h e = absurd (unspelled_name s a b q h e)

  pub met : (a : ℕ) → among a (order F) ≡ true → aimed (label a) (lower F t) ≡ true → count (named (label a)) (lower F t) ≡ 1
  met a o e = label_stands F t differ below a o (aim_jumps (aimed_has (aims_of F t destination) (label a) e) a o refl)
