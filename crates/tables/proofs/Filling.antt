-- Each way out: on a refusal the tables are emptied, on 0 the stages' records say what each holds; emptied before, they are filled all the same.
use mathlib.Core.Path.{◌≡◌, refl, sym, ap, subst, ◌∙◌}
use mathlib.Core.Bool.{Bool, true, false, not, cond}
use mathlib.Core.List.{List}
use Prim.Native.Nat.{ℕ, ◌≤◌}
use native.Mathlib.Omega.{arith}
use native.Mathlib.Decide.{ℕ_discrete}
use lib.ListN.{length, get_or, replicate}
use mir.Syntax.{w8}
use mir.Val.{Fits}
use borrow.Author.Tests.{eq-eqb, ne_eqb, not-true, not-false}
use Rattle.definition.specs.Edition.{edition1}
use Rattle.definition.specs.Read.{read, all_trees}
use Rattle.definition.specs.Offsets.{offsets, refused7}
use Rattle.definition.specs.Listing.{checked}
use Rattle.places.specs.declared.Places.{Places}
use Rattle.places.specs.Keys.{places_of}
use Rattle.file.specs.Verdicts.{verdict, Checked}
use Rattle.analyses.specs.Sound.{Sound}
use Rattle.analyses.proofs.Sound.{sound}
use Rattle.tables.specs.Tables.{Tables, tables_of, most, zeros, cleared, long}
use Rattle.tables.specs.Filled.{outside, judged, answer, given, Held, Filled}
use Rattle.tables.specs.Stages.{width, Grounded, Stacked, Unread, Counted, Called, Blank, Staged, Analysed}
use Rattle.definition.proofs.ListLaws.{zeros_long}
use Rattle.tables.proofs.Emptying.{zeros_of, again, all_clear, zeros_twice, given_twice, clear_twice, long_cleared}
use Rattle.tables.proofs.Blanks.{blank}
use Rattle.tables.proofs.Lending.{fronts, widened, lent_blank, still_blank, still_staged}

-- ---- tables
none_given : (r : ℕ) (l t : List ℕ) → (r ≡ 0 → ⊥) → zeros l ≡ given r l t
unfolding given
none_given r l t h = rw (ne_eqb r 0 h) refl

all_given : (l t : List ℕ) → t ≡ given 0 l t
unfolding given
all_given l t = refl

-- l and m have been zeros of one length
as_zeros : (l m : List ℕ) (n : ℕ) → l ≡ replicate n 0 → m ≡ replicate n 0 → m ≡ zeros l
unfolding zeros
as_zeros l m n p q = zeros_of m n (length l) (zeros_long l n p) q

pub refused_held : (f : List ℕ) (r : ℕ) (T T' : Tables) → (r ≡ 0 → ⊥) → T' ≡ cleared T → Held f r T T'
unfolding cleared
refused_held f r T T' h e = record {
  keys = ap (λ (U : Tables). U.keys) e;
  numbers = ap (λ (U : Tables). U.numbers) e ∙ none_given r T.numbers _ h;
  spare = ap (λ (U : Tables). U.spare) e;
  offs = λ E p. ap (λ (U : Tables). U.offs) e ∙ none_given r T.offs _ h;
  order = ap (λ (U : Tables). U.order) e;
  starts = ap (λ (U : Tables). U.starts) e;
  loads = ap (λ (U : Tables). U.loads) e;
  live = λ E. ap (λ (U : Tables). U.live) e ∙ none_given r T.live _ h;
  phi = λ E. ap (λ (U : Tables). U.phi) e ∙ none_given r T.phi _ h;
  roots = λ E. ap (λ (U : Tables). U.roots) e ∙ none_given r T.roots _ h;
  places = λ E. ap (λ (U : Tables). U.places) e ∙ none_given r T.places _ h;
  names = λ E. ap (λ (U : Tables). U.names) e ∙ none_given r T.names _ h;
  marks = λ E p. ap (λ (U : Tables). U.marks) e ∙ none_given r T.marks _ h;
  labels = λ E. ap (λ (U : Tables). U.labels) e ∙ none_given r T.labels _ h;
}

module _ (T T' : Tables) (b : Blank most T) where
  blank_held : (f : List ℕ) (r : ℕ) → (r ≡ 0 → ⊥) → Blank most T' → Held f r T T'
  blank_held f r h d =
      refused_held f r T T' h
      (all_clear T T'
      (same most b.unvalued.no_keys d.unvalued.no_keys, same most b.unvalued.no_numbers d.unvalued.no_numbers, same most b.unvalued.no_offs d.unvalued.no_offs)
      (same 2048 b.unread.no_order d.unread.no_order, same 1025 b.unread.no_starts d.unread.no_starts, same 2048 b.unread.no_loads d.unread.no_loads, same most b.unread.no_spare d.unread.no_spare)
      (same most b.unread.no_live d.unread.no_live, same most b.unread.no_phi d.unread.no_phi, same most b.unnamed.no_roots d.unnamed.no_roots, same most b.unnamed.no_places d.unnamed.no_places)
      (same most b.unnamed.no_names d.unnamed.no_names, same most b.unmarked.no_marks d.unmarked.no_marks, same 320 b.unmarked.no_labels d.unmarked.no_labels))
    where
      same : {l m : List ℕ} (n : ℕ) → l ≡ replicate n 0 → m ≡ replicate n 0 → m ≡ replicate (length l) 0
      same {l} {m} n p q = zeros_of m n (length l) (zeros_long l n p) q

  staged_held : (f : List ℕ) → Staged f most T' → Held f 0 T T'
  staged_held f s = record {
    keys = as_zeros T.keys T'.keys most b.unvalued.no_keys s.no_keys;
    numbers = s.numbers ∙ all_given T.numbers _;
    spare = as_zeros T.spare T'.spare most b.unread.no_spare s.counted.no_spare;
    offs = λ E p. s.stacked E p ∙ all_given T.offs _;
    order = as_zeros T.order T'.order 2048 b.unread.no_order s.counted.no_order;
    starts = as_zeros T.starts T'.starts 1025 b.unread.no_starts s.counted.no_starts;
    loads = as_zeros T.loads T'.loads 2048 b.unread.no_loads s.counted.no_loads;
    live = λ E. s.counted.times E ∙ all_given T.live _;
    phi = λ E. s.counted.flows E ∙ all_given T.phi _;
    roots = λ E. s.called.rooted E ∙ all_given T.roots _;
    places = λ E. s.called.placed E ∙ all_given T.places _;
    names = λ E. s.called.named E ∙ all_given T.names _;
    marks = λ E p. s.called.marked.really E p ∙ all_given T.marks _;
    labels = λ E. s.called.marked.labelled E ∙ all_given T.labels _;
  }

-- ---- a sound file
analysed_held : (f : List ℕ) (T U : Tables) → Blank most T → (r : ℕ) → Analysed f most r U → Held f r T U
analysed_held f T U b r a = go (ℕ_discrete r 0)
  where
    go : Dec (r ≡ 0) → Held f r T U
    go (yes q) = subst (λ (k : ℕ). Held f k T U) (sym q) (staged_held T U b f (a.passed q))
    go (no d) = blank_held T U b f r d (a.refused d)

module _ (f : List ℕ) (n : ℕ) (U : Tables) (r : Bool) (e : r ≡ refused7 (offsets (read edition1 f)) (all_trees edition1 f)) where
  pub beyond : r ≡ true → Blank n U → Analysed f n 7 U
  unfolding outside
  beyond h b = record {
    says = sym (ap (λ (x : Bool). cond x 7 0) (sym e ∙ h));
    refused = λ q. b;
    passed = λ q. absurd (omega arith);
  }

  pub inside : r ≡ false → Staged f n U → Analysed f n 0 U
  unfolding outside
  inside h s = record {
    says = sym (ap (λ (x : Bool). cond x 7 0) (sym e ∙ h));
    refused = λ q. absurd (q refl);
    passed = λ q. s;
  }

-- the tables of values emptied again, the others not yet written, or zeros already
pub wiped : (n : ℕ) (T : Tables) (ks ns os ks' ns' spare os' order : List ℕ) → Blank n T
    → length ks ≡ length T.keys → length ns ≡ length T.numbers → length os ≡ length T.offs
    → Unread n order T.starts T.loads T.live T.phi spare
    → (ks' ≡ replicate (length ks) 0) × (ns' ≡ replicate (length ns) 0) × (os' ≡ replicate (length os) 0)
    → Blank n (tables_of ks' ns' spare os' order T.starts T.loads T.live T.phi T.roots T.places T.names T.marks T.labels)
wiped n T ks ns os ks' ns' spare os' order b k p o r z =
    let u = b.unvalued in
    record {
      unvalued = record {
        no_keys = again T.keys ks ks' n u.no_keys k z.0;
        no_numbers = again T.numbers ns ns' n u.no_numbers p z.1;
        no_offs = again T.offs os os' n u.no_offs o z.2;
      };
      unread = r;
      unnamed = b.unnamed;
      unmarked = b.unmarked;
    }

-- what the stages leave together, the keys emptied at last
pub staged : (f : List ℕ) (T U : Tables) (ks : List ℕ) → Blank (width f) T → length ks ≡ length T.keys → U.keys ≡ replicate (length ks) 0
    → Grounded f U.numbers → Stacked f (width f) U.offs
    → Counted f (width f) U.order U.starts U.loads U.live U.phi U.spare
    → Called f (width f) U.roots U.places U.names U.marks U.labels → Staged f (width f) U
staged f T U ks b k ek g s d n = record {
  no_keys = again T.keys ks U.keys (width f) b.unvalued.no_keys k ek;
  numbers = g.numbers;
  stacked = s;
  counted = d;
  called = n;
}

-- ---- over the fronts
-- a table of zeros is as long as the file has places, or longer
pub front_fits : (f l : List ℕ) (p : Places) → p ≡ places_of f → Sound f → l ≡ replicate most 0 → p.total ≤ length l
front_fits f l p e S z = omega (arith, ap (λ (q : Places). q.total) e, S.few_places, zeros_long l most z)

module _ (f : List ℕ) (S : Sound f) (T : Tables) (b : Blank most T) (p : Places) (e : p ≡ places_of f) where
  pub front_lent : Blank (width f) (fronts p.total T)
  front_lent = subst (λ (q : Places). Blank (width f) (fronts q.total T)) (sym e) (lent_blank (width f) most S.few_places T b)

  pub front_back : ((j : ℕ) → Fits w8 (get_or f j 0)) → (r : ℕ) (U : Tables) → Analysed f (width f) r U → Analysed f most r (widened p.total T U)
  front_back bytes r U a =
      subst (λ (q : Places). Analysed f most r (widened q.total T U)) (sym e)
      (record {
        says = a.says;
        refused = λ h. still_blank (width f) most S.few_places T b U (a.refused h);
        passed = λ h. still_staged (width f) most S.few_places T b U f bytes S.own (omega arith) (a.passed h);
      })

-- ---- the refusals in order
-- the tables with o for the order, which the checks of the file were lent
abbrev pub ordered : Tables → List ℕ → Tables
ordered T o = tables_of T.keys T.numbers T.spare T.offs o T.starts T.loads T.live T.phi T.roots T.places T.names T.marks T.labels

module _ (f : List ℕ) (T : Tables) (z : T ≡ cleared T) (r : Bool) (e : r ≡ long T) where
  pub unlent : not r ≡ true → Filled f 1 T T
  unfolding answer
  unlent h = record {
    says = rw (sym e, not-true r h) refl;
    tables = refused_held f 1 T T (λ q. omega arith) z;
  }

  module _ (h : not r ≡ false) where
    are_lent : long T ≡ true
    are_lent = sym e ∙ not-false r h

    all_blank : Blank most T
    all_blank = blank T are_lent z

    module _ (o : List ℕ) (n v : ℕ) (d : Checked f v T.order o) (g : n ≡ v) where
      number_is : n ≡ checked edition1 f
      unfolding verdict
      number_is = g ∙ d.says ∙ rw (eq-eqb (length T.order) 2048 (zeros_long T.order 2048 all_blank.unread.no_order)) refl

      -- the checks leave zeros, as they were given
      order_back : ordered T o ≡ T
      order_back = ap (ordered T) (again T.order T.order o 2048 all_blank.unread.no_order refl d.left ∙ sym all_blank.unread.no_order)

      pub stopped : (n ≡ 0 → ⊥) → Filled f n T (ordered T o)
      unfolding answer judged
      stopped k = record {
        says = rw (are_lent, ne_eqb (checked edition1 f) 0 (λ q. k (number_is ∙ q))) number_is;
        tables = refused_held f n T (ordered T o) k (order_back ∙ z);
      }

      pub passes : n ≡ 0 → Sound f × Blank most (ordered T o)
      passes k = (sound f (sym number_is ∙ k), subst (Blank most) (sym order_back) all_blank)

      pub through : (s : ℕ) (U : Tables) → n ≡ 0 → Analysed f most s U → Filled f s T U
      unfolding answer judged
      through s U k a = record {
        says = rw (are_lent, eq-eqb (checked edition1 f) 0 (sym number_is ∙ k)) a.says;
        tables = analysed_held f T U all_blank s a;
      }

-- ---- over tables that were emptied first
held_before : (f : List ℕ) (r : ℕ) (T T' : Tables) → Held f r (cleared T) T' → Held f r T T'
unfolding cleared
held_before f r T T' h = record {
  keys = h.keys ∙ zeros_twice T.keys;
  numbers = h.numbers ∙ given_twice r T.numbers _;
  spare = h.spare ∙ zeros_twice T.spare;
  offs = λ E p. h.offs E p ∙ given_twice r T.offs _;
  order = h.order ∙ zeros_twice T.order;
  starts = h.starts ∙ zeros_twice T.starts;
  loads = h.loads ∙ zeros_twice T.loads;
  live = λ E. h.live E ∙ given_twice r T.live _;
  phi = λ E. h.phi E ∙ given_twice r T.phi _;
  roots = λ E. h.roots E ∙ given_twice r T.roots _;
  places = λ E. h.places E ∙ given_twice r T.places _;
  names = λ E. h.names E ∙ given_twice r T.names _;
  marks = λ E p. h.marks E p ∙ given_twice r T.marks _;
  labels = λ E. h.labels E ∙ given_twice r T.labels _;
}

pub refilled : (f : List ℕ) (r : ℕ) (T T₁ T₂ : Tables) → T₁ ≡ cleared T → Filled f r T₁ T₂ → Filled f r T T₂
unfolding answer
refilled f r T T₁ T₂ e d =
    let k : Filled f r (cleared T) T₂ = subst (λ (U : Tables). Filled f r U T₂) e d in
    record {
      says = k.says ∙ ap (λ (b : Bool). cond b (judged f) 1) (long_cleared T);
      tables = held_before f r T T₂ k.tables;
    }

-- what is asked over emptied tables
pub emptied_first : (T T₁ : Tables) → T₁ ≡ cleared T → T₁ ≡ cleared T₁
emptied_first T T₁ e = e ∙ sym (clear_twice T) ∙ ap cleared (sym e)
