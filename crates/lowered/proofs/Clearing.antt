-- A table that is handed out is emptied by its front: on a refusal it is zeros already and the front is none, else zeros follow the file's places.
use mathlib.Core.Path.{◌≡◌, refl, sym, ap, subst, ◌∙◌}
use mathlib.Core.List.{List, ◌++◌}
use Prim.Native.Nat.{ℕ, ◌≤◌}
use native.Mathlib.Decide.{ℕ_discrete}
use native.Mathlib.Omega.{arith}
use lib.ListN.{length, take, drop, replicate}
use lib.Seq.{length-take-le}
use borrow.Author.Tests.{eq-eqb, ne_eqb}
use Rattle.definition.specs.Edition.{edition1}
use Rattle.definition.specs.Contents.{text}
use Rattle.definition.specs.Values.{Value}
use Rattle.places.specs.declared.Places.{Places}
use Rattle.places.specs.Keys.{places_of}
use Rattle.values.specs.Tables.{numbered, table}
use Rattle.values.proofs.Tables.{numbered_length, table_length}
use Rattle.values.proofs.Placed.{keyed_length}
use Rattle.tables.specs.Tables.{Tables, most, zeros, cleared}
use Rattle.tables.specs.Filled.{given, Filled}
use Rattle.tables.specs.Stages.{Blank}
use Rattle.tables.proofs.Fronts.{numbered_emptied, table_emptied}
use Rattle.tables.proofs.Handed.{file_sound, all_blank}
use Rattle.lowered.specs.Emptied.{filled_to, emptied, Reach}

-- ---- the code
pub none_filled : (f : List ℕ) (s : ℕ) → (s ≡ 0 → ⊥) → 0 ≡ filled_to f s
unfolding filled_to
none_filled f s h = rw (ne_eqb s 0 h) refl

pub all_filled : (f : List ℕ) (s : ℕ) (p : Places) → s ≡ 0 → p ≡ places_of f → p.total ≡ filled_to f s
unfolding filled_to
all_filled f s p h e = rw (eq-eqb s 0 h) (ap (λ (q : Places). q.total) e)

-- a front that was emptied
pub front_gone : (n : ℕ) (l x : List ℕ) → n ≤ length l → x ≡ replicate (length (take n l)) 0 → (x ++ drop n l) ≡ emptied n l
unfolding emptied
front_gone n l x h e = ap (λ (a : List ℕ). a ++ drop n l) (e ∙ ap (λ (k : ℕ). replicate k 0) (length-take-le n l h))

-- ---- each table
-- the text's section of edition 1
pub section : text edition1 ≡ 8
unfolding text edition1
section = refl

-- u, which l has become, has a front of n numbers, and is zeros without it
abbrev Front : ℕ → List ℕ → List ℕ → Type 0
Front n l u = (n ≤ length u) × (emptied n u ≡ zeros l)

pub record Fronts (n : ℕ) (T U : Tables) : Type 0 where
  pub numbers : Front n T.numbers U.numbers
  pub offs : Front n T.offs U.offs
  pub places : Front n T.places U.places
  pub names : Front n T.names U.names
  pub live : Front n T.live U.live
  pub phi : Front n T.phi U.phi
  pub roots : Front n T.roots U.roots
  pub marks : Front n T.marks U.marks

module _ (f : List ℕ) (s : ℕ) (T U : Tables) (p : Filled f s T U) (n : ℕ) (e : n ≡ filled_to f s) where
  -- t goes on with zeros behind the file's places
  abbrev Whole : List ℕ → Type 0
  Whole t = (length t ≡ most) × ((replicate (places_of f).total 0 ++ drop (places_of f).total t) ≡ replicate most 0)

  passed : s ≡ 0 → Filled f 0 T U
  passed q = subst (λ (r : ℕ). Filled f r T U) q p

  lent : s ≡ 0 → Blank most (cleared T)
  lent q = all_blank f T U (passed q)

  numbered_whole : s ≡ 0 → Whole (numbered f most)
  numbered_whole q =
      let S = file_sound f T U (passed q) in
      (numbered_length f most ∙ keyed_length f most S.own S.few_places, numbered_emptied f S.own (places_of f).total most (omega arith) S.few_places)

  table_whole : s ≡ 0 → (g : Value → ℕ) → Whole (table f most g)
  table_whole q g =
      let S = file_sound f T U (passed q) in
      (table_length f most g ∙ keyed_length f most S.own S.few_places, table_emptied f S.own (places_of f).total most (omega arith) S.few_places g)

  front : (l u t : List ℕ) → u ≡ given s l t → (s ≡ 0 → Whole t) → (s ≡ 0 → zeros l ≡ replicate most 0) → Front n l u
  unfolding filled_to emptied given
  front l u t h w z = go (ℕ_discrete s 0)
    where
      go : Dec (s ≡ 0) → Front n l u
      go (yes q) =
          let k : n ≡ (places_of f).total = rw (eq-eqb s 0 q) at e in
          let v : u ≡ t = rw (eq-eqb s 0 q) at h in
          (omega (arith, k, ap length v, (w q).0, (file_sound f T U (passed q)).few_places), rw (k, v) ((w q).1 ∙ sym (z q)))
      go (no d) =
          let k : n ≡ 0 = rw (ne_eqb s 0 d) at e in
          let v : u ≡ zeros l = rw (ne_eqb s 0 d) at h in
          (omega (arith, k), rw k v)

  by_table : (l u : List ℕ) (g : Value → ℕ) → u ≡ given s l (table f most g) → (s ≡ 0 → zeros l ≡ replicate most 0) → Front n l u
  by_table l u g h z = front l u (table f most g) h (λ q. table_whole q g) z

  pub fronts : Fronts n T U
  unfolding cleared
  fronts = record {
    numbers = front T.numbers U.numbers _ p.tables.numbers (λ q. numbered_whole q) (λ q. (lent q).unvalued.no_numbers);
    offs = by_table T.offs U.offs _ (p.tables.offs edition1 section) (λ q. (lent q).unvalued.no_offs);
    places = by_table T.places U.places _ (p.tables.places edition1) (λ q. (lent q).unnamed.no_places);
    names = by_table T.names U.names _ (p.tables.names edition1) (λ q. (lent q).unnamed.no_names);
    live = by_table T.live U.live _ (p.tables.live edition1) (λ q. (lent q).unread.no_live);
    phi = by_table T.phi U.phi _ (p.tables.phi edition1) (λ q. (lent q).unread.no_phi);
    roots = by_table T.roots U.roots _ (p.tables.roots edition1) (λ q. (lent q).unnamed.no_roots);
    marks = by_table T.marks U.marks _ (p.tables.marks edition1 section) (λ q. (lent q).unmarked.no_marks);
  }

  pub reaches : Reach n U.numbers U.offs U.places U.names U.live U.phi U.roots U.marks
  reaches = record {
    numbers = fronts.numbers.0;
    offs = fronts.offs.0;
    places = fronts.places.0;
    names = fronts.names.0;
    live = fronts.live.0;
    phi = fronts.phi.0;
    roots = fronts.roots.0;
    marks = fronts.marks.0;
  }
