-- The whole: the refusals in order, the lines or zeros, and tables that end as zeros, those that were handed out by being emptied.
use mathlib.Core.Path.{◌≡◌, refl, sym, ap, ◌∙◌}
use mathlib.Core.Bool.{Bool, cond, ◌&&◌}
use mathlib.Core.List.{List}
use Prim.Native.Nat.{ℕ}
use lib.ListN.{length, replicate}
use Rattle.definition.specs.Edition.{edition1}
use Rattle.tables.specs.Tables.{Tables, tables_of, zeros, cleared, long}
use Rattle.tables.specs.Filled.{judged, answer, Filled}
use Rattle.definition.proofs.ListLaws.{zeros_long}
use Rattle.tables.proofs.Emptying.{zeros_of}
use Rattle.lent.specs.declared.answer.Lowered.{Lowered}
use Rattle.lent.specs.Lengths.{lent_of, low_fits}
use Rattle.lowered.specs.Lowered.{low_of, up_to8, first_of, low_in, LoweredIn}
use Rattle.lowered.specs.Emptied.{filled_to, emptied}
use Rattle.lowered.proofs.Refusing.{all_tests}
use Rattle.lowered.proofs.Clearing.{fronts}

module _ (f : List ℕ) (s : ℕ) (T U : Tables) (p : Filled f s T U) (i : ℕ) (filled : i ≡ filled_to f s) (numbers offs places names live phi roots marks labels : List ℕ) where
  all_gone : length U.labels ≡ length T.labels
      → (numbers ≡ emptied i U.numbers) × (offs ≡ emptied i U.offs) × (places ≡ emptied i U.places) × (names ≡ emptied i U.names) × (live ≡ emptied i U.live) × (phi ≡ emptied i U.phi) × (roots ≡ emptied i U.roots) × (marks ≡ emptied i U.marks) × (labels ≡ replicate (length U.labels) 0)
      → tables_of U.keys numbers U.spare offs U.order U.starts U.loads live phi roots places names marks labels ≡ cleared T
  unfolding cleared zeros
  all_gone w g =
      let H = p.tables in
      let F = fronts f s T U p i filled in
      rw (
        H.keys,
        g.0 ∙ F.numbers.1,
        H.spare,
        g.1 ∙ F.offs.1,
        H.order,
        H.starts,
        H.loads,
        g.4 ∙ F.live.1,
        g.5 ∙ F.phi.1,
        g.6 ∙ F.roots.1,
        g.2 ∙ F.places.1,
        g.3 ∙ F.names.1,
        g.7 ∙ F.marks.1,
        zeros_of labels (length U.labels) (length T.labels) (sym w) g.8,
      )
      refl

  module _ (ready fit : Bool) (n : ℕ) (l₀ k₀ x₀ l k x l' k' x' : List ℕ) (r : Lowered) where
    refusals : fit ≡ low_fits edition1 (lent_of (length l) (length k) (length x)) → n ≡ cond (ready && fit) s 1
        → n ≡ cond (ready && (low_fits edition1 (lent_of (length l) (length k) (length x)) && long T)) (judged f) 1
    unfolding answer
    refusals a b =
        b ∙ ap (λ (m : ℕ). cond (ready && fit) m 1) p.says ∙ all_tests ready fit (long T) (judged f)
        ∙ ap (λ (t : Bool). cond (ready && (t && long T)) (judged f) 1) a

    pub whole : (l ≡ replicate (length l₀) 0) × (k ≡ replicate (length k₀) 0) × (x ≡ replicate (length x₀) 0)
        → fit ≡ low_fits edition1 (lent_of (length l) (length k) (length x)) → n ≡ cond (ready && fit) s 1
        → low_of r l' k' x' ≡ low_in (length l) (length k) (length x) f (up_to8 f n)
        → length U.labels ≡ length T.labels
        → (numbers ≡ emptied i U.numbers) × (offs ≡ emptied i U.offs) × (places ≡ emptied i U.places) × (names ≡ emptied i U.names) × (live ≡ emptied i U.live) × (phi ≡ emptied i U.phi) × (roots ≡ emptied i U.roots) × (marks ≡ emptied i U.marks)
        × (labels ≡ replicate (length U.labels) 0)
        → LoweredIn ready f T
        (tables_of U.keys numbers U.spare offs U.order U.starts U.loads live phi roots places names marks labels)
        l₀ k₀ x₀ r l' k' x'
    unfolding first_of
    whole z a b e w g = record {
      low =
          e ∙ ap (λ (m : ℕ). low_in (length l) (length k) (length x) f (up_to8 f m)) (refusals a b)
          ∙ rw (zeros_long l (length l₀) z.0, zeros_long k (length k₀) z.1, zeros_long x (length x₀) z.2) refl;
      tables = all_gone w g;
    }
