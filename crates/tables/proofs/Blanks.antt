-- Tables that have passed the tests of their lengths and are zeros are those that the stages begin with.
use mathlib.Core.Path.{◌≡◌, ap, ◌∙◌}
use mathlib.Core.Bool.{Bool, true, ◌&&◌}
use mathlib.Core.List.{List}
use Prim.Native.Nat.{ℕ}
use lib.Dec.{eqb}
use lib.ListN.{length, replicate}
use borrow.Author.Tests.{eqb-true}
use Rattle.definition.proofs.Bools.{both_true}
use Rattle.tables.specs.Tables.{Tables, most, zeros, cleared, long_places, long_records, all_long, long}
use Rattle.tables.specs.Stages.{Blank}

is_long : (a n : ℕ) → eqb a n ≡ true → a ≡ n
is_long a n h = eqb-true a n h

test : (a n : ℕ) (b : Bool) → (eqb a n && b) ≡ true → (a ≡ n) × (b ≡ true)
test a n b h = let p = both_true (eqb a n) b h in (is_long a n p.0, p.1)

-- zeros of their own length, which is n
own : (l : List ℕ) (n : ℕ) → l ≡ zeros l → length l ≡ n → l ≡ replicate n 0
unfolding zeros
own l n e p = e ∙ ap (λ (k : ℕ). replicate k 0) p

five : (a b c d e : ℕ) → long_places a b c d e ≡ true → (a ≡ most) × (b ≡ most) × (c ≡ most) × (d ≡ most) × (e ≡ most)
unfolding long_places
five a b c d e h =
    let i = test a most _ h in
    let j = test b most _ i.1 in
    let k = test c most _ j.1 in
    let l = test d most _ k.1 in
    (i.0, j.0, k.0, l.0, is_long e most l.1)

records : (a b c d : ℕ) → long_records a b c d ≡ true → (a ≡ 2048) × (b ≡ 1025) × (c ≡ 2048) × (d ≡ 320)
unfolding long_records
records a b c d h =
    let i = test a 2048 _ h in
    let j = test b 1025 _ i.1 in
    let k = test c 2048 _ j.1 in
    (i.0, j.0, k.0, is_long d 320 k.1)

pub blank : (T : Tables) → long T ≡ true → T ≡ cleared T → Blank most T
unfolding all_long cleared
blank T h z =
    let a = both_true (long_places (length T.keys) (length T.numbers) (length T.spare) (length T.offs) (length T.live)) _ h in
    let b = both_true (long_places (length T.phi) (length T.roots) (length T.places) (length T.names) (length T.marks)) _ a.1 in
    let p = five _ _ _ _ _ a.0 in
    let q = five _ _ _ _ _ b.0 in
    let r = records _ _ _ _ b.1 in
    record {
      unvalued = record {
        no_keys = own T.keys most (ap (λ (U : Tables). U.keys) z) p.0;
        no_numbers = own T.numbers most (ap (λ (U : Tables). U.numbers) z) p.1;
        no_offs = own T.offs most (ap (λ (U : Tables). U.offs) z) p.3;
      };
      unread = record {
        no_order = own T.order 2048 (ap (λ (U : Tables). U.order) z) r.0;
        no_starts = own T.starts 1025 (ap (λ (U : Tables). U.starts) z) r.1;
        no_loads = own T.loads 2048 (ap (λ (U : Tables). U.loads) z) r.2;
        no_live = own T.live most (ap (λ (U : Tables). U.live) z) p.4;
        no_phi = own T.phi most (ap (λ (U : Tables). U.phi) z) q.0;
        no_spare = own T.spare most (ap (λ (U : Tables). U.spare) z) p.2;
      };
      unnamed = record {
        no_roots = own T.roots most (ap (λ (U : Tables). U.roots) z) q.1;
        no_places = own T.places most (ap (λ (U : Tables). U.places) z) q.2;
        no_names = own T.names most (ap (λ (U : Tables). U.names) z) q.3;
      };
      unmarked = record {
        no_marks = own T.marks most (ap (λ (U : Tables). U.marks) z) q.4;
        no_labels = own T.labels 320 (ap (λ (U : Tables). U.labels) z) r.3;
      };
    }
