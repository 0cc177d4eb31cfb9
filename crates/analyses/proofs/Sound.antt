-- A file that no check from 2 to 6 refuses is sound: check 3 has counted its records, 4 its owners, 5 has seen each node once, 6 registers and starts.
use mathlib.Core.Path.{◌≡◌}
use mathlib.Core.Bool.{true, false, and-false, true≢false}
use mathlib.Core.List.{List, ◌∷◌}
use Prim.Native.Nat.{ℕ, ◌+◌, ◌≤◌}
use native.Mathlib.Omega.{arith}
use lib.Dec.{ltb}
use lib.ListN.{length}
use borrow.Author.Tests.{ltb-false}
use Rattle.definition.specs.Edition.{Edition, Section, edition1}
use Rattle.definition.specs.Lists.{distinct}
use Rattle.definition.specs.Contents.{size}
use Rattle.definition.specs.Shape.{too_many, refused2, refused3, refused4}
use Rattle.definition.specs.References.{refused5}
use Rattle.definition.specs.Meaning.{registers, starts, defined_once, refused6}
use Rattle.definition.specs.Listing.{checked}
use Rattle.definition.proofs.Bools.{both_false, is_true, passed}
use Rattle.records.proofs.Items.{shape_owned}
use Rattle.places.specs.Keys.{places_of}
use Rattle.uses.proofs.Forest.{order_short}
use Rattle.analyses.specs.Sound.{Sound}

-- a section that is not too long, and those behind it
section_few : (f : List ℕ) (s : ℕ) (t : Section) (ts : List Section) → too_many f s (t ∷ ts) ≡ false → (size f s ≤ t.most) × (too_many f (s + 1) ts ≡ false)
unfolding too_many
section_few f s t ts h =
    let b = both_false (ltb t.most (size f s)) (too_many f (s + 1) ts) h in
    (ltb-false t.most (size f s) b.0, b.1)

-- what check 6 has seen
module _ (E : Edition) (f : List ℕ) (h : refused6 E f ≡ false) where
  all_registers : registers f ≡ true
  unfolding refused6
  all_registers = is_true (registers f) (λ e. true≢false (simp (e, and-false) at h))

  starts_apart : distinct (starts f) ≡ true
  unfolding refused6
  starts_apart = is_true (distinct (starts f)) (λ e. true≢false (simp (e, and-false) at h))

  all_once : defined_once f ≡ true
  unfolding refused6
  all_once = is_true (defined_once f) (λ e. true≢false (simp (e, and-false) at h))

-- no section of edition 1 is too long
few : (f : List ℕ) → refused3 edition1 f ≡ false
    → (size f 0 ≤ 16) × (size f 1 ≤ 320) × (size f 2 ≤ 512) × (size f 3 ≤ 2048) × (size f 4 ≤ 1024) × (size f 5 ≤ 2048) × (size f 6 ≤ 2048)
unfolding edition1 refused3
few f h =
    let s0 = section_few f 0 _ _ (both_false (ltb edition1.most (length f)) (too_many f 0 edition1.sections) h).1 in
    let s1 = section_few f 1 _ _ s0.1 in
    let s2 = section_few f 2 _ _ s1.1 in
    let s3 = section_few f 3 _ _ s2.1 in
    let s4 = section_few f 4 _ _ s3.1 in
    let s5 = section_few f 5 _ _ s4.1 in
    let s6 = section_few f 6 _ _ s5.1 in
    (s0.0, s1.0, s2.0, s3.0, s4.0, s5.0, s6.0)

few_places : (f : List ℕ) → refused3 edition1 f ≡ false → (places_of f).total ≤ 7696
unfolding places_of
few_places f h = omega (arith, few f h)

pub sound : (f : List ℕ) → checked edition1 f ≡ 0 → Sound f
unfolding checked
sound f h =
    let p2 = passed (refused2 edition1 f) 2 _ (omega arith) h in
    let p3 = passed (refused3 edition1 f) 3 _ (omega arith) p2.1 in
    let p4 = passed (refused4 edition1 f) 4 _ (omega arith) p3.1 in
    let p5 = passed (refused5 edition1 f) 5 _ (omega arith) p4.1 in
    let p6 = passed (refused6 edition1 f) 6 _ (omega arith) p5.1 in
    let n = few f p3.0 in
    record {
      own = shape_owned edition1 f p4.0;
      registered = all_registers edition1 f p6.0;
      apart = starts_apart edition1 f p6.0;
      once = all_once edition1 f p6.0;
      nodes = order_short edition1 f p5.0;
      few_places = few_places f p3.0;
      few_exprs = n.6;
      few_stmts = n.4;
      few_blocks = n.1;
    }
