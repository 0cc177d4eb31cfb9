-- A part of the file, cut where the file ends, is what lies between two places inside it; so two parts are compared, and short ones read, there.
use mathlib.Core.Path.{◌≡◌, sym, ap, ap₂, ◌∙◌}
use mathlib.Core.Bool.{Bool}
use mathlib.Core.List.{List, [], ◌∷◌}
use Prim.Native.Nat.{ℕ, suc, min, ◌+◌, ◌-◌, ◌≤◌, ◌<◌}
use native.Mathlib.Decide.{dec_lt}
use native.Mathlib.Omega.{arith}
use lib.ListN.{length, take, drop, get_or, length-drop, drop_of_length-le}
use lib.Seq.{take-nil, drop-cons, length-take-le}
use Rattle.definition.specs.Words.{part}
use Rattle.definition.specs.Texts.{same}
use Rattle.definition.specs.Contents.{offset}
use Rattle.leaf.proofs.Copies.{part_rest, part_in}
use Rattle.ssa.specs.declared.parts.Text.{Text}
use Rattle.flags.specs.Inside.{Inside}
use Rattle.flags.specs.Nodes.{text_in}
use Rattle.flags.specs.declared.spans.Span.{Span}

module _ (f : List ℕ) (at n : ℕ) where
  nothing_past : (k : ℕ) → length f ≤ k → (m : ℕ) → take m (drop k f) ≡ []
  nothing_past k h m = ap (take m) (drop_of_length-le f h) ∙ take-nil m

  clip_past : length f ≤ at → Inside f at n (record { start = length f; end = length f })
  unfolding part
  clip_past h = record {
    ordered = omega arith;
    within = omega arith;
    holds = nothing_past (length f) (omega arith) (length f - length f) ∙ sym (nothing_past at h n);
  }

  clip_rest : at < length f → length f - at < n → Inside f at n (record { start = at; end = length f })
  clip_rest h k = record { ordered = omega arith; within = omega arith; holds = part_rest f at n k }

  clip_in : at < length f → n ≤ length f - at → Inside f at n (record { start = at; end = at + n })
  clip_in h k = record { ordered = omega arith; within = omega arith; holds = part_in f at n }

  -- from i to j, by where the file ends, which is no place past `most`
  module _ (i j k most : ℕ) (begins : i ≡ min at (length f)) (stops : k ≡ min (at + n) most) (ends : j ≡ min k (length f)) (few : length f ≤ most) where
    abbrev Clipped : Type 0
    Clipped = Inside f at n (record { start = i; end = j })

    pub clip_is : Clipped
    clip_is = past (dec_lt at (length f))
      where
        rest : at < length f → Dec (length f - at < n) → Clipped
        rest h (yes q) = let a : i ≡ at = omega arith in let b : j ≡ length f = omega arith in rw (a, b) (clip_rest h q)
        rest h (no q) = let a : i ≡ at = omega arith in let b : j ≡ at + n = omega arith in rw (a, b) (clip_in h (omega arith))

        past : Dec (at < length f) → Clipped
        past (yes h) = rest h (dec_lt (length f - at) n)
        past (no h) = let a : i ≡ length f = omega arith in let b : j ≡ length f = omega arith in rw (a, b) (clip_past (omega arith))

  module _ (s : Span) (i : Inside f at n s) where
    long : length (part f at n) ≡ s.end - s.start
    long =
        let l : s.end - s.start ≤ length (drop s.start f) = omega (arith, length-drop s.start f, i.ordered, i.within) in
        ap length (sym i.holds) ∙ length-take-le (s.end - s.start) (drop s.start f) l

    pub length_is : (m : ℕ) → m ≡ s.end - s.start → length (part f at n) ≡ m
    length_is m e = long ∙ sym e

    pub one_byte : (m : ℕ) → m ≡ s.end - s.start → m ≡ 1 → part f at n ≡ get_or f s.start 0 ∷ []
    one_byte m e o =
        let q : s.end - s.start ≡ 1 = sym e ∙ o in
        let h : s.start < length f = omega (arith, q, i.within) in
        sym i.holds ∙ rw (q, drop-cons f s.start 0 h)

    pub two_bytes : (m : ℕ) → m ≡ s.end - s.start → m ≡ 2 → part f at n ≡ get_or f s.start 0 ∷ get_or f (s.start + 1) 0 ∷ []
    two_bytes m e o =
        let q : s.end - s.start ≡ 2 = sym e ∙ o in
        let h : s.start < length f = omega (arith, q, i.within) in
        let k : suc s.start < length f = omega (arith, q, i.within) in
        let p : s.start + 1 ≡ suc s.start = omega arith in
        sym i.holds ∙ rw (q, p, drop-cons f s.start 0 h, drop-cons f (suc s.start) 0 k)

pub both_parts : (f : List ℕ) (i n j m : ℕ) (p q : Span) → Inside f i n p → Inside f j m q → (r : Bool)
    → r ≡ same (take (p.end - p.start) (drop p.start f)) (take (q.end - q.start) (drop q.start f)) → r ≡ same (part f i n) (part f j m)
both_parts f i n j m p q a b r e = e ∙ ap₂ same a.holds b.holds

pub both_texts : (f : List ℕ) (t : ℕ) (a b : Text) (o : ℕ) (r : Bool) → o ≡ offset f t
    → r ≡ same (part f (o + a.start) a.len) (part f (o + b.start) b.len) → r ≡ same (text_in f t a) (text_in f t b)
unfolding text_in
both_texts f t a b o r p e = e ∙ ap (λ (k : ℕ). same (part f (k + a.start) a.len) (part f (k + b.start) b.len)) p
