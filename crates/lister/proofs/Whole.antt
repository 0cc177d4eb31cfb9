-- The printer's calls one after the other: lowering into zeros, structuring of what it left, and the scratch emptied again. Where lowering refuses
-- nothing, the file passes 4, 5, 6 and 8, so that structuring is given what it asks for.
use mathlib.Core.Path.{◌≡◌, refl, sym, subst, ap, ◌∙◌}
use mathlib.Core.Bool.{Bool, true, false, cond, ◌&&◌}
use mathlib.Core.List.{List}
use Prim.Native.Nat.{ℕ, zero, suc, ◌≤◌}
use native.Mathlib.Omega.{arith}
use lib.Dec.{eqb, eqb-suc-zero}
use lib.ListN.{length, take, replicate, get_or}
use lib.Seq.{length-take-le}
use mir.Syntax.{w8}
use mir.Val.{Fits}
use borrow.Author.Tests.{eqb-true}
use Rattle.definition.specs.Edition.{edition1}
use Rattle.definition.specs.Read.{read}
use Rattle.definition.specs.Offsets.{offsets}
use Rattle.definition.specs.Listing.{Lent, structure, fits, refusal, result_of, result, list}
use Rattle.definition.proofs.Bools.{both_true}
use Rattle.definition.proofs.ListLaws.{zeros_long, own_zeros}
use Rattle.definition.proofs.LoweredRead.{edition1_text}
use Rattle.tables.specs.Tables.{Tables, tables_of, zeros, cleared, long_places, all_long, long}
use Rattle.structure.specs.Lowered.{Given, Lends, lent}
use Rattle.structure.proofs.EveryFile.{given_file, room_file}
use Rattle.lent.specs.declared.answer.Answer.{Answer}
use Rattle.lent.specs.declared.answer.Lowered.{Lowered}
use Rattle.lent.proofs.Fitting.{three_long}
use Rattle.lent.specs.Lengths.{lent_of, low_fits}
use Rattle.lowered.specs.Lowered.{Low, low_of, low_in, lines_of, first_of, LoweredIn}
use Rattle.structured.specs.Structured.{Lowers, Answers}
use Rattle.structured.proofs.Structuring.{front_zeros}
use Rattle.lister.specs.Lists.{ready, Lists}
use Rattle.lister.proofs.First.{Passes, by_first, none_refuses, all_bytes}

and_swap : (a b : Bool) → (a && b) ≡ (b && a)
and_swap true true = refl
and_swap true false = refl
and_swap false true = refl
and_swap false false = refl

-- tables of which two were used again
abbrev twice : Tables → List ℕ → List ℕ → Tables
twice U R S =
    tables_of R U.numbers U.spare S U.order U.starts U.loads U.live U.phi U.roots U.places U.names U.marks U.labels

-- of a right scratch, the two tables that serve twice
two_long : (T : Tables) → long T ≡ true → (length T.keys ≡ 7696) × (length T.offs ≡ 7696)
unfolding all_long long_places
two_long T h =
    let v = (both_true _ _ h).0 in
    let k = both_true (eqb (length T.keys) 7696) _ v in
    let n = both_true (eqb (length T.numbers) 7696) _ k.1 in
    let s = both_true (eqb (length T.spare) 7696) _ n.1 in
    let o = both_true (eqb (length T.offs) 7696) _ s.1 in
    (eqb-true (length T.keys) 7696 k.0, eqb-true (length T.offs) 7696 o.0)

-- the number that lowering answers
low_number : (L T B : ℕ) (f : List ℕ) (n : ℕ) → (low_in L T B f n).number ≡ n
unfolding low_in
low_number L T B f zero = refl
low_number L T B f (suc n) = rw (eqb-suc-zero n) refl

module _ (f : List ℕ) (bytes : (k : ℕ) → Fits w8 (get_or f k 0)) (l d x : List ℕ) (l₀ d₀ x₀ : List ℕ)
    (blank : (l₀ ≡ replicate (length l) 0) × (d₀ ≡ replicate (length d) 0) × (x₀ ≡ replicate (length x) 0))
    (b : Bool) (right : b ≡ fits edition1 (lent_of (length l₀) (length d₀) (length x₀))) (T U : Tables) (ls ks t : List ℕ)
    (w : Lowered) (ls₁ ks₁ t₁ : List ℕ) (p : LoweredIn b f T U ls ks t w ls₁ ks₁ t₁) where
  abbrev all_right : Bool
  all_right = b && (low_fits edition1 (lent_of (length ls) (length ks) (length t)) && long T)

  number_is : w.number ≡ first_of all_right f
  number_is = ap (λ (z : Low). z.number) p.low ∙ low_number (length ls) (length ks) (length t) f (first_of all_right f)

  scratch_are : (U.keys ≡ replicate (length T.keys) 0) × (U.offs ≡ replicate (length T.offs) 0)
  unfolding cleared zeros
  scratch_are = (ap (λ (W : Tables). W.keys) p.tables, ap (λ (W : Tables). W.offs) p.tables)

  -- where nothing is refused
  module _ (z : w.number ≡ 0) where
    none : first_of all_right f ≡ 0
    none = sym number_is ∙ z

    all_are : all_right ≡ true
    all_are = (none_refuses all_right f none).0

    file_passes : Passes f
    file_passes = (none_refuses all_right f none).1

    lengths : (length l₀ ≡ 7680) × (length d₀ ≡ 6144) × (length x₀ ≡ 32768)
    unfolding edition1
    lengths = three_long edition1.lent (length l₀) (length d₀) (length x₀) (sym right ∙ (both_true b _ all_are).0)

    tables_long : (length T.keys ≡ 7696) × (length T.offs ≡ 7696)
    tables_long = two_long T (both_true (low_fits edition1 (lent_of (length ls) (length ks) (length t))) _ (both_true b _ all_are).1).1

    lines_are : low_of w ls₁ ks₁ t₁ ≡ low_in (length ls) (length ks) (length t) f 0
    lines_are = p.low ∙ ap (low_in (length ls) (length ks) (length t) f) none

    two_served : (1536 ≤ length U.keys) × (769 ≤ length U.offs)
    two_served =
        let k : length U.keys ≡ 7696 = zeros_long U.keys (length T.keys) scratch_are.0 ∙ tables_long.0 in
        let o : length U.offs ≡ 7696 = zeros_long U.offs (length T.offs) scratch_are.1 ∙ tables_long.1 in
        (omega (arith, k), omega (arith, o))

    gives : Given (lines_of f) ls₁ ks₁ t₁ (take 1536 U.keys) (take 769 U.offs) w.lines
    unfolding edition1 lines_of low_in
    gives =
        let R = take 1536 U.keys in
        let S = take 769 U.offs in
        let k : length R ≡ 1536 = length-take-le 1536 U.keys two_served.0 in
        let o : length S ≡ 769 = length-take-le 769 U.offs two_served.1 in
        subst (λ (v : Low). Given (lines_of f) v.lines v.tokens v.text R S v.count) (sym lines_are)
        (given_file edition1 f (offsets (read edition1 f)) edition1_text (all_bytes f bytes) file_passes.four file_passes.five file_passes.six file_passes.eighth
        (omega arith) (length ls) (length ks) (length t) R S (front_zeros 1536 U.keys (own_zeros U.keys (length T.keys) scratch_are.0)) (omega (arith, k)) (omega (arith, k)) (omega (arith, o)))

    lends : Lends (lines_of f) 1536 l₀ d₀ x₀
    unfolding edition1 lines_of
    lends = record {
      rows = lengths.0;
      lines = own_zeros l₀ (length l) blank.0;
      tokens = own_zeros d₀ (length d) blank.1;
      text = own_zeros x₀ (length x) blank.2;
      most = omega (arith, lengths.2);
      room =
          room_file edition1 f (offsets (read edition1 f)) edition1_text (all_bytes f bytes) file_passes.four file_passes.five file_passes.six file_passes.eighth
          1536 (length d₀) (length x₀) (omega arith) (omega (arith, lengths.1)) (omega (arith, lengths.2));
    }

  pub lowers : Lowers l₀ d₀ x₀ U.keys U.offs ls₁ ks₁ t₁ w
  lowers = record {
    lines = own_zeros l₀ (length l) blank.0;
    tokens = own_zeros d₀ (length d) blank.1;
    text = own_zeros x₀ (length x) blank.2;
    rows = own_zeros U.keys (length T.keys) scratch_are.0;
    spans = own_zeros U.offs (length T.offs) scratch_are.1;
    long = two_served;
    known = λ z. record { low = lines_of f; given = gives z };
  }

  -- the lengths at entry are those after the clearing
  same_lent : lent l₀ d₀ x₀ ≡ lent_of (length l) (length d) (length x)
  unfolding lent
  same_lent =
      rw (zeros_long l₀ (length l) blank.0, zeros_long d₀ (length d) blank.1, zeros_long x₀ (length x) blank.2) refl

  -- nothing is lent wrongly, as the definition asks it
  same_test : all_right ≡ (ready ls ks t T && fits edition1 (lent l₀ d₀ x₀))
  unfolding ready lent
  same_test =
      and_swap b (low_fits edition1 (lent_of (length ls) (length ks) (length t)) && long T)
      ∙ ap (λ (c : Bool). (low_fits edition1 (lent_of (length ls) (length ks) (length t)) && long T) && c) right

  pub lists : (r : Answer) (l' d' x' R S ls' ks' t' : List ℕ) → Answers l₀ d₀ x₀ U.keys U.offs ls₁ ks₁ t₁ w r l' d' x' R S
      → (ls' ≡ replicate (length ls₁) 0) × (ks' ≡ replicate (length ks₁) 0) × (t' ≡ replicate (length t₁) 0)
      → length ls₁ ≡ length ls → length ks₁ ≡ length ks → length t₁ ≡ length t
      → Lists f l d x r l' d' x' ls ks t ls' ks' t' T (twice U R S)
  unfolding result zeros
  lists r l' d' x' R S ls' ks' t' a blanks e₁ e₂ e₃ = record {
    listing =
        a.result (lines_of f) 1536 (λ z. (gives z, lends z))
        ∙ ap (λ (n : ℕ). cond (eqb n 0) (result_of (lent l₀ d₀ x₀) (structure (lines_of f))) (refusal (lent l₀ d₀ x₀) n)) number_is
        ∙ sym (by_first (lent l₀ d₀ x₀) all_right f)
        ∙ ap (λ (c : Bool). cond c (result_of (lent l₀ d₀ x₀) (list edition1 f)) (refusal (lent l₀ d₀ x₀) 1)) same_test
        ∙ ap (λ (B : Lent). result edition1 B (ready ls ks t T) f) same_lent;
    low_lines_lem = blanks.0 ∙ ap (λ (n : ℕ). replicate n 0) e₁;
    low_tokens_lem = blanks.1 ∙ ap (λ (n : ℕ). replicate n 0) e₂;
    low_text_lem = blanks.2 ∙ ap (λ (n : ℕ). replicate n 0) e₃;
    tables =
        ap (λ (A : List ℕ). twice U A S) (a.rows ∙ sym (own_zeros U.keys (length T.keys) scratch_are.0))
        ∙ ap (λ (A : List ℕ). twice U U.keys A) (a.spans ∙ sym (own_zeros U.offs (length T.offs) scratch_are.1)) ∙ p.tables;
  }
