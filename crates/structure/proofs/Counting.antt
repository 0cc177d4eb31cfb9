-- The tests counted one line at a time: what is counted, and those of the lines still ahead, are all of them.
use mathlib.Core.Path.{◌≡◌, refl, sym, ap, ◌∙◌}
use mathlib.Core.Bool.{Bool, true, false}
use mathlib.Core.List.{List, map}
use Prim.Native.Nat.{ℕ, suc, ◌+◌, ◌-◌, ◌≤◌, ◌<◌}
use native.Mathlib.Omega.{arith}
use Rattle.std.specs.Int.{from_bool}
use Rattle.definition.specs.Texts.{txt}
use Rattle.definition.specs.Lists.{range, count}
use Rattle.definition.specs.Tokens.{keyword}
use Rattle.definition.specs.Sorts.{first_is}
use Rattle.definition.specs.Listing.{tests}
use Rattle.definition.proofs.ListLaws.{bit, bit_le, count_cons}
use Rattle.sheet.specs.Buffers.{tokens_in, first_of, last_of, line_in}
use Rattle.sorts.specs.Sorted.{lines_in}

-- the tests of the lines from i up to n
unfoldable pub tests_from : List ℕ → List ℕ → List ℕ → ℕ → ℕ → ℕ
tests_from ls ks t i n = tests (map (line_in ls ks t) (range i (n - i)))

bit_is : (b : Bool) → bit b ≡ from_bool b
bit_is true = refl
bit_is false = refl

pub at_most : (b : Bool) (d : ℕ) → d ≡ from_bool b → d ≤ 1
at_most b d e = omega (arith, bit_le b, bit_is b)

module _ (ls ks t : List ℕ) (n : ℕ) where
  pub tests_start : tests (lines_in ls ks t n) ≡ 0 + tests_from ls ks t 0 n
  unfolding tests_from lines_in
  tests_start = let z : n - 0 ≡ n = omega arith in rw z (omega arith)

  pub tests_end : (i c v : ℕ) → v ≡ c + tests_from ls ks t i n → n ≤ i → c ≡ v
  unfolding tests_from range tests count
  tests_end i c v e h = let z : n - i ≡ 0 = omega arith in omega (arith, rw z at e)

  -- line i, which begins with `if` or not
  one_more : (i : ℕ) → i < n → (b : Bool) → b ≡ first_is (keyword (txt "if")) (line_in ls ks t i).toks → tests_from ls ks t i n ≡ from_bool b + tests_from ls ks t (i + 1) n
  unfolding tests_from range tests
  one_more i h b q =
      let z : n - i ≡ suc (n - (i + 1)) = omega arith in
      ap (λ (k : ℕ). tests (map (line_in ls ks t) (range i k))) z
      ∙ count_cons (λ x. first_is (keyword (txt "if")) x.toks) (line_in ls ks t i) (map (line_in ls ks t) (range (i + 1) (n - (i + 1))))
      ∙ ap (λ (v : ℕ). v + tests_from ls ks t (i + 1) n) (bit_is (first_is (keyword (txt "if")) (line_in ls ks t i).toks) ∙ ap from_bool (sym q))

  pub turned : (i c a e d : ℕ) (b : Bool) (v : ℕ) → a ≡ first_of ls i → e ≡ last_of ls i → b ≡ first_is (keyword (txt "if")) (tokens_in ks t a (e - a)) → d ≡ from_bool b
      → i < n → v ≡ c + tests_from ls ks t i n → v ≡ c + d + tests_from ls ks t (i + 1) n
  unfolding line_in
  turned i c a e d b v first last says one h inv =
      let q : b ≡ first_is (keyword (txt "if")) (tokens_in ks t (first_of ls i) (last_of ls i - first_of ls i)) = rw (← first, ← last) says in
      omega (arith, one_more i h b q)
