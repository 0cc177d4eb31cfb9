-- Texts as lists of bytes: equal, begins with, contains, replaced, and what Rust's trims take off.
use Rattle.std.specs.Prelude.{Bool, true, false, cond, ◌&&◌, ◌||◌, List, [], ◌∷◌, ◌++◌, ℕ, zero, suc, eqb, length, drop}
use Prim.Native.Char.{code}
use Prim.Native.String.{String, [] as nil, ◌∷◌ as cons}

-- the bytes of a quoted text
abbrev pub txt : String → List ℕ
txt nil = []
txt (cons c s) = code c ∷ txt s

unfoldable pub same : List ℕ → List ℕ → Bool
same [] [] = true
same [] (b ∷ t) = false
same (a ∷ s) [] = false
same (a ∷ s) (b ∷ t) = eqb a b && same s t

unfoldable pub is_empty : List ℕ → Bool
is_empty [] = true
is_empty (b ∷ s) = false

-- does s begin with w: `starts_with`
unfoldable pub begins : List ℕ → List ℕ → Bool
begins [] s = true
begins (a ∷ w) [] = false
begins (a ∷ w) (b ∷ s) = eqb a b && begins w s

-- does w stand somewhere in s: `contains`
unfoldable pub contains : List ℕ → List ℕ → Bool
contains w [] = begins w []
contains w (b ∷ s) = begins w (b ∷ s) || contains w s

-- v in place of the first w in s, w not being empty: `replacen` with 1
unfoldable pub replace : List ℕ → List ℕ → List ℕ → List ℕ
replace w v [] = []
replace w v (b ∷ s) = cond (begins w (b ∷ s)) (v ++ drop (length w) (b ∷ s)) (b ∷ replace w v s)

-- every leading w taken off, at most n of them; the length of s is enough: `trim_start_matches`
unfoldable pub shed : ℕ → List ℕ → List ℕ → List ℕ
shed zero w s = s
shed (suc n) w s = cond (begins w s) (shed n w (drop (length w) s)) s

unfoldable pub trim_start : List ℕ → List ℕ → List ℕ
trim_start w s = shed (length s) w s

-- every trailing c taken off: `trim_end_matches` of one byte
unfoldable pub trim_end : ℕ → List ℕ → List ℕ
trim_end c [] = []
trim_end c (b ∷ s) = cond (eqb b c && is_empty (trim_end c s)) [] (b ∷ trim_end c s)

-- a trailing w taken off, once
unfoldable pub cut_end : List ℕ → List ℕ → List ℕ
cut_end w [] = []
cut_end w (b ∷ s) = cond (same (b ∷ s) w) [] (b ∷ cut_end w s)
