-- Numbers out of bytes, little-endian (document 01, "The function file"). A word that does not lie wholly inside reads 0, and so does such a half of a long number.
use Rattle.std.specs.Prelude.{List, [], ◌∷◌, ℕ, ◌+◌, ◌*◌, take, drop}

-- the number of the first four bytes
unfoldable pub four : List ℕ → ℕ
four [] = 0
four (a ∷ []) = 0
four (a ∷ b ∷ []) = 0
four (a ∷ b ∷ c ∷ []) = 0
four (a ∷ b ∷ c ∷ d ∷ r) = a + 256 * b + 65536 * c + 16777216 * d

-- the 32-bit number at byte i
unfoldable pub word : List ℕ → ℕ → ℕ
word f i = four (drop i f)

-- the 64-bit number at byte i: its low word, then its high word
unfoldable pub long : List ℕ → ℕ → ℕ
long f i = word f i + 4294967296 * word f (i + 4)

-- n bytes from byte i on
unfoldable pub part : List ℕ → ℕ → ℕ → List ℕ
part f i n = take n (drop i f)
