-- The name that the file supplies for an address, by its index, and the text of a global.
use Rattle.std.specs.Prelude.{Bool, cond, ◌&&◌, List, ◌++◌, ℕ, zero, suc, ◌+◌, eqb, ltb, leb}
use Rattle.std.proofs.Math.Option.{Option, none, some}
use Rattle.definition.specs.Edition.{names}
use Rattle.definition.specs.Words.{part}
use Rattle.definition.specs.Contents.{offset, size, name_word, name_long}
use Rattle.definition.specs.Offsets.{half}
use Rattle.definition.specs.Numbers.{hex_upper}
use Rattle.definition.specs.Lookup.{size_prefix, name_or}

-- the first of n names from i on that is for the address a
unfoldable pub index_from : List ℕ → ℕ → ℕ → ℕ → Option ℕ
index_from f a i zero = none
index_from f a i (suc n) = cond (eqb (name_long f i 0) a) (some i) (index_from f a (i + 1) n)

unfoldable pub name_index : List ℕ → ℕ → Option ℕ
name_index f a = index_from f a 0 (size f names)

-- name i, with its text in section t
unfoldable pub name_text : List ℕ → ℕ → ℕ → List ℕ
name_text f t i = part f (offset f t + name_word f i 2) (name_word f i 3)

unfoldable pub text_of : List ℕ → ℕ → Option ℕ → Option (List ℕ)
text_of f t none = none
text_of f t (some i) = some (name_text f t i)

-- does the constant with the bits c name a global
unfoldable pub is_global : ℕ → Bool
is_global c = leb 4096 c && ltb c half

-- the name, or else the size's prefix and the address
unfoldable pub global_text : List ℕ → ℕ → ℕ → ℕ → List ℕ
global_text f t c n = name_or (size_prefix n ++ hex_upper c) (text_of f t (name_index f c))
