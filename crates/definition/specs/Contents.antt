-- The table of contents, and the words of records (document 01, "The function file").
use Rattle.std.specs.Prelude.{List, ℕ, ◌+◌, ◌*◌, ◌-◌, length}
use Rattle.definition.specs.Edition.{Edition, args, arg_words, blocks, block_words, phis, phi_words, inputs, input_words, statements, stmt_words, lists, item_words, expressions, expr_words, names, name_words}
use Rattle.definition.specs.Words.{word, long, part}

-- bytes of the contents: four words, then offset and size of each section
unfoldable pub contents : Edition → ℕ
contents E = 16 + 8 * length E.sections

-- word k of section s in the contents: 0 is the byte at which it begins, 1 how many records it has
unfoldable pub contents_word : List ℕ → ℕ → ℕ → ℕ
contents_word f s k = word f (16 + 8 * s + 4 * k)

abbrev pub offset : List ℕ → ℕ → ℕ
offset f s = contents_word f s 0

abbrev pub size : List ℕ → ℕ → ℕ
size f s = contents_word f s 1

-- the text, which is the last section
unfoldable pub text : Edition → ℕ
text E = length E.sections - 1

-- the byte at which word k of record i stands, in section s of records of w words
unfoldable pub place : List ℕ → ℕ → ℕ → ℕ → ℕ → ℕ
place f s w i k = offset f s + 4 * (w * i + k)

-- words of the records by section
abbrev pub arg_at : List ℕ → ℕ → ℕ
arg_at f i = word f (place f args arg_words i 0)

abbrev pub block_word : List ℕ → ℕ → ℕ → ℕ
block_word f i k = word f (place f blocks block_words i k)

abbrev pub phi_word : List ℕ → ℕ → ℕ → ℕ
phi_word f i k = word f (place f phis phi_words i k)

abbrev pub input_at : List ℕ → ℕ → ℕ
input_at f i = word f (place f inputs input_words i 0)

abbrev pub stmt_word : List ℕ → ℕ → ℕ → ℕ
stmt_word f i k = word f (place f statements stmt_words i k)

abbrev pub item_word : List ℕ → ℕ → ℕ → ℕ
item_word f i k = word f (place f lists item_words i k)

abbrev pub expr_word : List ℕ → ℕ → ℕ → ℕ
expr_word f i k = word f (place f expressions expr_words i k)

abbrev pub name_word : List ℕ → ℕ → ℕ → ℕ
name_word f i k = word f (place f names name_words i k)

-- 64-bit numbers that begin at word k
abbrev pub block_long : List ℕ → ℕ → ℕ → ℕ
block_long f i k = long f (place f blocks block_words i k)

abbrev pub stmt_long : List ℕ → ℕ → ℕ → ℕ
stmt_long f i k = long f (place f statements stmt_words i k)

abbrev pub expr_long : List ℕ → ℕ → ℕ → ℕ
expr_long f i k = long f (place f expressions expr_words i k)

abbrev pub name_long : List ℕ → ℕ → ℕ → ℕ
name_long f i k = long f (place f names name_words i k)

-- n bytes of the text from `start` on
unfoldable pub text_at : Edition → List ℕ → ℕ → ℕ → List ℕ
text_at E f start n = part f (offset f (text E) + start) n
