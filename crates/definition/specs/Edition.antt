-- What an edition of the function file fixes (document 01, "The function file" and "When nothing is printed"): one value, passed down.
use Rattle.std.specs.Prelude.{List, [], ◌∷◌, ℕ}

-- a section: the words of a record, 0 saying that it holds bytes, and the most records
pub record Section : Type 0 where
  pub words : ℕ
  pub most : ℕ

abbrev section : ℕ → ℕ → Section
section w n = record { words = w; most = n }

-- lines, tokens and bytes of text
pub record Room : Type 0 where
  pub lines : ℕ
  pub tokens : ℕ
  pub bytes : ℕ

pub record Edition : Type 0 where
  pub number : ℕ
  pub sections : List Section  -- in the file's order; the text is the last
  pub most : ℕ  -- bytes of a file
  pub lowered : Room  -- what lowering may write
  pub lent : Room  -- what the caller lends

-- the sections by their place in the contents, and the words of their records
abbrev pub args : ℕ
args = 0

abbrev pub arg_words : ℕ
arg_words = 1

abbrev pub blocks : ℕ
blocks = 1

abbrev pub block_words : ℕ
block_words = 10

abbrev pub phis : ℕ
phis = 2

abbrev pub phi_words : ℕ
phi_words = 4

abbrev pub inputs : ℕ
inputs = 3

abbrev pub input_words : ℕ
input_words = 1

abbrev pub statements : ℕ
statements = 4

abbrev pub stmt_words : ℕ
stmt_words = 11

abbrev pub lists : ℕ
lists = 5

abbrev pub item_words : ℕ
item_words = 2

abbrev pub expressions : ℕ
expressions = 6

abbrev pub expr_words : ℕ
expr_words = 5

abbrev pub names : ℕ
names = 7

abbrev pub name_words : ℕ
name_words = 4

unfoldable pub edition1 : Edition
edition1 = record {
  number = 1;
  sections =
      section arg_words 16 ∷ section block_words 320 ∷ section phi_words 512 ∷ section input_words 2048 ∷ section stmt_words 1024
      ∷ section item_words 2048 ∷ section expr_words 2048 ∷ section name_words 512 ∷ section 0 16384 ∷ [];
  most = 65536;
  lowered = record { lines = 768; tokens = 6144; bytes = 32768 };
  lent = record { lines = 1536; tokens = 6144; bytes = 32768 };
}
