-- The answer: refusals in order, or the finished lines with their counts, and the lent buffers (document 01, "When nothing is printed", "Reported numbers").
use Rattle.std.specs.Prelude.{Bool, cond, ◌&&◌, ◌||◌, List, [], ◌∷◌, ◌++◌, ℕ, ◌+◌, ◌*◌, ◌-◌, eqb, ltb, length, replicate}
use Rattle.std.proofs.Math.Option.{Option, none, some}
use Rattle.definition.specs.Texts.{txt}
use Rattle.definition.specs.Lists.{count, total, gather}
use Rattle.definition.specs.Edition.{Edition, Room}
use Rattle.definition.specs.Shape.{refused2, refused3, refused4}
use Rattle.definition.specs.References.{refused5}
use Rattle.definition.specs.Meaning.{refused6}
use Rattle.definition.specs.Read.{read, all_trees}
use Rattle.definition.specs.Offsets.{offsets, refused7}
use Rattle.definition.specs.Tokens.{Token, Line, keyword, text_of}
use Rattle.definition.specs.Blocks.{lower}
use Rattle.definition.specs.Sorts.{first_is}
use Rattle.definition.specs.Passes.{Passed, structure_ifs, structure_do_while, drop_unused_labels}
use Rattle.definition.specs.Passes.Passed.{done, too_deep}

pub record Listing : Type 0 where
  pub lines : List Line
  pub ifs : ℕ
  pub loops : ℕ

pub data Outcome : Type 0 where
  refused : ℕ → Outcome
  listed : Listing → Outcome

-- lines, tokens and bytes of lines
unfoldable pub token_count : List Line → ℕ
token_count ls = total (λ x. length x.toks) ls

unfoldable pub byte_count : List Line → ℕ
byte_count ls = total (λ x. length (text_of x.toks)) ls

-- 8: lowering writes more than there is room for
unfoldable pub refused8 : Room → List Line → Bool
refused8 R ls = ltb R.lines (length ls) || ltb R.tokens (token_count ls) || ltb R.bytes (byte_count ls)

-- the three passes over the lowered lines; 9 where one of them goes too deep
unfoldable pub after_loops : ℕ → Passed → Outcome
after_loops ifs too_deep = refused 9
after_loops ifs (done loops ls) = listed (record { lines = drop_unused_labels ls; ifs = ifs; loops = loops })

unfoldable pub after_ifs : Passed → Outcome
after_ifs too_deep = refused 9
after_ifs (done ifs ls) = after_loops ifs (structure_do_while ls)

unfoldable pub structure : List Line → Outcome
structure ls = after_ifs (structure_ifs ls)

unfoldable pub fitting : Edition → List Line → Outcome
fitting E ls = cond (refused8 E.lowered ls) (refused 8) (structure ls)

-- the function of a file that passes 2 to 6
unfoldable pub printed : Edition → List ℕ → Outcome
printed E f =
    let F = read E f in
    let t = offsets F in
    cond (refused7 t (all_trees E f)) (refused 7) (fitting E (lower F t))

-- the first of 2 to 6 that refuses the file, or 0
unfoldable pub checked : Edition → List ℕ → ℕ
checked E f =
    cond (refused2 E f) 2
    (cond (refused3 E f) 3 (cond (refused4 E f) 4 (cond (refused5 E f) 5 (cond (refused6 E f) 6 0))))

unfoldable pub list : Edition → List ℕ → Outcome
list E f = cond (eqb (checked E f) 0) (printed E f) (refused (checked E f))

-- the lines whose first token is the keyword `if`
unfoldable pub tests : List Line → ℕ
tests ls = count (λ x. first_is (keyword (txt "if")) x.toks) ls

-- ---- the lent buffers, as numbers
-- a line's five numbers: whether it has an address, the address, its indent, the end of its tokens, 0
abbrev pub has_address : Option ℕ → ℕ
has_address none = 0
has_address (some a) = 1

abbrev pub address_of : Option ℕ → ℕ
address_of none = 0
address_of (some a) = a

abbrev pub line_numbers : ℕ
line_numbers = 5

unfoldable pub line_words : ℕ → List Line → List ℕ
line_words n [] = []
line_words n (x ∷ xs) =
    let m = n + length x.toks in
    has_address x.addr ∷ address_of x.addr ∷ x.indent ∷ m ∷ 0 ∷ line_words m xs

-- a token's number: eight times the end of its text, and its kind
unfoldable pub token_words : ℕ → List Token → List ℕ
token_words n [] = []
token_words n (t ∷ ts) = let m = n + length t.text in (8 * m + t.kind) ∷ token_words m ts

unfoldable pub tokens_of : List Line → List Token
tokens_of ls = gather (λ x. x.toks) ls

-- zeros behind
unfoldable pub padded : ℕ → List ℕ → List ℕ
padded n l = l ++ replicate (n - length l) 0

-- how many numbers the caller lends for lines, tokens and text
pub record Lent : Type 0 where
  pub lines : ℕ
  pub tokens : ℕ
  pub text : ℕ

-- the number of the refusal or 0, the counts, and the buffers
pub record Result : Type 0 where
  pub number : ℕ
  pub lines : ℕ
  pub tokens : ℕ
  pub bytes : ℕ
  pub ifs : ℕ
  pub loops : ℕ
  pub tests : ℕ
  pub line_buffer : List ℕ
  pub token_buffer : List ℕ
  pub text_buffer : List ℕ

unfoldable pub refusal : Lent → ℕ → Result
refusal B n = record {
  number = n;
  lines = 0;
  tokens = 0;
  bytes = 0;
  ifs = 0;
  loops = 0;
  tests = 0;
  line_buffer = replicate B.lines 0;
  token_buffer = replicate B.tokens 0;
  text_buffer = replicate B.text 0;
}

unfoldable pub success : Lent → Listing → Result
success B L =
    let ts = tokens_of L.lines in
    record {
      number = 0;
      lines = length L.lines;
      tokens = token_count L.lines;
      bytes = byte_count L.lines;
      ifs = L.ifs;
      loops = L.loops;
      tests = tests L.lines;
      line_buffer = padded B.lines (line_words 0 L.lines);
      token_buffer = padded B.tokens (token_words 0 ts);
      text_buffer = padded B.text (text_of ts);
    }

unfoldable pub result_of : Lent → Outcome → Result
result_of B (refused n) = refusal B n
result_of B (listed L) = success B L

-- 1: a lent buffer is not of its length; of the scratch, `ready` says that it is as documented
unfoldable pub fits_in : Room → Lent → Bool
fits_in R B = eqb B.lines (line_numbers * R.lines) && eqb B.tokens R.tokens && eqb B.text R.bytes

abbrev pub fits : Edition → Lent → Bool
fits E B = fits_in E.lent B

unfoldable pub result : Edition → Lent → Bool → List ℕ → Result
result E B ready f = cond (ready && fits E B) (result_of B (list E f)) (refusal B 1)
