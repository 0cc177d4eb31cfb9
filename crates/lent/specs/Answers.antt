-- The answer in numbers, and with the lent buffers as the definition's result.
use Rattle.std.specs.Prelude.{List, ℕ, Ok, Err}
use Rattle.definition.specs.Listing.{Result}
use Rattle.structure.specs.declared.answers.Counts.{Counts}
use Rattle.structure.specs.Answers.{Structured}
use Rattle.lent.specs.declared.answer.Answer.{Answer}

abbrev pub refused_with : ℕ → Answer
refused_with n = record { number = n; lines = 0; tokens = 0; bytes = 0; ifs = 0; loops = 0; tests = 0 }

abbrev pub listed_with : Counts → Answer
listed_with c = record {
  number = 0;
  lines = c.lines;
  tokens = c.tokens;
  bytes = c.bytes;
  ifs = c.ifs;
  loops = c.loops;
  tests = c.tests;
}

unfoldable pub answer_of : Structured → Answer
answer_of (Err e₀) = refused_with 9
answer_of (Ok c) = listed_with c

-- l, d and x are the lent buffers
unfoldable pub answered : Answer → List ℕ → List ℕ → List ℕ → Result
answered a l d x = record {
  number = a.number;
  lines = a.lines;
  tokens = a.tokens;
  bytes = a.bytes;
  ifs = a.ifs;
  loops = a.loops;
  tests = a.tests;
  line_buffer = l;
  token_buffer = d;
  text_buffer = x;
}
