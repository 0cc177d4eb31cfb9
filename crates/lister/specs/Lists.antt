-- The printer as one equation: the answer and the lent buffers are the definition's result, and all scratch ends as zeros.
use Rattle.std.specs.Prelude.{◌≡◌, Bool, ◌&&◌, List, ℕ, length}
use Rattle.definition.specs.Edition.{edition1}
use Rattle.definition.specs.Listing.{result}
use Rattle.tables.specs.Tables.{Tables, zeros, cleared, long}
use Rattle.lent.specs.declared.answer.Answer.{Answer}
use Rattle.lent.specs.Answers.{answered}
use Rattle.lent.specs.Lengths.{lent_of, low_fits}

-- the scratch is as documented: room for lowered lines, and all tables
unfoldable pub ready : List ℕ → List ℕ → List ℕ → Tables → Bool
ready ls ks t T = low_fits edition1 (lent_of (length ls) (length ks) (length t)) && long T

pub record Lists (f l d x : List ℕ) (r : Answer) (l' d' x' ls ks t ls' ks' t' : List ℕ) (T T' : Tables) : Type 0 where
  pub listing : answered r l' d' x' ≡ result edition1 (lent_of (length l) (length d) (length x)) (ready ls ks t T) f
  pub low_lines_lem : ls' ≡ zeros ls
  pub low_tokens_lem : ks' ≡ zeros ks
  pub low_text_lem : t' ≡ zeros t
  pub tables : T' ≡ cleared T
