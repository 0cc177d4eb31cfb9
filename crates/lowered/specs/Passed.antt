-- What lowering is given behind checks 1 to 7: n is their refusal, or 0, and then the tables are those of the file.
use Rattle.std.specs.Prelude.{◌≡◌, List, ℕ, ◌*◌, length, replicate}
use Rattle.definition.specs.Edition.{edition1}
use Rattle.definition.specs.Listing.{line_numbers}
use Rattle.lower.specs.Given.{Lowers}

pub record Passes (f : List ℕ) (n : ℕ) (l k x numbers offs places names live phi roots marks labels : List ℕ) : Type 0 where
  pub no_lines : l ≡ replicate (length l) 0
  pub no_tokens : k ≡ replicate (length k) 0
  pub no_text : x ≡ replicate (length x) 0
  pub room : n ≡ 0 → (length l ≡ line_numbers * edition1.lowered.lines) × (length k ≡ edition1.lowered.tokens) × (length x ≡ edition1.lowered.bytes)
  pub given : n ≡ 0 → Lowers f 8 numbers offs places names live phi roots marks labels
