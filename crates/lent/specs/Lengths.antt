-- Lengths of lines, tokens and text.
use Rattle.std.specs.Prelude.{Bool, ℕ}
use Rattle.definition.specs.Edition.{Edition}
use Rattle.definition.specs.Listing.{Lent, fits_in}

abbrev pub lent_of : ℕ → ℕ → ℕ → Lent
lent_of lines tokens text = record { lines = lines; tokens = tokens; text = text }

-- room for what lowering may write, exactly
abbrev pub low_fits : Edition → Lent → Bool
low_fits E B = fits_in E.lowered B
