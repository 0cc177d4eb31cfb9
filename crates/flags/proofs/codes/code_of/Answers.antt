-- The bytes that the file has of the text decide: one or two are looked up by letter, and no code has another length.
use native.Mathlib.Omega.{arith}
use mathlib.Core.Path.{refl}
use Rattle.flags.proofs.Parts.{length_is}
use Rattle.flags.proofs.Letters.{other_length}
use Rattle.flags.proofs.codes.code_of.Goals as goal

pub returns-in_default : goal.returns-in_default
returns-in_default c = other_length _ _ (length_is _ _ _ _ c.clip-p.ensures _ refl) (λ e. omega arith) (λ e. omega arith)

pub returns-in_default-2 : goal.returns-in_default-2
returns-in_default-2 c = other_length _ _ (length_is _ _ _ _ c.clip-p.ensures _ refl) (λ e. omega arith) (λ e. omega arith)
