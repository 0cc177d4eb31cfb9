-- By what is set: one variable gets the form with its name, nothing and more than one the plain block.
use mathlib.Core.Logic.{inl, inr}
use Rattle.plain.specs.Asm.{asm_of}
use Rattle.plain.specs.declared.sets.Sets.TheVariants.{Nothing, More}
use Rattle.plain.proofs.Printing.{asm_put}
use Rattle.plain.proofs.other.put_asm.Goals as goal

pub returns-in-One : goal.returns-in-One
unfolding asm_of
returns-in-One c = λ E s. asm_put _ _ _ _ _ _ c.in-One.is (c.put_call.ensures E s)

pub returns-in-Nothing : goal.returns-in-Nothing
unfolding asm_of
returns-in-Nothing c = λ E s. elim c.in-Nothing.is [ inl e ↦ asm_put _ _ _ _ Nothing _ e (c.put_block.ensures E s) | inr e ↦ asm_put _ _ _ _ More _ e (c.put_block.ensures E s) ]
