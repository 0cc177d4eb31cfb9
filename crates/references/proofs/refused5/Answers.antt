-- Each test counts where those before hold: one that fails refuses, and being owned once decides last; its table was left as zeros.
use Rattle.std.proofs.Common.{arith}
use Rattle.std.proofs.lemmas.Bool.Decides.{nat_tests}
use Rattle.definition.specs.References.{refused5}
use Rattle.printable.specs.Texts.{texts_sound}
use Rattle.records.proofs.Items.{items_few}
use Rattle.references.proofs.refused5.Goals as goal

pub owned_once-once-requires-clause-statements_bound : goal.owned_once-once-requires-clause-statements_bound
owned_once-once-requires-clause-statements_bound c = items_few _ c.type_inv.f c.requires.f_value

pub all_roots_inside-requires : goal.all_roots_inside-requires
all_roots_inside-requires c = items_few _ c.type_inv.f c.requires.f_value

pub returns : goal.returns
unfolding refused5 texts_sound
returns c = record { says = grind (arith, nat_tests); left = c.owned_once-once.ensures.left }
