-- The parameters' classes are seen first, then the walk over the blocks names the rest: the definition's codes; `seen`, as long still, is cleared.
use Rattle.naming.proofs.Small.{args_fit}
use Rattle.naming.proofs.Named.{names_all}
use lib.ListN.{length, length-replicate}
use mathlib.Core.Path.{ap, ◌∙◌}
use Rattle.naming.proofs.naming.Goals as goal

pub see_params-requires : goal.see_params-requires
see_params-requires c = args_fit c.args.f.now _ _ c.requires.numbered.room c.requires.numbers_len_bound c.params-n.ensures.few

pub returns : goal.returns
returns c =
    let given = c.args in
    let pre = c.requires in
    let see_params = c.see_params in
    let name_blocks = c.name_blocks in
    names_all given.f.now c.type_inv.f given.numbers.now _ _ _ pre.numbered pre.numbers_len_bound _ c.params-n.ensures _ _ _ _ _ _ _ pre.names_value see_params.ensures name_blocks.ensures c.clear.ensures (name_blocks.auto.seen ∙ see_params.auto.seen ∙ ap length pre.names_value.1 ∙ length-replicate _ _)
