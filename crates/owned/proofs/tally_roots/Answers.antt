use Rattle.definition.proofs.Runs.{each_turn, each_end}
use Rattle.owned.proofs.Tally.{mention_keeps, tally_none, tally_next}
use native.Mathlib.Omega.{arith}
use mathlib.Core.Path.{refl, ap, ◌∙◌}
use Rattle.owned.specs.Tally.{mentioned, tally}
use Rattle.mentions.specs.Named.{root_at}
use Rattle.mentions.proofs.Naming.{names_start, roots_are}
use Rattle.owned.proofs.tally_roots.Goals as goal

pub loop-k-init : goal.loop-k-init
loop-k-init c = (names_start (tally _) _ (roots_are _ _ _ c.requires.first_value) c.root_count-k-end.ensures, c.root_count-k-end.ensures, refl)

pub root_at-requires : goal.root_at-requires
root_at-requires c = record { k_bound = omega arith; i_bound = c.requires.i_bound }

pub loop-k-preserved : goal.loop-k-preserved
loop-k-preserved c =
    let given = c.args in
    let at_loop = c.loop-k in
    let mention = c.mention in
    let g = root_at given.f.now given.i given.first in
    (at_loop.invariant.0 ∙ each_turn tally mentioned tally_none tally_next g _ _ _ _ c.loop-k-test.true (mention.ensures ∙ ap (mentioned _) c.root_at.ensures), at_loop.invariant.1, mention_keeps _ _ given.table.now _ mention.ensures at_loop.invariant.2)

pub returns : goal.returns
returns c = each_end tally mentioned tally_none tally_next (root_at c.args.f.now c.args.i c.args.first) _ _ _ _ c.loop-k-test.false c.loop-k.invariant.0
