use native.Mathlib.Omega.{arith}
use mathlib.Core.Path.{refl, ◌∙◌}
use Prim.Native.Nat.{ℕ}
use Rattle.definition.specs.Lists.{gather, range}
use Rattle.definition.proofs.Runs.{loop_start, lists_turn, lists_end}
use Rattle.places.specs.Keys.{places_of}
use Rattle.reads.specs.Counts.{visit, slots}
use Rattle.marks.specs.Reading.{classed, reading}
use Rattle.marks.proofs.Rooting.{read_done}
use Rattle.marks.proofs.roots.read_roots.Goals as goal

pub loop-i-init : goal.loop-i-init
loop-i-init c = let given = c.args in ((λ E k s e. loop_start (λ (m : ℕ). visit (classed given.roots.now) given.tab.now (gather (λ (j : ℕ). slots given.of.now.numbers.now (places_of given.of.now.f.now).exprs (reading E given.of.now.f.now k j)) (range 0 m))) _ _ c.size_of-n.ensures), c.size_of-n.ensures, refl)

pub mark_stmt-requires : goal.mark_stmt-requires
mark_stmt-requires c = let inv = c.loop-i.invariant in record { ordered = c.requires.ordered; i_bound = omega (arith, c.loop-i-test.true, inv.1) }

pub loop-i-preserved : goal.loop-i-preserved
unfolding visit
loop-i-preserved c = let inv = c.loop-i.invariant in ((λ E k s e. inv.0 E k s e ∙ lists_turn (visit _) _ (λ l. refl) (λ l x xs. refl) (λ (j : ℕ). slots c.args.of.now.numbers.now (places_of c.args.of.now.f.now).exprs (reading E c.args.of.now.f.now k j)) _ _ _ _ c.loop-i-test.true (c.mark_stmt.ensures E k s e)), inv.1, c.mark_stmt.auto.tab ∙ inv.2)

pub returns : goal.returns
unfolding visit
returns c =
    let given = c.args in
    let pre = c.requires in
    let g = c.args.of.now.ground in
    read_done given.of.now.f.now c.args.of.now.bytes _ given.of.now.numbers.now given.offsets.now given.roots.now _ _ (record { counts = g.counts; where_all = refl; room = g.room; values = g.values }) pre.tab_value (λ E k s e. lists_end (visit _) _ (λ l. refl) (λ l x xs. refl) (λ (j : ℕ). slots given.of.now.numbers.now (places_of given.of.now.f.now).exprs (reading E given.of.now.f.now k j)) _ _ _ _ c.loop-i-test.false (c.loop-i.invariant.0 E k s e))
