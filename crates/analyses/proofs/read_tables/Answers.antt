-- Loads and phi reads need only the file and its numbers; the order is made first, and the live reads and last readers go by it.
use Rattle.analyses.proofs.Gathered.{ready, by_numbers, runs, all_read}
use Rattle.analyses.proofs.read_tables.Goals as goal

pub order-requires : goal.order-requires
order-requires c = ready _ _ _ _ _ _ _ _ c.requires

pub loads-requires : goal.loads-requires
loads-requires c = (c.requires.no_loads, c.requires.exprs)

pub live_reads-requires : goal.live_reads-requires
live_reads-requires c = let pre = c.requires in
    let order = c.order in
    record { numbers = by_numbers _ _ _ _ _ _ _ _ (pre) _ pre.no_live; runs = runs _ _ _ _ _ _ _ _ (pre) _ _ order.ensures order.auto.order order.auto.starts }

pub phi_reads-requires : goal.phi_reads-requires
phi_reads-requires c = by_numbers _ _ _ _ _ _ _ _ c.requires _ c.requires.no_phi

pub readers-requires : goal.readers-requires
readers-requires c = let pre = c.requires in
    let order = c.order in
    record { numbers = by_numbers _ _ _ _ _ _ _ _ (pre) _ pre.no_readers; runs = runs _ _ _ _ _ _ _ _ (pre) _ _ order.ensures order.auto.order order.auto.starts }

pub returns : goal.returns
returns c = all_read _ _ _ _ _ _ _ _ c.requires _ _ c.order.ensures c.order.auto.order c.order.auto.starts _ _ _ _ c.loads.ensures c.loads.auto.loads c.live_reads.ensures c.phi_reads.ensures c.readers.ensures
