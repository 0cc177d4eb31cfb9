-- What is really read at entry is found first, from zeros; with it, the roots and the places, the codes that naming leaves are the names.
use Rattle.analyses.proofs.Gathered.{for_names, all_named}
use Rattle.analyses.proofs.name_variables.Goals as goal

pub entry_reads-requires : goal.entry_reads-requires
entry_reads-requires c = record { numbered = for_names _ _ _ _ _ _ c.requires.nameable; ordered = c.requires.nameable.flat; tab_value = c.requires.nameless.no_entry }

pub naming-requires : goal.naming-requires
naming-requires c = let pre = c.requires in
    record { numbered = for_names _ _ _ _ _ _ pre.nameable; ordered = pre.nameable.flat; numbers_len_bound = pre.nameable.few; names_value = (pre.nameless.no_names, pre.nameless.no_seen) }

pub returns : goal.returns
returns c = all_named _ _ _ _ _ _ c.requires.nameable _ _ _ c.entry_reads.ensures c.naming.ensures
