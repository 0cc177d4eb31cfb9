-- In a shaped file the case of the record is the statement's kind: six kinds have the lines of their callees, and Flags have none.
use Rattle.statements.specs.Statement.{kind_number}
use Rattle.lower.proofs.Sorted.{kind_is, flags_none, ends_there, inside, here_at_lem, call_at, branch_at}
use Rattle.lower.proofs.stmt.stmt.Goals as goal

pub assign-requires : goal.assign-requires
unfolding kind_number
assign-requires c = let pre = c.requires in
    record { i_value = kind_is _ c.args.given.now.known.shape _ (here_at_lem _ c.args.given.now.known.told.ground.counts _ _ _ _ pre.stmt_at) _ _ c.stmt_at.ensures _ c.in-Assign.is; i_lt_end = inside _ c.args.given.now.known.told.ground.counts _ _ _ _ pre.stmt_at; classed = c.args.given.now.known.classed }

pub store-requires : goal.store-requires
unfolding kind_number
store-requires c = let pre = c.requires in
    record { i_value = kind_is _ c.args.given.now.known.shape _ (here_at_lem _ c.args.given.now.known.told.ground.counts _ _ _ _ pre.stmt_at) _ _ c.stmt_at.ensures _ c.in-Store.is; i_lt_end = inside _ c.args.given.now.known.told.ground.counts _ _ _ _ pre.stmt_at }

pub call-requires : goal.call-requires
unfolding kind_number
call-requires c = let pre = c.requires in
    record { live_reads = c.args.given.now.known.times; phi_reads = c.args.given.now.known.flows; call_at = call_at _ c.args.given.now.known.told.ground.counts _ _ _ _ pre.stmt_at (kind_is _ c.args.given.now.known.shape _ (here_at_lem _ c.args.given.now.known.told.ground.counts _ _ _ _ pre.stmt_at) _ _ c.stmt_at.ensures _ c.in-Call.is) }

pub branch-lines-requires : goal.branch-lines-requires
unfolding kind_number
branch-lines-requires c = let pre = c.requires in
    record { branch_at = branch_at _ c.args.given.now.known.told.ground.counts _ _ _ _ pre.stmt_at (kind_is _ c.args.given.now.known.shape _ (here_at_lem _ c.args.given.now.known.told.ground.counts _ _ _ _ pre.stmt_at) _ _ c.stmt_at.ensures _ c.in-Branch.is); set = pre.set }

pub returns-requires : goal.returns-requires
unfolding kind_number
returns-requires c = let pre = c.requires in
    record { i_value = kind_is _ c.args.given.now.known.shape _ (here_at_lem _ c.args.given.now.known.told.ground.counts _ _ _ _ pre.stmt_at) _ _ c.stmt_at.ensures _ c.in-Return.is; i_lt_end = inside _ c.args.given.now.known.told.ground.counts _ _ _ _ pre.stmt_at }

pub other-requires : goal.other-requires
unfolding kind_number
other-requires c = let pre = c.requires in
    record { i_value = kind_is _ c.args.given.now.known.shape _ (here_at_lem _ c.args.given.now.known.told.ground.counts _ _ _ _ pre.stmt_at) _ _ c.stmt_at.ensures _ c.in-Other.is; i_lt_end = inside _ c.args.given.now.known.told.ground.counts _ _ _ _ pre.stmt_at; live_reads = (c.args.given.now.known.times, c.args.given.now.known.flows); first_value = pre.stmt_at.first }

pub returns-in-Assign : goal.returns-in-Assign
returns-in-Assign c = λ E set s n. c.assign.ensures E _ _ set s

pub returns-in-Store : goal.returns-in-Store
returns-in-Store c = λ E set s n. c.store.ensures E _ _ set s

pub returns-in-Call : goal.returns-in-Call
returns-in-Call c = λ E set s n. c.call.ensures E _ set _ s n

pub returns-in-Branch : goal.returns-in-Branch
returns-in-Branch c = λ E set s n. ends_there E _ _ _ _ _ _ _ _ _ c.requires.stmt_at.ends (c.branch-lines.ensures E _ set s n)

pub returns-in-Flags : goal.returns-in-Flags
returns-in-Flags c =
    let pre = c.requires in
    λ E set s n. flags_none _ c.args.given.now.src.of.bytes c.args.given.now.known.told.ground.counts _ (here_at_lem _ c.args.given.now.known.told.ground.counts _ _ _ _ pre.stmt_at) _ pre.stmt_at.first _ c.stmt_at.ensures _ c.in-Flags.is E _ _ set _ _

pub returns-in-Return : goal.returns-in-Return
returns-in-Return c = λ E set s n. c.returns.ensures E _ _ set s

pub returns-in-Other : goal.returns-in-Other
returns-in-Other c = λ E set s n. c.other.ensures E _ _ set s
