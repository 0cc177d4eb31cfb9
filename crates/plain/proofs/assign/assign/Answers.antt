-- The tables say of its value whether it is gone or restored, and then the definition has no line; otherwise its tokens end at its address.
use Rattle.plain.proofs.Assigning.{gone_is, restore_is}
use Rattle.lowering.proofs.Lines.{left_out, not_out, line_put}
use Rattle.plain.proofs.Lines.{inside, assign_lines}
use Rattle.plain.proofs.Searching.{stmts_low}
use Rattle.plain.proofs.assign.assign.Goals as goal

pub number_of-m-requires : goal.number_of-m-requires
number_of-m-requires c = stmts_low _ c.args.src.now.of.bytes _ c.args.src.now.told.ground.where_all

pub returns-then-is_gone : goal.returns-then-is_gone
returns-then-is_gone c =
    let pre = c.requires in
    λ E H pend set s. left_out _ _ _ _ (assign_lines E _ H pend set _ _ pre.i_value) (gone_is _ c.args.src.now.of.bytes _ _ _ _ _ _ c.args.src.now.told _ pre.i_value (inside _ _ _ pre.i_lt_end) _ c.number_of-m.ensures E _ c.is_gone.ensures) _ c.if-is_gone.true

pub returns-then-is_restore : goal.returns-then-is_restore
returns-then-is_restore c =
    let pre = c.requires in
    let shared_slice_known = c.shared_slice_known-1 in
    let number_of_lem = c.number_of-m in
    λ E H pend set s. left_out _ _ _ _ (not_out _ _ _ _ (assign_lines E _ H pend set _ _ pre.i_value) (gone_is _ c.args.src.now.of.bytes _ _ _ _ _ _ c.args.src.now.told _ pre.i_value (inside _ _ _ pre.i_lt_end) _ number_of_lem.ensures E _ c.is_gone.ensures) c.if-is_gone.false) (restore_is _ c.args.src.now.of.bytes _ _ _ _ _ _ c.args.src.now.told _ pre.i_value (inside _ _ _ pre.i_lt_end) _ number_of_lem.ensures E s _ _ pre.classed _ _ (c.is_restore.ensures E s)) _ c.if-is_restore.true

pub put_assign-out-requires : goal.put_assign-out-requires
put_assign-out-requires c = (c.requires.i_value, inside _ _ _ c.requires.i_lt_end)

pub returns : goal.returns
returns c =
    let pre = c.requires in
    let shared_slice_known = c.shared_slice_known-1 in
    let number_of_lem = c.number_of-m in
    λ E H pend set s. line_put _ _ _ _ _ _ _ _ _ _ (not_out _ _ _ _ (not_out _ _ _ _ (assign_lines E _ H pend set _ _ pre.i_value) (gone_is _ c.args.src.now.of.bytes _ _ _ _ _ _ c.args.src.now.told _ pre.i_value (inside _ _ _ pre.i_lt_end) _ number_of_lem.ensures E _ c.is_gone.ensures) c.if-is_gone.false) (restore_is _ c.args.src.now.of.bytes _ _ _ _ _ _ c.args.src.now.told _ pre.i_value (inside _ _ _ pre.i_lt_end) _ number_of_lem.ensures E s _ _ pre.classed _ _ (c.is_restore.ensures E s)) c.if-is_restore.false) (c.put_assign-out.ensures E s) c.end_stmt.ensures
