-- Result, target, bracket, arguments, closing bracket: each callee's pieces behind those before it are the call's tokens.
use Rattle.calling.proofs.Setting.{results_of}
use Rattle.calling.proofs.Whole.{put_call}
use Rattle.calling.proofs.call.put_call.Goals as goal

pub put_result-out-requires : goal.put_result-out-requires
put_result-out-requires c = record { results = results_of _ _ _ _ _ _ _ _ _ c.args.src.now.told c.requires.live_reads c.requires.phi_reads; i_value = (c.requires.call_at.kind, c.requires.call_at.inside) }

pub put_args-out-requires : goal.put_args-out-requires
put_args-out-requires c = let pre = c.requires in
    pre.call_at

pub returns : goal.returns
returns c = λ E s. put_call E _ _ _ _ _ _ _ _ _ _ _ (c.put_result-out.ensures E) (c.put_target-out.ensures E s) c.put-out.ensures (c.put_args-out.ensures E s) c.put.ensures
