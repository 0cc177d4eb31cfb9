use Rattle.std.proofs.Common.{rules}
use Rattle.definition.specs.Owners.{first_stmt, block_stmts}
use Rattle.sections.proofs.layout.stmts_owned.Goals as goal

pub returns : goal.returns
unfolding first_stmt
returns c = let e = c.add_up.ensures (block_stmts c.args.f.now) (λ i k q. search rules) in cc
