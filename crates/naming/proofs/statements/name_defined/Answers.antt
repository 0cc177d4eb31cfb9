-- Where nothing is defined there is no spot and all stays; where one value is, naming it is the walk over its one spot.
use Rattle.naming.proofs.Walking.{defined_none, defined_one}
use Rattle.naming.proofs.statements.name_defined.Goals as goal

pub returns-in-None : goal.returns-in-None
returns-in-None c = defined_none _ _ _ c.args.d (cc)

pub returns-in-Some : goal.returns-in-Some
returns-in-Some c = defined_one _ _ _ c.args.d _ c.in-Some.v (cc) c.name_key.ensures
