-- By whether the address that is spelled has a name: then the piece is the name's text, and else the spelling.
use Rattle.calls.proofs.Naming.{direct_plain, direct_named}
use Rattle.calls.proofs.direct.put_direct.Goals as goal

pub returns-in-None : goal.returns-in-None
returns-in-None c = λ E s. direct_plain E _ _ _ _ _ s c.offset_of.ensures _ c.name_of.ensures _ _ c.in-None.is c.put_part.ensures

pub returns-in-Some : goal.returns-in-Some
returns-in-Some c = λ E s. direct_named E _ _ _ _ _ s c.offset_of.ensures _ c.name_of.ensures _ _ _ c.in-Some.is c.put_name.ensures
