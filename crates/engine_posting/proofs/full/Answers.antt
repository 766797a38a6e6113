-- No place is free where there is no free node.
use Rattle.engine_promises.proofs.FreePlaces.{full_is}
use Rattle.engine_posting.proofs.full.Goals as goal

pub returns : goal.returns
returns c = full_is c.first_free.result c.first_free.ensures
