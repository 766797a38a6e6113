-- The lowest station's time decides.
use Rattle.engine_committing.proofs.UnrunBefore.{none_earlier, some_earlier}
use Rattle.engine_committing.proofs.unrun_before.Goals as goal

pub returns-in-Ok : goal.returns-in-Ok
returns-in-Ok c = some_earlier c.args.time c.in-Ok.ensures

pub returns-in-Err : goal.returns-in-Err
returns-in-Err c = none_earlier c.args.time c.in-Err.ensures
