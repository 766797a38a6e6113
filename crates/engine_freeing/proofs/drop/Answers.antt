-- An unrun event leaves; where the code does nothing, the node is no event's.
use Rattle.engine_index.proofs.Changes.FromCalls.{drop_made}
use Rattle.engine_freeing.proofs.drop.Goals as goal

pub returns : goal.returns
returns c =
    let a = c.args in
    let w = drop_made a.n a.c a.b.now a.x c.free.ensures in
    record { frame = w.0; drops = w.1.0; spares = w.1.1.0; sets = w.1.1.1 }
