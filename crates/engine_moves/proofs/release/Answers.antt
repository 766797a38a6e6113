-- The first of all held events leaves (`release-made`).
use Rattle.engine_moves.proofs.FromCalls.Leave.{release_made}
use Rattle.engine_moves.proofs.release.Goals as goal

pub returns : goal.returns
returns c =
    let a = c.args in
    let r = c.release.ensures in
    let w = release_made a.n a.c a.x (r.frame, (r.releases, r.spares)) in
    record { frame = w.0; releases = w.1 }
