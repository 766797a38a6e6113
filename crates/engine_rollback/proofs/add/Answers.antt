-- The later run events of the target are undone, and the queue takes the event.
use Rattle.std.proofs.Common.{arith}
use Rattle.engine_rollback.proofs.RunCount.{runs_few}
use Rattle.engine_rollback.proofs.FromCalls.{adds}
use Rattle.engine_rollback.proofs.add.Goals as goal

pub returns-clause-few : goal.returns-clause-few
returns-clause-few c = omega (arith, c.roll_back-undone.ensures.fewer, runs_few c.args.n c.args.b.now c.args.c)

pub returns-clause-adds : goal.returns-clause-adds
returns-clause-adds c = adds c.args.n c.args.c c.args.b.now c.roll_back-undone.ensures.undoes c.hold-node.ensures.takes
