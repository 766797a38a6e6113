-- The stretch's calls, and the commit after them.
use Rattle.engine_until.proofs.TurnLaws.{turn_done, turn_refused}
use Rattle.engine_until.proofs.turn.Goals as goal

pub returns-in-Ok : goal.returns-in-Ok
returns-in-Ok c =
    turn_done c.run_some-ran.ensures c.commit.result c.commit.ensures c.front-c.ensures c.in-Ok.is c.settle.ensures

pub returns-in-Err : goal.returns-in-Err
returns-in-Err c =
    turn_refused c.run_some-ran.ensures c.commit.result c.commit.ensures _ c.in-Err.is c.after_refusal.ensures
