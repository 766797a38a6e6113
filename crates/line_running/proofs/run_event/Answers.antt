-- The event's matter picks the definition's case.
use Rattle.line.specs.Station.{run_at, run_matter, run_level}
use Rattle.line_running.proofs.run_event.Goals as goal

pub returns-in-Read : goal.returns-in-Read
unfolding run_at run_matter
returns-in-Read c = rw c.in-Read.is c.run_read.ensures

pub returns-in-Frame : goal.returns-in-Frame
unfolding run_at run_matter
returns-in-Frame c = rw c.in-Frame.is c.run_frame.ensures

pub returns-in-Level : goal.returns-in-Level
unfolding run_at run_matter run_level
returns-in-Level c = rw c.in-Level.is c.silent.ensures.said
