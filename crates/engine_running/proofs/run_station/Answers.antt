-- A number that is no station's is refused (`far-station`); else that station of the line is run.
use Rattle.engine_running.proofs.RunCalls.{far_station, station_run}
use Rattle.engine_running.proofs.run_station.Goals as goal

pub returns-then-station-gt65535 : goal.returns-then-station-gt65535
returns-then-station-gt65535 c = far_station c.if-station-gt65535.true

pub returns : goal.returns
returns c =
    station_run c.stations-n.ensures c.capacity-c.ensures c.run_at.ensures
