-- The new draw is the definition's, and so is its comparison with the noise limit.
use native.Mathlib.Omega.{arith}
use borrow.Author.Tests.{le-leb, lt-leb}
use Rattle.line.specs.Station.{run_frame}
use Rattle.line_running.proofs.run_frame.Goals as goal

pub returns-then-draw-c : goal.returns-then-draw-c
unfolding run_frame
returns-then-draw-c c = rw (← c.drawn-draw.ensures, le-leb c.drawn-draw.result c.args.c.noise (omega arith)) c.run_lost.ensures

pub returns-else-draw-c : goal.returns-else-draw-c
unfolding run_frame
returns-else-draw-c c = rw (← c.drawn-draw.ensures, lt-leb c.drawn-draw.result c.args.c.noise (omega arith)) c.run_heard.ensures
