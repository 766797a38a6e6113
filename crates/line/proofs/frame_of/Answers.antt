-- Each way through the code settles the two tests of the definition.
use native.Mathlib.Omega.{arith}
use Prim.Native.Nat.{◌/◌, ◌%◌}
use borrow.Author.Tests.{lt-ltb, le-ltb, le-leb, lt-leb}
use Rattle.line.specs.Matter.{frame_of}
use Rattle.line.proofs.frame_of.Goals as goal

pub returns-then-origin-stations : goal.returns-then-origin-stations
unfolding frame_of
returns-then-origin-stations c = let a = c.args in rw (le-leb (a.value / 256) 3 (omega arith), lt-ltb (a.value % 256) a.stations (omega arith))

pub returns-else-origin-stations : goal.returns-else-origin-stations
unfolding frame_of
returns-else-origin-stations c = let a = c.args in rw (le-leb (a.value / 256) 3 (omega arith), le-ltb (a.value % 256) a.stations (omega arith))

pub returns-else-repeats-le3 : goal.returns-else-repeats-le3
unfolding frame_of
returns-else-repeats-le3 c = let a = c.args in rw (lt-leb (a.value / 256) 3 (omega arith))
