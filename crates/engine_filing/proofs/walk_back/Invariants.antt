-- The walk: what is left of it, from the node reached, is the whole of it.
use Rattle.std.proofs.Common.{◌≡◌, ◌-◌}
use Rattle.rings.specs.Table.{prev_of}
use Rattle.rings.specs.Walk.{steps}
use Rattle.engine_index.specs.Steps.{stop_at}
use Rattle.engine_filing.proofs.walk_back.Given as goal

abbrev pub invariant-loop : goal.invariant-loop
invariant-loop l =
    steps (prev_of l.b l.o) (stop_at l.b l.n l.s l.e) (l.fuel - l.counter) l.at ≡ steps (prev_of l.b l.o) (stop_at l.b l.n l.s l.e) l.fuel l.a
