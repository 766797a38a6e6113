-- The two spaces stand, and a '#' for each round.
use Rattle.std.proofs.Common.{◌∷◌, replicate}
use Rattle.std.specs.Fmt.{HasWritten, IsPlainFormatter}
use Rattle.quote_hours.proofs.BarDisplay.fmt.Given as goal

abbrev pub invariant-loop : goal.invariant-loop
invariant-loop g l = IsPlainFormatter l.fn.f → HasWritten g.W.Write.write_str_gives l.fn.f (32 ∷ 32 ∷ replicate l.counter 35) l.f
