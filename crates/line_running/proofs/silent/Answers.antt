-- The counts of a state are numbers of 32 bits, so none of them passes.
use mathlib.Core.Path.{sym}
use native.Mathlib.Omega.{arith}
use Rattle.line.specs.Station.{silent}
use Rattle.line_running.proofs.Answers.{kept}
use Rattle.line_running.proofs.silent.Goals as goal

pub returns : goal.returns
unfolding silent
returns c = record { said = sym (kept _ (omega arith) (omega arith) (omega arith)); one = λ e h. cc }
