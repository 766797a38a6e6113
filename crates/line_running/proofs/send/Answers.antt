-- A send after the horizon is not made, one more than the largest number passes, and any other is made.
use mathlib.Core.Path.{sym}
use native.Mathlib.Omega.{arith}
use native.Mathlib.Numerals.{add-one}
use Rattle.line.specs.Station.{silent}
use Rattle.line_running.proofs.Answers.{kept, passed, late, timely}
use Rattle.line_running.proofs.send.Goals as goal

pub returns-then-time-gt-HORIZON : goal.returns-then-time-gt-HORIZON
returns-then-time-gt-HORIZON c = record { said = late _ _ _ _ _ (omega arith) c.silent.ensures.said; one = c.silent.ensures.one }

pub returns-then-time-delay : goal.returns-then-time-delay
returns-then-time-delay c =
    record { said = late _ _ _ _ _ (omega arith) c.silent-then-time-delay.ensures.said; one = c.silent-then-time-delay.ensures.one }

pub returns-then-s-eq4294967295 : goal.returns-then-s-eq4294967295
unfolding silent
returns-then-s-eq4294967295 c = record { said = timely _ _ _ _ _ (omega arith) (passed _ (λ h l s. omega arith)); one = λ e h. cc }

pub returns : goal.returns
unfolding silent
returns c =
    record { said = timely _ _ _ _ _ (omega arith) (rw add-one (sym (kept _ (omega arith) (omega arith) (omega arith)))); one = λ e h. cc }
