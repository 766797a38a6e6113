-- The state that is made is the definition's, and a count of lost frames that passes stays so, whether the frame is repeated or given up.
use native.Mathlib.Omega.{arith}
use native.Mathlib.Numerals.{add-one}
use borrow.Author.Tests.{lt-ltb, le-ltb}
use Rattle.line.specs.Station.{silent, drawn_state, lose, repeat}
use Rattle.line_running.proofs.Answers.{passed, repeat_stays}
use Rattle.line_running.proofs.run_lost.Goals as goal

pub returns-then-s-eq4294967295 : goal.returns-then-s-eq4294967295
unfolding silent drawn_state lose
returns-then-s-eq4294967295 c = repeat_stays _ _ _ _ _ _ (passed _ (λ h l s. omega arith))

pub returns-then-repeats-lt3 : goal.returns-then-repeats-lt3
unfolding drawn_state lose repeat
returns-then-repeats-lt3 c =
    rw (lt-ltb c.args.repeats 3 (omega arith), ← c.requires, ← add-one c.args.repeats, ← add-one c.args.s.lost) c.send.ensures.said

pub returns-else-repeats-lt3 : goal.returns-else-repeats-lt3
unfolding drawn_state lose repeat
returns-else-repeats-lt3 c =
    rw (le-ltb c.args.repeats 3 (omega arith), ← c.requires, ← add-one _) c.silent.ensures.said
