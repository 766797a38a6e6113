-- The line is the word run alone, or with one number after it, or it is no command's.
use Rattle.bench_parsing.proofs.Accepting.{refuses_run, takes_run, takes_station}
use Rattle.bench_parsing.proofs.parse_run.Goals as goal

pub returns-then-line-eq3 : goal.returns-then-line-eq3
returns-then-line-eq3 c = takes_run _ c.requires c.if-line-eq3.true

pub returns-in_default : goal.returns-in_default
returns-in_default c =
    (refuses_run _ c.requires c.if-line-eq3.false (c.last_number.ensures.absent c.in_default.is))

pub returns : goal.returns
returns c = let h = c.last_number.ensures.found _ c.in-Some.is in takes_station _ c.requires _ h.0 h.1
