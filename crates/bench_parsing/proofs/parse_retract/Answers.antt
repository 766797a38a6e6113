-- The line is the word retract with one number after it, or it is no command's.
use Rattle.bench_parsing.proofs.Accepting.{refuses_retract, takes_retract}
use Rattle.bench_parsing.proofs.parse_retract.Goals as goal

pub returns-in_default : goal.returns-in_default
returns-in_default c = (refuses_retract _ c.requires (c.last_number.ensures.absent c.in_default.is))

pub returns : goal.returns
returns c = let h = c.last_number.ensures.found _ c.in-Some.is in takes_retract _ c.requires _ h.0 h.1
