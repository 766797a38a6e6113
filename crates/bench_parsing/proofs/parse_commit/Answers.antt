-- The line is the word commit with one number after it, or it is no command's.
use Rattle.bench_parsing.proofs.Accepting.{refuses_commit, takes_commit}
use Rattle.bench_parsing.proofs.parse_commit.Goals as goal

pub returns-in_default : goal.returns-in_default
returns-in_default c = (refuses_commit _ c.requires (c.last_number.ensures.absent c.in_default.is))

pub returns : goal.returns
returns c = let h = c.last_number.ensures.found _ c.in-Some.is in takes_commit _ c.requires _ h.0 h.1
