-- The bytes are those of the two stations' plan.
use Rattle.words.specs.Le.{bytes_of}
use Rattle.plan_format.specs.Writing.{record_bytes, pairs_of, records_of, plan_of}
use Rattle.small_lists_making.specs.Plan.{bench_plan}
use Rattle.small_lists_making.proofs.open.Goals as goal

pub returns : goal.returns
unfolding bench_plan plan_of pairs_of records_of record_bytes bytes_of
returns c = c.«open».ensures
