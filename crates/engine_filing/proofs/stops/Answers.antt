-- The walk stops at the sentinel, and where the event comes before.
use Rattle.engine_index.proofs.Changes.FromCalls.{stops_at, stops_by}
use Rattle.engine_filing.proofs.stops.Goals as goal

pub returns-then-i-s : goal.returns-then-i-s
returns-then-i-s c = stops_at _ _ _ _ c.if-i-s.true

pub returns : goal.returns
returns c = stops_by _ _ _ _ c.if-i-s.false c.slot.ensures c.before-2.ensures
