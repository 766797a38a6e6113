-- The first free node and the one after it say how many places are free.
use mathlib.Core.Path.{sym, ◌∙◌}
use Rattle.engine_promises.proofs.FreePlaces.{room_none, room_one, room_two}
use Rattle.engine_running.proofs.free_places.Goals as goal

pub returns-then-x-eq0 : goal.returns-then-x-eq0
returns-then-x-eq0 c = room_none _ c.first_free-x.ensures c.if-x-eq0.true

pub returns-then-next-free_ring : goal.returns-then-next-free_ring
returns-then-next-free_ring c =
    room_one _ c.first_free-x.ensures c.free_ring.ensures c.if-x-eq0.false (sym c.next.ensures ∙ c.if-next-free_ring.true)

pub returns : goal.returns
returns c =
    room_two _ c.first_free-x.ensures c.free_ring.ensures c.if-x-eq0.false (λ e. c.if-next-free_ring.false (c.next.ensures ∙ e))
