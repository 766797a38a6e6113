-- The line is the word read with two numbers after it, or it is none where the first of them is missing.
use Rattle.std.proofs.Common.{refl, [], ◌∷◌}
use Rattle.text_reading.proofs.Chains.{end, more, no_next, no_last, with_last}
use Rattle.scenario.specs.declared.Order.TheVariants.{Read}
use Rattle.scenario.proofs.Taking.{takes_numbers, refuses_read}
use Rattle.scenario.proofs.read_order.Goals as goal

pub returns-in_err-station : goal.returns-in_err-station
returns-in_err-station c =
    rw c.from_residual.ensures
    (refuses_read _ c.requires (λ station time f q. no_next _ end c.number_after.ensures c.in_err-station.was [] station (time ∷ []) refl tt f.0 q))

pub returns-in_err-time : goal.returns-in_err-time
returns-in_err-time c =
    rw c.from_residual-in_err-time.ensures
    (refuses_read _ c.requires
    (λ station time f q.
    no_last _ (more c.number_after.ensures c.in_ok-station.was end) c.last_number.ensures c.in_err-time.was (station ∷ []) time refl ((f.0, tt)) f.1 q))

pub returns : goal.returns
returns c =
    let s = c.in_ok-station.was in
    let t = c.in_ok-time.was in
    takes_numbers _ (Read _ _) 4 (((c.number_after.ensures.found _ s).0, (c.last_number.ensures.found _ t).0)) c.requires
    (with_last _ (more c.number_after.ensures s end) c.last_number.ensures t)
