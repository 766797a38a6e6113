-- The line is the word level with three numbers after it, or it is none where the first of them is missing.
use Rattle.std.proofs.Common.{refl, [], ◌∷◌}
use Rattle.text_reading.proofs.Chains.{end, more, no_next, no_last, with_last}
use Rattle.scenario.specs.declared.Order.TheVariants.{Level}
use Rattle.scenario.proofs.Taking.{takes_numbers, refuses_level}
use Rattle.scenario.proofs.level_order.Goals as goal

-- ---- a number is missing
pub returns-in_err-station : goal.returns-in_err-station
returns-in_err-station c =
    rw c.from_residual.ensures
    (refuses_level _ c.requires
    (λ station time mm f q. no_next _ end c.number_after.ensures c.in_err-station.was [] station (time ∷ mm ∷ []) refl tt f.0 q))

pub returns-in_err-time : goal.returns-in_err-time
returns-in_err-time c =
    rw c.from_residual-in_err-time.ensures
    (refuses_level _ c.requires
    (λ station time mm f q.
    no_next _ (more c.number_after.ensures c.in_ok-station.was end) c.number_after-2.ensures c.in_err-time.was
    (station ∷ []) time (mm ∷ []) refl ((f.0, tt)) f.1 q))

pub returns-in_err-mm : goal.returns-in_err-mm
returns-in_err-mm c =
    rw c.from_residual-in_err-mm.ensures
    (refuses_level _ c.requires
    (λ station time mm f q.
    no_last _ (more c.number_after.ensures c.in_ok-station.was (more c.number_after-2.ensures c.in_ok-time.was end))
    c.last_number.ensures c.in_err-mm.was (station ∷ time ∷ []) mm refl ((f.0, (f.1, tt))) f.2 q))

-- ---- all three are there
pub returns : goal.returns
returns c =
    let s = c.in_ok-station.was in
    let t = c.in_ok-time.was in
    let m = c.in_ok-mm.was in
    takes_numbers _ (Level _ _ _) 5
    (((c.number_after.ensures.found _ s).0, (c.number_after-2.ensures.found _ t).0, (c.last_number.ensures.found _ m).0))
    c.requires
    (with_last _ (more c.number_after.ensures s (more c.number_after-2.ensures t end)) c.last_number.ensures m)
