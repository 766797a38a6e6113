-- The line is the word days with one number from 1 to 366 after it, or it is none.
use Rattle.std.proofs.Common.{refl, [], arith}
use Rattle.text_reading.proofs.Chains.{end, no_last, with_last}
use Rattle.scenario.specs.declared.Order.TheVariants.{Days}
use Rattle.scenario.proofs.Taking.{takes_numbers, refuses_days, other_days}
use Rattle.scenario.proofs.days_order.Goals as goal
use Rattle.scenario.proofs.days_order.Goals.{then-days-lt1-via-then-days-lt1, then-days-lt1-via-else-days-lt1+then-days-gt366}

pub returns-in_err-days : goal.returns-in_err-days
returns-in_err-days c =
    rw c.from_residual.ensures
    (refuses_days _ c.requires (λ d f q. no_last _ end c.last_number.ensures c.in_err-days.was [] d refl tt (omega arith) q))

pub returns-then-days-lt1 : goal.returns-then-days-lt1
returns-then-days-lt1 c =
    other_days _ c.requires c.last_number.ensures c.in_ok-days.was
    (λ f. elim c.then-days-lt1.branch [
      | then-days-lt1-via-then-days-lt1 w ↦ omega arith
      | then-days-lt1-via-else-days-lt1+then-days-gt366 w ↦ omega arith
    ])

pub returns : goal.returns
returns c =
    takes_numbers _ (Days _) 4 ((omega arith, omega arith)) c.requires (with_last _ end c.last_number.ensures c.in_ok-days.was)
