-- The tariff at the line's number, where it has one.
use Rattle.tariff_console.proofs.Telling.{no_number, a_number}
use Rattle.tariff_console.proofs.tell.Goals as goal

pub returns-in_err-number : goal.returns-in_err-number
returns-in_err-number c = rw c.from_residual.ensures (no_number _ _ c.sole_number.ensures c.in_err-number.was)

pub returns : goal.returns
returns c = a_number _ _ c.sole_number.ensures _ c.in_ok-number.was c.at.ensures
