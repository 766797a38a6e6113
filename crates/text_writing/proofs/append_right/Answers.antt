-- The spaces, then the number.
use Rattle.std.proofs.Common.{◌≡◌, ap, ℕ, ◌-◌, ◌++◌, length, replicate, arith}
use Rattle.text.specs.Decimal.{decimal}
use Rattle.text.specs.Padded.{right_in}
use Rattle.text_writing.proofs.Appending.{appends_join, read_as}
use Rattle.text_writing.proofs.append_right.Goals as goal

pub returns : goal.returns
unfolding right_in
returns c =
    let a = c.args in
    let spaces : c.saturating_sub.result ≡ a.wide - length (decimal a.v) = omega (arith, c.width.ensures, c.saturating_sub.ensures) in
    read_as (ap (λ (n : ℕ). replicate n 32 ++ decimal a.v) spaces) (appends_join c.append_times-a.ensures c.append_number.ensures)
